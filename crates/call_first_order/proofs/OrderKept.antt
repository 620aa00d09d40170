-- The promises of the order (specs/OrderPromises): that of `forward` by its passes, that of first_order by its contract.
use Prim.Native.Nat.{ℕ}
use mathlib.Core.Path.{◌≡◌, refl, sym, ap, ◌∙◌, subst}
use mathlib.Core.List.{List, []}
use lib.ListN.{length, take, drop, replicate}
use lib.Seq.{take_at}
use Rattle.basics.specs.Refusals.{unless_refused}
use Rattle.model.specs.Sets.{max_states}
use Rattle.model.specs.Tables.{Table}
use Rattle.model.specs.Rounds.{first_round}
use Rattle.model.specs.Stores.{table_of, shared_grounds}
use Rattle.model.specs.Calls.{overwrite}
use Rattle.basics.proofs.RefusalLaws.{answered_value, refused-is}
use Rattle.model.proofs.SetsMembers.{subset_in}
use Rattle.model.proofs.StoresFirstWords.{same_call}
use Rattle.core_rows.specs.Rows.{table_on}
use Rattle.core_rows.proofs.RowsLent.{on_rows}
use Rattle.core_fixpoints.specs.Order.{forward_order, padded, InOrder}
use Rattle.core_fixpoints.proofs.Bridge.{least-is}
use Rattle.core_fixpoints.proofs.Passes.{in_order}
use Rattle.core_fixpoints.proofs.TableOrder.{order_is}
use Rattle.call_first_order.specs.OrderAnswers.{OrderAnswer, order_answer}
use Rattle.call_first_order.specs.OrderPromises.{OrderPromises}

-- the order of the first round of a table
abbrev first_order_of : Table → List ℕ
first_order_of t = forward_order t (first_round t).list (first_round t).Z

abbrev listed : Table → OrderAnswer
listed t = record { count = length (first_order_of t); states = padded (first_order_of t) }

padded_front : (xs : List ℕ) → take (length xs) (padded xs) ≡ xs
unfolding padded overwrite
padded_front xs = take_at xs (drop (length xs) (replicate max_states 0)) (length xs) refl

pub promises : OrderPromises
unfolding order_answer table_on
promises =
    record {
      forward = λ n initial forbidden groups rows L Z few within.
          let t = table_on n initial forbidden groups rows in
          subst (InOrder t L Z) (sym (order_is t rows (on_rows n initial forbidden groups rows) few L Z (subset_in within))) (in_order t L Z);
      forward_R = λ n initial forbidden groups rows L Z R within e.
          least-is (table_on n initial forbidden groups rows) rows (on_rows n initial forbidden groups rows) L Z (subset_in within) e;
      first_order = λ store n g r a c e.
          let t = table_of store n g in
          let is = answered_value (shared_grounds store n g) (listed t) (sym c ∙ e) in
          subst (InOrder t (first_round t).list (first_round t).Z)
          (sym (ap (λ (a : OrderAnswer). take a.count a.states) is ∙ padded_front (first_order_of t))) (in_order t (first_round t).list (first_round t).Z);
      refusal = λ store n g r k c e.
          (refused-is (shared_grounds store n g) (listed (table_of store n g)) (sym c ∙ e), ap (unless_refused (padded []) (λ (a : OrderAnswer). a.states)) e);
      first-words = λ store other long long' e n g. same_call store other long long' e listed n g [] refl;
    }
