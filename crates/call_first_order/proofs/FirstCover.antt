-- The cover for the list of the first round, and the order of that round.
--
--   first_cover              with Z added, the cover of the groups is that of the first round
--   accepted                 what a call that is answered knows of its store
--   order_refused, order_listed      the answer of `first_order`
use Prim.Native.Nat.{ℕ, ◌≤◌}
use mathlib.Core.Path.{◌≡◌, refl, sym, ap, ap₂, ◌∙◌}
use mathlib.Core.List.{List, [], ◌∷◌}
use lib.ListN.{length}
use Rattle.model.specs.Sets.{max_states, Set}
use Rattle.model.specs.Tables.{not_forbidden}
use Rattle.model.specs.Rounds.{round_of, first_round}
use Rattle.basics.specs.Refusals.{refuse, Answered, answered}
use Rattle.model.specs.Stores.{set_at, table_of, shared_grounds}
use Rattle.basics.proofs.RefusalLaws.{answer-none}
use Rattle.model.proofs.CoverLaws.{not_forbidden-within}
use Rattle.core_rows.specs.Rows.{rows_of, groups_of, groups_in}
use Rattle.core_rows.proofs.RowsLent.{store_rows, groups_of_lem}
use Rattle.core_fixpoints.specs.Steps.{covers}
use Rattle.core_fixpoints.specs.Order.{forward_order, order_by, padded}
use Rattle.core_fixpoints.proofs.TableOrder.{order_is}
use Rattle.std.specs.Prelude.{Ok, Err}
use Rattle.core_refusals.specs.declared.Refusal.{Refusal}
use Rattle.core_refusals.specs.Refusals.{number}
use Rattle.core_refusals.proofs.RefusalNumbers.{answer_refused}
use Rattle.model.proofs.StoresAccepted.{Store, accepted_store}
use Rattle.core_fixpoints.specs.declared.Expanded.{Expanded}
use Rattle.call_first_order.specs.OrderAnswers.{OrderAnswer, order_answer, CalledFirstOrder}
use Rattle.core_rounds.specs.Adding.{narrowed}
use Rattle.core_rounds.proofs.Adding.{covers-add}

-- ---- the cover

pub first_cover : (n g : ℕ) (groups : List ℕ) (Z : Set) {before cover : List Set} → before ≡ covers n (groups_in groups g) → cover ≡ narrowed before Z
    → cover ≡ covers n (Z ∷ groups_in groups g)
first_cover n g groups Z b c = c ∙ ap (λ (C : List Set). narrowed C Z) b ∙ covers-add n (groups_in groups g) Z

-- ---- the answer

module _ (store : List ℕ) (n g : ℕ) where
  pub order_refused : (r : Refusal) → number r ≡ refuse (shared_grounds store n g) → CalledFirstOrder store n g (Err r)
  unfolding order_answer
  order_refused = answer_refused (λ (o : Expanded). record { count = o.count; states = o.states }) (shared_grounds store n g) _

  pub accepted : 0 ≡ refuse (shared_grounds store n g) → Store store n g
  accepted e = (accepted_store store n g [] (sym e)).0

  module _ (none : 0 ≡ refuse (shared_grounds store n g)) (few : n ≤ max_states) where
    pub order_listed : {Z initial : Set} {cover : List Set} {order : List ℕ} {count : ℕ} → Z ≡ not_forbidden n (table_of store n 0).forbidden
        → cover ≡ covers n (Z ∷ groups_in (groups_of store) g) → initial ≡ set_at store 0
        → order ≡ padded (order_by (rows_of store) cover initial Z) → count ≡ length (order_by (rows_of store) cover initial Z)
        → CalledFirstOrder store n g (Ok (record { count = count; states = order }))
    unfolding order_answer first_round round_of table_of
    order_listed {Z} {initial} {cover} z c i o m =
        let t = table_of store n g in
        let Z0 = not_forbidden n (table_of store n 0).forbidden in
        let same : order_by (rows_of store) cover initial Z ≡ forward_order t (Z0 ∷ t.groups) Z0 =
        ap₂ (λ (C : List Set) (X : Set). order_by (rows_of store) C X Z) (c ∙ ap (λ (L : List Set). covers n (Z ∷ L)) (groups_of_lem store n g)) i
        ∙ ap (λ (X : Set). order_by (rows_of store) (covers n (X ∷ t.groups)) (set_at store 0) X) z
        ∙ order_is t (rows_of store) (store_rows store n g) few (Z0 ∷ t.groups) Z0 (not_forbidden-within n (table_of store n 0).forbidden) in
        let listed : ℕ → List ℕ → Answered OrderAnswer = λ k xs. answered (record { count = k; states = xs }) in
        ap₂ listed (m ∙ ap length same) (o ∙ ap padded same)
        ∙ sym (answer-none (shared_grounds store n g) _ refl (sym none))
