-- How large the numbers of an answer can be: what lays them out in 32 bits asks for.
--
--   ModalRange, modal_range
use Prim.Native.Nat.{ℕ, ◌≤◌}
use native.Mathlib.Omega.{arith}
use mathlib.Core.Path.{◌≡◌, sym, subst}
use mathlib.Core.List.{List}
use lib.Dec.{eqb}
use Rattle.model.specs.Sets.{Set, max_states}
use Rattle.basics.specs.Refusals.{answered}
use Rattle.model.specs.Calls.{release, Decision}
use Rattle.basics.proofs.BoundLaws.{by_cond}
use Rattle.basics.proofs.RefusalLaws.{clear_refuse, answered_clear, answered_value}
use Rattle.model.proofs.RangesOfAnswers.{DecisionRange, run_range}
use Rattle.call_modal.specs.Modal.{certain_row, possible_row, modal_table, release_check, modal_grounds, ModalAnswer, modal_of, modal_answer}
use Rattle.call_modal.proofs.ModalGrounds.{ModalHeld, accepted}
use Rattle.call_modal.proofs.ModalAnswered.{small_for}

pub record ModalRange (a : ModalAnswer) : Type 0 where
  pub size : a.size ≤ max_states
  pub steps : a.steps ≤ max_states

of_checks : (c p : Decision) → DecisionRange c → DecisionRange p → ModalRange (modal_of c p)
unfolding modal_of
of_checks c p r s =
    by_cond ModalRange (eqb p.verdict 0) _ _ (λ e. record { size = s.size; steps = omega arith })
    (λ e.
    by_cond ModalRange (eqb c.verdict 1) _ _
    (λ q. record { size = omega arith; steps = r.steps })
    (λ q. record { size = r.size; steps = s.steps }))

check_range : (store : List ℕ) (n g : ℕ) (possible : List ℕ) → ModalHeld store n g possible
    → (row : ℕ → Set) → DecisionRange (release_check (modal_table store n g possible row))
unfolding release_check
check_range store n g possible ok row = run_range (modal_table store n g possible row) (small_for store n g possible ok row) release

pub modal_range : (store : List ℕ) (n g : ℕ) (possible : List ℕ) (room : ℕ) {a : ModalAnswer} → modal_answer store n g possible room ≡ answered a → ModalRange a
unfolding modal_answer
modal_range store n g possible room e =
    let grounds = modal_grounds store n g possible room in
    let ok = (accepted store n g possible room (clear_refuse grounds (answered_clear grounds _ e))).0 in
    subst ModalRange (sym (answered_value grounds _ e))
    (of_checks _ _ (check_range store n g possible ok (certain_row store n)) (check_range store n g possible ok (possible_row possible n)))
