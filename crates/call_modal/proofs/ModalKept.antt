-- The promises of decide_modal are kept.
--
--   of_call, call_held          what holds of the two checks holds of a call that is answered; what it knows of its arguments
--   call_clear                  a call is answered where the store is accepted and no ground of the possible rows, nor 21, holds
--   draft-safe, draft_17        a table without states
--   modal_promises              specs/ModalPromises
use Prim.Native.Nat.{ℕ, ◌*◌, ◌≤◌, ◌<◌}
use native.Mathlib.Nat.{not-suc-le-zero}
use native.Mathlib.Omega.{arith}
use mathlib.Core.Path.{◌≡◌, refl, sym, ap, ◌∙◌, subst}
use mathlib.Core.Bool.{true, false}
use mathlib.Core.List.{List, []}
use lib.ListN.{length, get_or}
use Rattle.basics.specs.Bounds.{any}
use Rattle.model.specs.Sets.{WORDS, max_states, empty}
use Rattle.basics.specs.Refusals.{refuse, refused, answered, unless_refused}
use Rattle.model.specs.Stores.{shared_grounds, AcceptedStore}
use Rattle.model.specs.Calls.{release, Decision, decide_buffer}
use Rattle.basics.proofs.BoundLaws.{any_start}
use Rattle.basics.proofs.RefusalLaws.{Clear, refuse-first, clear_refuse, refuse_clear, answer-refused, answer_clear, answered_clear, answered_value, refused-is}
use Rattle.model.proofs.StoresTables.{zero_non_zero}
use Rattle.model.proofs.StoresAccepted.{accepted_store}
use Rattle.model.proofs.Drafts.{draft}
use Rattle.core_table.proofs.StoresGrounds.{non_zero_hit}
use Rattle.call_modal.specs.Modal.{possible_words, certain_table, possible_table, malformed_rows, certain_impossible, release_check, modal_grounds, ModalAnswer, modal_of, modal_answer, modal_written, modal_buffer}
use Rattle.call_modal.specs.ModalAnswers.{ModalDecision, modal_decided_of, CalledModal}
use Rattle.call_modal.specs.ModalPromises.{OfChoices, ComesWith, AsDecide, ModalPromises}
use Rattle.call_modal.proofs.ModalGrounds.{impossible-is, ModalHeld, behind_shared, accepting, accepted}
use Rattle.call_modal.proofs.ModalFirstWords.{first-words}
use Rattle.call_modal.proofs.Verdicts.{of_choices, comes_with}
use Rattle.call_modal.proofs.RowsEqual.{as_decide, equal_clean}

-- ---- the calls

module _ (store : List ℕ) (n g : ℕ) (possible : List ℕ) where
  abbrev checks : ModalAnswer
  checks = modal_of (release_check (certain_table store n g possible)) (release_check (possible_table store n g possible))

  abbrev left : List ℕ → ModalAnswer → List ℕ
  left before a = modal_written (certain_table store n g possible) (possible_table store n g possible) a.verdict before

  module _ (before : List ℕ) (r : ModalDecision) (after : List ℕ) (a : ModalAnswer) (call : CalledModal store n g possible before r after) (e : modal_decided_of r ≡ answered a) where
    -- what holds of the two checks holds of a call that is answered
    of_call : (Q : ModalAnswer → List ℕ → Type 0) → Q checks (left before checks) → Q a after
    unfolding modal_answer modal_buffer
    of_call Q h =
        let given = sym call.0 ∙ e in
        subst (Q a) (sym (call.1 ∙ ap (unless_refused before (left before)) given))
        (subst (λ (b : ModalAnswer). Q b (left before b)) (sym (answered_value (modal_grounds store n g possible (length before)) _ given)) h)

    call_held : ModalHeld store n g possible × (max_states ≤ length before)
    unfolding modal_answer
    call_held =
        let grounds = modal_grounds store n g possible (length before) in
        accepted store n g possible (length before) (clear_refuse grounds (answered_clear grounds _ (sym call.0 ∙ e)))

call_clear : (store : List ℕ) (n g : ℕ) (possible : List ℕ) (room : ℕ) → AcceptedStore store n g → possible_words ≤ length possible → max_states ≤ room
    → (malformed_rows possible n ≡ false) × (certain_impossible store n possible ≡ false) → Clear (modal_grounds store n g possible room)
call_clear store n g possible room e long roomy clean =
    accepting store n g possible room (refuse_clear (shared_grounds store n g) [] refl e).0 long clean.0 clean.1 roomy

-- ---- a table without states

module _ (store possible before : List ℕ) (e : refuse (shared_grounds store 0 0) ≡ 0) (long : possible_words ≤ length possible) where
  draft-rows : ((i : ℕ) → i < possible_words → get_or possible i 0 ≡ 0) → malformed_rows possible 0 ≡ false
  unfolding malformed_rows any
  draft-rows zero = zero_non_zero possible (WORDS * 0) possible_words (λ i h l. zero i l)

  draft-certain : certain_impossible store 0 possible ≡ false
  unfolding certain_impossible
  draft-certain = any_start _

  draft-safe : max_states ≤ length before → ((i : ℕ) → i < possible_words → get_or possible i 0 ≡ 0)
      → modal_answer store 0 0 possible (length before) ≡ answered (record { verdict = 0; invariant = empty; size = 0; steps = 0 })
  unfolding modal_answer modal_grounds
  draft-safe roomy zero =
      let clear = call_clear store 0 0 possible (length before) e long roomy (draft-rows zero, draft-certain) in
      let ok = (accepted store 0 0 possible (length before) (clear_refuse _ clear)).0 in
      let same = as_decide store 0 0 possible ok (λ s h. absurd (not-suc-le-zero h)) before roomy in
      let d = (draft.decide store release before _ same.0).0 in
      answer_clear (modal_grounds store 0 0 possible (length before)) _ clear
      ∙ (λ i. answered (record {
        verdict = (same.1.verdict ∙ ap (λ (x : Decision). x.verdict) d) i;
        invariant = (same.1.invariant ∙ ap (λ (x : Decision). x.invariant) d) i;
        size = (same.1.size ∙ ap (λ (x : Decision). x.size) d) i;
        steps = (same.1.steps ∙ ap (λ (x : Decision). x.steps) d) i;
      }))

  module _ (i : ℕ) (h : i < possible_words) (f : get_or possible i 0 ≡ 0 → ⊥) where
    draft-malformed : malformed_rows possible 0 ≡ true
    unfolding malformed_rows any
    draft-malformed = non_zero_hit possible (WORDS * 0) possible_words i (omega arith) h f

    draft_17 : modal_answer store 0 0 possible (length before) ≡ refused 17
    unfolding modal_answer
    draft_17 = answer-refused (modal_grounds store 0 0 possible (length before)) _ (behind_shared store 0 0 possible (length before) long (sym e) (refuse-first 0 _ draft-malformed)) (λ z. omega arith)

-- ---- all of it

pub modal_promises : ModalPromises
unfolding modal_answer modal_buffer
modal_promises =
    record {
      choices = λ store n g possible before r after a call e.
          of_call store n g possible before r after a call e (λ b xs. OfChoices store n g possible b)
          (of_choices store n g possible (call_held store n g possible before r after a call e).0);
      comes_with = λ store n g possible before r after a call e.
          of_call store n g possible before r after a call e (λ b xs. ComesWith store n g possible b before xs)
          (comes_with store n g possible (call_held store n g possible before r after a call e).0 before);
      equal_rows = λ store n g possible before r after a call e equal.
          let held = call_held store n g possible before r after a call e in
          let same = as_decide store n g possible held.0 equal before held.1 in
          (_, same.0, of_call store n g possible before r after a call e (AsDecide _ (decide_buffer store n g release before)) same.1);
      equal_rows-answered = λ store n g possible before r after call e long roomy equal zero.
          let clean = equal_clean store n g possible (accepted_store store n g [] e).0 equal zero in
          (_, call.0 ∙ answer_clear (modal_grounds store n g possible (length before)) _ (call_clear store n g possible (length before) e long roomy clean));
      impossible = λ store n possible. impossible-is store possible n;
      refusal = λ store n g possible before r after k call e.
          let given = sym call.0 ∙ e in (
            refused-is (modal_grounds store n g possible (length before)) _ given,
            ap (unless_refused empty (λ (b : ModalAnswer). b.invariant)) e,
            call.1 ∙ ap (unless_refused before (left store n g possible before)) given,
          );
      draft = λ store possible before e long roomy zero. draft-safe store possible before e long roomy zero;
      draft_17 = λ store possible before e long i h f. draft_17 store possible before e long i h f;
      first-words = first-words;
    }
