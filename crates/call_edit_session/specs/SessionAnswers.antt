-- What the calls answer.
--
--   Session        what a call gives; session_of: the set
--   set_after      the set that the caller has after a call: where it is refused, the one that it had before
--   held_after     the same, of what the call gave
--   CalledOpen     a call of `open` and what it gave: its contract
--   CalledEdit     one of `add_step` or `remove_step`, with the store at exit
use Rattle.std.specs.Prelude.{ℕ, ◌≡◌, List, Result}
use Rattle.basics.specs.Refusals.{Answered, unless_refused}
use Rattle.core_refusals.specs.declared.Refusal.{Refusal}
use Rattle.core_refusals.specs.Refusals.{answer_of}
use Rattle.model.specs.Sets.{Set}
use Rattle.core_state_set.specs.declared.StateSet.{StateSet}
use Rattle.call_edit_session.specs.Edits.{Edit, open_answer, edit_answer, edit_buffer}

abbrev pub Session : Type 0
Session = Result StateSet Refusal

abbrev pub session_of : Session → Answered Set
session_of = answer_of (λ X. X.words)

-- It has X before: it hands X in to an edit, and before an opening it has the empty set.
abbrev pub set_after : Set → Answered Set → Set
set_after X v = unless_refused X (λ Y. Y) v

abbrev pub held_after : Set → Session → Set
held_after X r = set_after X (session_of r)

abbrev pub CalledOpen : List ℕ → ℕ → ℕ → Session → Type 0
CalledOpen store n g r = session_of r ≡ open_answer store n g

abbrev pub CalledEdit : List ℕ → ℕ → ℕ → Set → Edit → Session → List ℕ → Type 0
CalledEdit store n g X e r after =
    (session_of r ≡ edit_answer store n g X e)
    × (after ≡ edit_buffer store n g e)
