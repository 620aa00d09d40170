-- The answer of decide_modal in the specification's numbers, and what the functions below the call return.
--
--   words_in, ChecksOut     the words of a set, if there is one; what a release check of a table gave: its invariant, where it is safe
--   ModalDecision           what the call gives
--   modal_answer_in, modal_decided_of   the numbers of each case of a verdict; the answer
--   invariant_given         the set that comes with it, empty where it is refused or unsafe
--   CalledModal             a call of decide_modal and what it gave: its contract
use Rattle.std.specs.Prelude.{ℕ, ◌≡◌, cond, List, Option, Some, None, Result, eqb, length}
use Rattle.basics.specs.Refusals.{Answered, unless_refused}
use Rattle.model.specs.Sets.{Set, empty}
use Rattle.model.specs.Tables.{Table}
use Rattle.core_refusals.specs.declared.Refusal.{Refusal}
use Rattle.core_refusals.specs.Refusals.{answer_of}
use Rattle.core_state_set.specs.declared.StateSet.{StateSet}
use Rattle.call_modal.specs.Modal.{release_check, ModalAnswer, modal_answer, modal_buffer}
use Rattle.call_modal.specs.declared.ModalVerdict.{ModalVerdict}
use Rattle.call_modal.specs.declared.ModalVerdict.TheVariants.{Safe, Unsafe, Depends}

abbrev pub words_in : Option StateSet → Option Set
words_in (Some X) = Some X.words
words_in None = None

abbrev pub ChecksOut : Table → Option StateSet → Type 0
ChecksOut t r = words_in r ≡ cond (eqb (release_check t).verdict 0) (Some (release_check t).invariant) None

abbrev pub modal_answer_in : ModalVerdict → ModalAnswer
modal_answer_in (Safe X k) = record { verdict = 0; invariant = X.words; size = k; steps = 0 }
modal_answer_in (Unsafe d) = record { verdict = 1; invariant = empty; size = 0; steps = d }
modal_answer_in (Depends X k d) = record { verdict = 3; invariant = X.words; size = k; steps = d }

abbrev pub ModalDecision : Type 0
ModalDecision = Result ModalVerdict Refusal

abbrev pub modal_decided_of : ModalDecision → Answered ModalAnswer
modal_decided_of = answer_of modal_answer_in

abbrev pub invariant_given : ModalDecision → Set
invariant_given r = unless_refused empty (λ a. a.invariant) (modal_decided_of r)

-- Its answer, and the path buffer before and after.
abbrev pub CalledModal : List ℕ → ℕ → ℕ → List ℕ → List ℕ → ModalDecision → List ℕ → Type 0
CalledModal store n g possible before r after =
    (modal_decided_of r ≡ modal_answer store n g possible (length before))
    × (after ≡ modal_buffer store n g possible before)
