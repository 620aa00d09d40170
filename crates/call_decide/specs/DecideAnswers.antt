-- What decide answers.
--
--   answer_in v       a verdict in the specification's numbers, for each of its cases
--   decided_of r      its answer
--   invariant_given   the set that comes with it, empty where it is refused or not safe
--   CalledDecide      a call of decide and what it gave: its contract
use Rattle.std.specs.Prelude.{ℕ, ◌≡◌, List, Result, length}
use Rattle.basics.specs.Refusals.{Answered, unless_refused}
use Rattle.model.specs.Sets.{Set, empty}
use Rattle.model.specs.Calls.{Decision as Answer, decide_answer, decide_buffer}
use Rattle.core_refusals.specs.declared.Refusal.{Refusal}
use Rattle.core_refusals.specs.Refusals.{answer_of}
use Rattle.call_decide.specs.declared.Verdict.{Verdict}
use Rattle.call_decide.specs.declared.Verdict.TheVariants.{Safe, Unsafe, Undecided}

abbrev pub answer_in : Verdict → Answer
answer_in (Safe i R k) = record { verdict = 0; count = i; invariant = R.words; size = k; steps = 0 }
answer_in (Unsafe i d) = record { verdict = 1; count = i; invariant = empty; size = 0; steps = d }
answer_in (Undecided i) = record { verdict = 2; count = i; invariant = empty; size = 0; steps = 0 }

abbrev pub decided_of : Result Verdict Refusal → Answered Answer
decided_of = answer_of answer_in

abbrev pub invariant_given : Result Verdict Refusal → Set
invariant_given r = unless_refused empty (λ a. a.invariant) (decided_of r)

-- The contract of decide: its answer, and the path buffer before and after.
abbrev pub CalledDecide : List ℕ → ℕ → ℕ → ℕ → List ℕ → Result Verdict Refusal → List ℕ → Type 0
CalledDecide store n g allowance before r after =
    (decided_of r ≡ decide_answer store n g allowance (length before))
    × (after ≡ decide_buffer store n g allowance before)
