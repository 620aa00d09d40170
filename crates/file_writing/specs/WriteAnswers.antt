-- The call `write` and its contract.
--
--   written_of r      what its answer says
--   CalledWrite      a call and what it gave: its contract
use Rattle.std.specs.Prelude.{ℕ, ◌≡◌, List, Result, length}
use Rattle.basics.specs.Refusals.{Answered}
use Rattle.core_refusals.specs.declared.Refusal.{Refusal}
use Rattle.core_refusals.specs.Refusals.{answer_of}
use Rattle.model.specs.Calls.{write_answer, write_buffer}

abbrev pub written_of : Result ℕ Refusal → Answered ℕ
written_of = answer_of (λ l. l)

-- The output before the call and after it.
abbrev pub CalledWrite : List ℕ → ℕ → ℕ → ℕ → List ℕ → Result ℕ Refusal → List ℕ → Type 0
CalledWrite store n g site before r after =
    (written_of r ≡ write_answer store n g site (length before))
    × (after ≡ write_buffer store n g site before)
