-- The call generate and its contract.
--
--   generated_of r     what its answer says
--   CalledGenerate    a call and what it gave: the contract of generate
use Rattle.std.specs.Prelude.{◌≡◌, ℕ, List, Result, length}
use Rattle.basics.specs.Refusals.{Answered}
use Rattle.core_refusals.specs.declared.Refusal.{Refusal}
use Rattle.core_refusals.specs.Refusals.{answer_of}
use Rattle.call_generate.specs.Load.{generate_answer, generate_buffer}

abbrev pub generated_of : Result (Unit {0}) Refusal → Answered (Unit {0})
generated_of = answer_of (λ done. done)

abbrev pub CalledGenerate : ℕ → ℕ → ℕ → List ℕ → Result (Unit {0}) Refusal → List ℕ → Type 0
CalledGenerate seed n f before r after =
    (generated_of r ≡ generate_answer n f (length before))
    × (after ≡ generate_buffer seed n f before)
