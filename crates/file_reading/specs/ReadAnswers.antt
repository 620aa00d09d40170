-- The calls `read` and `read_old` and their contracts.
--
--   read_of r         what the answer says
--   CalledReadAs     a call that reads files of a form, and what it gave: its contract
--   CalledRead       that of `read`, of the new form; CalledReadOld: that of `read_old`
use Rattle.std.specs.Prelude.{ℕ, ◌≡◌, List, Result, length}
use Rattle.basics.specs.Refusals.{Answered}
use Rattle.core_refusals.specs.declared.Refusal.{Refusal}
use Rattle.core_refusals.specs.Refusals.{answer_of}
use Rattle.model.specs.Contents.{Form, old_form, new_form}
use Rattle.model.specs.Calls.{TableRead as ReadAnswer, read_answer_as, read_buffer_as}
use Rattle.file_reading.specs.declared.TableSize.{TableSize}

abbrev pub read_of : Result TableSize Refusal → Answered ReadAnswer
read_of = answer_of (λ size. record { n = size.n; g = size.g })

-- The store before the call and after it.
abbrev pub CalledReadAs : Form → List ℕ → ℕ → List ℕ → Result TableSize Refusal → List ℕ → Type 0
CalledReadAs form input site before r after =
    (read_of r ≡ read_answer_as form input site (length before))
    × (after ≡ read_buffer_as form input site before)

abbrev pub CalledRead : List ℕ → ℕ → List ℕ → Result TableSize Refusal → List ℕ → Type 0
CalledRead = CalledReadAs new_form

abbrev pub CalledReadOld : List ℕ → ℕ → List ℕ → Result TableSize Refusal → List ℕ → Type 0
CalledReadOld = CalledReadAs old_form
