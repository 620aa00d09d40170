-- The call `check` and its contract.
--
--   CheckedFile                               what it answers: the length of the text, and the verdict; checked_file x: for a release check
--   check_grounds, check_answer, check_buffer    the grounds in order, the answer, the output at exit
--   verdict_of, checked_of                     what each case of a verdict says; what the answer says
--   Reports                                   what a part of the call gave for a release check, where there is room for the text
--   CalledCheck                               a call and what it gave: its contract
--
-- A file that read refuses is an answer: the text says so. The call itself is refused only for its site or its output.
use Rattle.std.specs.Prelude.{ℕ, ◌≡◌, List, [], ◌∷◌, Result, ltb, length}
use Rattle.basics.specs.Refusals.{Ground, Answered, answered, answer, unless_refused}
use Rattle.core_refusals.specs.declared.Refusal.{Refusal}
use Rattle.core_refusals.specs.Refusals.{number, answer_of}
use Rattle.model.specs.Blocks.{site_ground}
use Rattle.model.specs.Calls.{overwrite}
use Rattle.core_report.specs.Put.{text_room}
use Rattle.call_check.specs.declared.Checked.{Checked}
use Rattle.call_check.specs.declared.FileVerdict.{FileVerdict as CodeVerdict}
use Rattle.call_check.specs.declared.FileVerdict.TheVariants.{Safe, Unsafe, Refused}
use Rattle.call_check.specs.CheckText.{ReleaseCheck, release_check, text_for, FileVerdict, safe, unsafe, refused_file, verdict_for, check_text}

pub record CheckedFile : Type 0 where
  pub text_length : ℕ
  pub verdict : FileVerdict

abbrev pub checked_file : Answered ReleaseCheck → CheckedFile
checked_file x = record { text_length = length (text_for x); verdict = verdict_for x }

-- For an output of `room` bytes.
abbrev pub check_grounds : ℕ → ℕ → List Ground
check_grounds site room = site_ground site ∷ (ltb room text_room, 19) ∷ []

unfoldable pub check_answer : List ℕ → ℕ → ℕ → Answered CheckedFile
check_answer input site room = answer (check_grounds site room) (checked_file (release_check input site))

unfoldable pub check_buffer : List ℕ → ℕ → List ℕ → List ℕ
check_buffer input site output =
    unless_refused output (λ a. overwrite (check_text input site) output) (check_answer input site (length output))

abbrev pub verdict_of : CodeVerdict → FileVerdict
verdict_of (Safe n) = safe n
verdict_of (Unsafe n) = unsafe n
verdict_of (Refused r) = refused_file (number r)

abbrev pub checked_of : Result Checked Refusal → Answered CheckedFile
checked_of = answer_of (λ c. record { text_length = c.length; verdict = verdict_of c.verdict })

abbrev pub Reports : Answered ReleaseCheck → List ℕ → Answered CheckedFile → List ℕ → Type 0
Reports x before r after = (r ≡ answered (checked_file x)) × (after ≡ overwrite (text_for x) before)

-- The output before the call and after it.
abbrev pub CalledCheck : List ℕ → ℕ → List ℕ → Result Checked Refusal → List ℕ → Type 0
CalledCheck input site before r after =
    (checked_of r ≡ check_answer input site (length before))
    × (after ≡ check_buffer input site before)
