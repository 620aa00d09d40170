-- The structs of the calls for C, for an answer and for a refusal: this is the one place that says their numbers. A refused call has its number in
-- `refusal`, which is 0 for an answer. Its fields that answer hold no answer; its other fields are 0, empty, or as they were handed in (FailsSafe).
--
--   no_verdict, no_answer         the verdict, and the yes or no, of a refused call
--   no_table                     n and g of a refused read, which every call refuses (FailsSafe)
--   no_minute                    the minute where there is none, of a refused call and of never: past every time
--   refusal_number               the number of a refused call, or 0: what distances and generate return
--   decision_fields, shortest_fields, within_fields, table_fields, file_fields, replay_fields, session_fields, modal_fields, minute_fields
--                               decide, shortest path, within, read, write and rewrite, replay, the calls of an edit session, decide modal, next open minute
--   check_fields                 check
use Rattle.std.specs.Prelude.{ℕ, ◌-◌, ◌^◌, Bool, true, false}
use Rattle.basics.specs.Refusals.{Answered, refused, answered}
use Rattle.model.specs.Sets.{Set, empty}
use Rattle.model.specs.Calls.{Decision, Shortest, TableRead}
use Rattle.call_replay.specs.Logs.{Replay}
use Rattle.call_modal.specs.Modal.{ModalAnswer}
use Rattle.call_release_windows.specs.WindowAnswers.{Opening, minute, never}
use Rattle.call_check.specs.CheckText.{FileVerdict, safe, unsafe, refused_file}
use Rattle.call_check.specs.CheckAnswers.{CheckedFile}
use Rattle.shuntberry_fields.specs.declared.CheckedFields.{CheckedFields}
use Rattle.shuntberry_fields.specs.declared.DecisionFields.{DecisionFields}
use Rattle.shuntberry_fields.specs.declared.ShortestFields.{ShortestFields}
use Rattle.shuntberry_fields.specs.declared.WithinFields.{WithinFields}
use Rattle.shuntberry_fields.specs.declared.TableFields.{TableFields}
use Rattle.shuntberry_fields.specs.declared.FileFields.{FileFields}
use Rattle.shuntberry_fields.specs.declared.ReplayFields.{ReplayFields}
use Rattle.shuntberry_fields.specs.declared.SessionFields.{SessionFields}
use Rattle.shuntberry_fields.specs.declared.ModalFields.{ModalFields}
use Rattle.shuntberry_fields.specs.declared.MinuteFields.{MinuteFields}

abbrev pub no_verdict : ℕ
no_verdict = 255

abbrev pub no_answer : ℕ
no_answer = 255

abbrev pub no_table : ℕ
no_table = 65535

abbrev pub no_minute : ℕ
no_minute = 2 ^ 32 - 1

-- Distances and generate return this alone, and leave their buffer as it was where it is not 0: nothing else tells.
abbrev pub refusal_number : {A : Type 0} → Answered A → ℕ
refusal_number (refused k) = k
refusal_number (answered a) = 0

abbrev pub decision_fields : Answered Decision → DecisionFields
decision_fields (refused k) =
    record { invariant = empty; refusal = k; verdict = no_verdict; count = 0; size = 0; steps = 0; reserved = 0 }
decision_fields (answered a) =
    record { invariant = a.invariant; refusal = 0; verdict = a.verdict; count = a.count; size = a.size; steps = a.steps; reserved = 0 }

abbrev pub shortest_fields : Answered Shortest → ShortestFields
shortest_fields (refused k) = record { refusal = k; found = no_answer; steps = 0 }
shortest_fields (answered a) = record { refusal = 0; found = a.found; steps = a.steps }

abbrev pub within_fields : Answered Bool → WithinFields
within_fields (refused k) = record { refusal = k; within = no_answer }
within_fields (answered true) = record { refusal = 0; within = 1 }
within_fields (answered false) = record { refusal = 0; within = 0 }

abbrev pub table_fields : Answered TableRead → TableFields
table_fields (refused k) = record { refusal = k; n = no_table; g = no_table }
table_fields (answered a) = record { refusal = 0; n = a.n; g = a.g }

-- The length of a refused write is 0: any other would invite a read past what is in the caller's buffer.
abbrev pub file_fields : Answered ℕ → FileFields
file_fields (refused k) = record { refusal = k; length = 0 }
file_fields (answered l) = record { refusal = 0; length = l }

abbrev pub replay_fields : Answered Replay → ReplayFields
replay_fields (refused k) = record { refusal = k; followed = 0; seen = 0; percent = 0; remainder = 0 }
replay_fields (answered a) =
    record { refusal = 0; followed = a.followed; seen = a.seen; percent = a.percent; remainder = a.remainder }

-- A refused opening gives the empty set, a refused edit the set X that it was handed.
abbrev pub session_fields : Set → Answered Set → SessionFields
session_fields X (refused k) = record { reachable = X; refusal = k; reserved = 0 }
session_fields X (answered Y) = record { reachable = Y; refusal = 0; reserved = 0 }

abbrev pub modal_fields : Answered ModalAnswer → ModalFields
modal_fields (refused k) = record { invariant = empty; refusal = k; verdict = no_verdict; size = 0; steps = 0 }
modal_fields (answered a) = record { invariant = a.invariant; refusal = 0; verdict = a.verdict; size = a.size; steps = a.steps }

abbrev pub minute_fields : Answered Opening → MinuteFields
minute_fields (refused k) = record { refusal = k; never = no_answer; minute = no_minute }
minute_fields (answered (minute m)) = record { refusal = 0; never = 0; minute = m }
minute_fields (answered never) = record { refusal = 0; never = 1; minute = no_minute }

-- `file_refusal` is the number with which read refuses the file: that is an answer, whose text says so, but no verdict.
abbrev pub checked_fields : ℕ → FileVerdict → CheckedFields
checked_fields l (safe n) = record { length = l; n = n; refusal = 0; file_refusal = 0; verdict = 0; reserved = 0 }
checked_fields l (unsafe n) = record { length = l; n = n; refusal = 0; file_refusal = 0; verdict = 1; reserved = 0 }
checked_fields l (refused_file k) = record { length = l; n = no_table; refusal = 0; file_refusal = k; verdict = no_verdict; reserved = 0 }

abbrev pub check_fields : Answered CheckedFile → CheckedFields
check_fields (refused k) = record { length = 0; n = no_table; refusal = k; file_refusal = 0; verdict = no_verdict; reserved = 0 }
check_fields (answered a) = checked_fields a.text_length a.verdict
