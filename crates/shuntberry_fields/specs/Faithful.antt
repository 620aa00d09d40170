-- Nothing is lost or confused in what a C program reads: from the fields of an answer, or of a refusal above 0,
-- it can be got back. No call refuses with 0 (FailsSafe.Numbered). `FaithfulKept` proves it.
--
--   LeftInverse from fields   `from` gets back what `fields` laid out. It needs no bound: the definitions of
--                             Fields keep numbers of any size, and the code is equal to them (lay_out_CALL)
--   given k a                 the refusal k, or the answer a where k is 0
--   decision_from, ..          what the fields say, each by its name; verdict_from is of check
--   Faithful                  every struct, and the number that distances and generate return
--   Cases                     each case of decide, shortest path and decide modal, whose answers are numbers;
--                             those of the other calls, and of a refused call, are in Figures
use Rattle.std.specs.Prelude.{ℕ, zero, suc, ◌≡◌, Bool, cond, eqb, Ok, Some, None}
use Rattle.basics.specs.Refusals.{Answered, refused, answered}
use Rattle.model.specs.Sets.{Set, empty}
use Rattle.model.specs.Calls.{Decision, Shortest, TableRead}
use Rattle.call_decide.specs.declared.Verdict.TheVariants.{Safe, Unsafe, Undecided}
use Rattle.call_decide.specs.DecideAnswers.{decided_of}
use Rattle.call_paths.specs.PathAnswers.{shortest_of}
use Rattle.call_replay.specs.Logs.{Replay}
use Rattle.call_modal.specs.Modal.{ModalAnswer}
use Rattle.call_modal.specs.declared.ModalVerdict.TheVariants.{Safe as ModalSafe, Unsafe as ModalUnsafe, Depends}
use Rattle.call_modal.specs.ModalAnswers.{modal_decided_of}
use Rattle.call_release_windows.specs.WindowAnswers.{Opening, minute, never}
use Rattle.call_check.specs.CheckText.{FileVerdict, safe, unsafe, refused_file}
use Rattle.call_check.specs.CheckAnswers.{CheckedFile}
use Rattle.shuntberry_fields.specs.declared.CheckedFields.{CheckedFields}
use Rattle.shuntberry_fields.specs.declared.DecisionFields.{DecisionFields}
use Rattle.shuntberry_fields.specs.declared.ShortestFields.{ShortestFields}
use Rattle.shuntberry_fields.specs.declared.WithinFields.{WithinFields}
use Rattle.shuntberry_fields.specs.declared.TableFields.{TableFields}
use Rattle.shuntberry_fields.specs.declared.FileFields.{FileFields}
use Rattle.shuntberry_fields.specs.declared.ReplayFields.{ReplayFields}
use Rattle.shuntberry_fields.specs.declared.SessionFields.{SessionFields}
use Rattle.shuntberry_fields.specs.declared.ModalFields.{ModalFields}
use Rattle.shuntberry_fields.specs.declared.MinuteFields.{MinuteFields}
use Rattle.shuntberry_fields.specs.Fields.{decision_fields, shortest_fields, within_fields, table_fields, file_fields, replay_fields, session_fields, modal_fields, minute_fields, check_fields, refusal_number}

pub record LeftInverse {A F : Type 0} (from : F → Answered A) (fields : Answered A → F) : Type 0 where
  pub answer : (a : A) → from (fields (answered a)) ≡ answered a
  pub refusal : (k : ℕ) → from (fields (refused (suc k))) ≡ refused (suc k)

abbrev pub given : {A : Type 0} → ℕ → A → Answered A
given zero a = answered a
given (suc k) a = refused (suc k)

abbrev pub decision_from : DecisionFields → Answered Decision
decision_from f =
    given f.refusal
    (record { verdict = f.verdict; count = f.count; invariant = f.invariant; size = f.size; steps = f.steps })

abbrev pub shortest_from : ShortestFields → Answered Shortest
shortest_from f = given f.refusal (record { found = f.found; steps = f.steps })

abbrev pub within_from : WithinFields → Answered Bool
within_from f = given f.refusal (eqb f.within 1)

abbrev pub table_from : TableFields → Answered TableRead
table_from f = given f.refusal (record { n = f.n; g = f.g })

abbrev pub file_from : FileFields → Answered ℕ
file_from f = given f.refusal f.length

abbrev pub replay_from : ReplayFields → Answered Replay
replay_from f =
    given f.refusal
    (record { followed = f.followed; seen = f.seen; percent = f.percent; remainder = f.remainder })

abbrev pub session_from : SessionFields → Answered Set
session_from f = given f.refusal f.reachable

abbrev pub modal_from : ModalFields → Answered ModalAnswer
modal_from f =
    given f.refusal
    (record { verdict = f.verdict; invariant = f.invariant; size = f.size; steps = f.steps })

abbrev pub minute_from : MinuteFields → Answered Opening
minute_from f = given f.refusal (cond (eqb f.never 0) (minute f.minute) never)

abbrev pub verdict_from : CheckedFields → FileVerdict
verdict_from f =
    cond (eqb f.verdict 0) (safe f.n)
    (cond (eqb f.verdict 1) (unsafe f.n) (refused_file f.file_refusal))

abbrev pub check_from : CheckedFields → Answered CheckedFile
check_from f = given f.refusal (record { text_length = f.length; verdict = verdict_from f })

pub record Faithful : Type 0 where
  pub decide : LeftInverse decision_from decision_fields
  pub shortest-path : LeftInverse shortest_from shortest_fields
  pub within : LeftInverse within_from within_fields
  pub read : LeftInverse table_from table_fields
  pub write-rewrite : LeftInverse file_from file_fields
  pub replay : LeftInverse replay_from replay_fields
  -- whichever set a refused call gives
  pub session : (X : Set) → LeftInverse session_from (session_fields X)
  pub decide_modal : LeftInverse modal_from modal_fields
  pub next_open : LeftInverse minute_from minute_fields
  pub check : LeftInverse check_from check_fields
  pub number : LeftInverse (λ k. given k tt) (refusal_number {A = Unit {0}})

pub record Cases : Type 0 where
  pub decide-safe : (X : Set) → decision_fields (decided_of (Ok (Safe 4 (record { words = X }) 5)))
      ≡ record { invariant = X; refusal = 0; verdict = 0; count = 4; size = 5; steps = 0; reserved = 0 }
  pub decide-unsafe : decision_fields (decided_of (Ok (Unsafe 4 5)))
      ≡ record { invariant = empty; refusal = 0; verdict = 1; count = 4; size = 0; steps = 5; reserved = 0 }
  pub decide-undecided : decision_fields (decided_of (Ok (Undecided 4)))
      ≡ record { invariant = empty; refusal = 0; verdict = 2; count = 4; size = 0; steps = 0; reserved = 0 }
  pub path : shortest_fields (shortest_of (Ok (Some 4))) ≡ record { refusal = 0; found = 1; steps = 4 }
  pub no_path : shortest_fields (shortest_of (Ok None)) ≡ record { refusal = 0; found = 0; steps = 0 }
  pub modal_safe : (X : Set) → modal_fields (modal_decided_of (Ok (ModalSafe (record { words = X }) 4)))
      ≡ record { invariant = X; refusal = 0; verdict = 0; size = 4; steps = 0 }
  pub modal_unsafe : modal_fields (modal_decided_of (Ok (ModalUnsafe 4)))
      ≡ record { invariant = empty; refusal = 0; verdict = 1; size = 0; steps = 4 }
  pub modal_depends : (X : Set) → modal_fields (modal_decided_of (Ok (Depends (record { words = X }) 4 5)))
      ≡ record { invariant = X; refusal = 0; verdict = 3; size = 4; steps = 5 }
