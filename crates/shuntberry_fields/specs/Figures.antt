-- The figures of the requests that came after the base, beside the definitions that have them (model: Sizes has those of the base), and the
-- definitions that need a worked one. `FiguresKept.figures` proves it.
--
--   Figures       sizes, limits and times
--   CheckIs       the check of a block
--   FieldsAre     what C reads of an answer: a number of its own in each field that answers
--   RefusedAre    what C reads of a refusal: its number. So the two together tell the fields apart
use Rattle.std.specs.Prelude.{ℕ, suc, ◌+◌, ◌*◌, ◌%◌, ◌^◌, ◌≡◌, true, false, List, get_or}
use Rattle.basics.specs.Refusals.{refused, answered}
use Rattle.model.specs.Sets.{Set, empty}
use Rattle.model.specs.Paths.{unreachable}
use Rattle.model.specs.Blocks.{max_site, weighted, check_of}
use Rattle.call_generate.specs.Load.{max_fan_out}
use Rattle.call_replay.specs.Logs.{entry_bytes, max_log}
use Rattle.call_modal.specs.Modal.{possible_words}
use Rattle.call_release_windows.specs.Windows.{day, week, start_of, length_of}
use Rattle.call_release_windows.specs.WindowAnswers.{max_time, max_windows, max_days, span, minute, never}
use Rattle.call_check.specs.CheckText.{safe, unsafe, refused_file}
use Rattle.shuntberry_fields.specs.Version.{version}
use Rattle.shuntberry_fields.specs.Fields.{decision_fields, shortest_fields, within_fields, table_fields, file_fields, replay_fields, session_fields, modal_fields, minute_fields, check_fields, refusal_number}

pub record Figures : Type 0 where
  -- of the header, as its SHUNTBERRY_VERSION
  pub library_version : version ≡ 6
  pub greatest_fan_out : max_fan_out ≡ 16
  pub greatest_site : max_site ≡ 65520
  pub no_distance : unreachable ≡ 65535
  pub bytes_of_an_entry : entry_bytes ≡ 2
  pub bytes_of_a_log : max_log ≡ 32768
  pub words_of_possible-steps : possible_words ≡ 4096
  pub minutes_of_a_day : day ≡ 1440
  pub minutes_of_a_week : week ≡ 10080
  pub latest_time : max_time ≡ 2147483647
  pub most_windows : max_windows ≡ 32
  pub most-closed_days : max_days ≡ 64
  -- less than this is waited for an open minute
  pub longest_wait : span ≡ 655200
  -- a window's start in the low 32 bits of its number, its length in the high ones
  pub window : (start_of (7 + 11 * 2 ^ 32) ≡ 7) × (length_of (7 + 11 * 2 ^ 32) ≡ 11)

-- The site once, and (i + 1) times byte i for each of the 510 bytes before the check, modulo 65,521.
pub record CheckIs : Type 0 where
  pub check : (site : ℕ) (block : List ℕ) → check_of site block ≡ (site + weighted block 510) % 65521
  pub none : (block : List ℕ) → weighted block 0 ≡ 0
  pub more : (block : List ℕ) (i : ℕ) → weighted block (suc i) ≡ weighted block i + (i + 1) * get_or block i 0

pub record FieldsAre : Type 0 where
  pub decide : (X : Set)
      → decision_fields (answered (record { verdict = 1; count = 2; invariant = X; size = 3; steps = 4 }))
      ≡ record { invariant = X; refusal = 0; verdict = 1; count = 2; size = 3; steps = 4; reserved = 0 }
  pub shortest-path : shortest_fields (answered (record { found = 1; steps = 2 })) ≡ record { refusal = 0; found = 1; steps = 2 }
  pub within : (within_fields (answered true) ≡ record { refusal = 0; within = 1 }) × (within_fields (answered false) ≡ record { refusal = 0; within = 0 })
  pub read : table_fields (answered (record { n = 1; g = 2 })) ≡ record { refusal = 0; n = 1; g = 2 }
  pub write-rewrite : file_fields (answered 512) ≡ record { refusal = 0; length = 512 }
  pub replay : replay_fields (answered (record { followed = 4; seen = 3; percent = 42; remainder = 6 }))
      ≡ record { refusal = 0; followed = 4; seen = 3; percent = 42; remainder = 6 }
  -- the set that the call gave, and not the one that it was handed
  pub session : (X Y : Set) → session_fields X (answered Y) ≡ record { reachable = Y; refusal = 0; reserved = 0 }
  pub decide_modal : (X : Set)
      → modal_fields (answered (record { verdict = 3; invariant = X; size = 1; steps = 2 }))
      ≡ record { invariant = X; refusal = 0; verdict = 3; size = 1; steps = 2 }
  pub next_open : (minute_fields (answered (minute 7)) ≡ record { refusal = 0; never = 0; minute = 7 })
      × (minute_fields (answered never) ≡ record { refusal = 0; never = 1; minute = 4294967295 })
  pub check : (check_fields (answered (record { text_length = 8; verdict = safe 3 })) ≡ record { length = 8; n = 3; refusal = 0; file_refusal = 0; verdict = 0; reserved = 0 })
      × (check_fields (answered (record { text_length = 8; verdict = unsafe 3 })) ≡ record { length = 8; n = 3; refusal = 0; file_refusal = 0; verdict = 1; reserved = 0 })
      × (check_fields (answered (record { text_length = 8; verdict = refused_file 13 })) ≡ record { length = 8; n = 65535; refusal = 0; file_refusal = 13; verdict = 255; reserved = 0 })

-- Of a refused call with the number k, and its other fields in figures (FailsSafe says why these).
pub record RefusedAre : Type 0 where
  pub decide : (k : ℕ) → decision_fields (refused k) ≡ record { invariant = empty; refusal = k; verdict = 255; count = 0; size = 0; steps = 0; reserved = 0 }
  pub shortest-path : (k : ℕ) → shortest_fields (refused k) ≡ record { refusal = k; found = 255; steps = 0 }
  pub within : (k : ℕ) → within_fields (refused k) ≡ record { refusal = k; within = 255 }
  pub read : (k : ℕ) → table_fields (refused k) ≡ record { refusal = k; n = 65535; g = 65535 }
  pub write-rewrite : (k : ℕ) → file_fields (refused k) ≡ record { refusal = k; length = 0 }
  pub replay : (k : ℕ) → replay_fields (refused k) ≡ record { refusal = k; followed = 0; seen = 0; percent = 0; remainder = 0 }
  -- the set that the call was handed
  pub session : (X : Set) (k : ℕ) → session_fields X (refused k) ≡ record { reachable = X; refusal = k; reserved = 0 }
  pub decide_modal : (k : ℕ) → modal_fields (refused k) ≡ record { invariant = empty; refusal = k; verdict = 255; size = 0; steps = 0 }
  pub next_open : (k : ℕ) → minute_fields (refused k) ≡ record { refusal = k; never = 255; minute = 4294967295 }
  pub check : (k : ℕ) → check_fields (refused k) ≡ record { length = 0; n = 65535; refusal = k; file_refusal = 0; verdict = 255; reserved = 0 }
  -- what distances and generate return, whose answer has no value: the number, and 0 where they are answered
  pub number : (k : ℕ) → (refusal_number {A = Unit {0}} (refused k) ≡ k) × (refusal_number {A = Unit {0}} (answered tt) ≡ 0)
