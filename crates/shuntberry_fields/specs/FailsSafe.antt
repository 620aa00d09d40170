-- What a C program reads of a refused call, should it not look at `refusal`. Of each field that answers (verdict, found, within, never, an open minute, n, g): no
-- answer that the call can give. Counts, sizes, steps, coverage and lengths are 0, and sets empty or as they were handed in: there only `refusal` tells,
-- which is never 0. `FailsSafeKept.fails_safe` proves it.
--
--   ten_or14 store     the ground of a store that is short, or of a table with too many states
--   HandedOn n        the n of a refused read, handed on to every call that takes one, with any g
--   Numbered          the number of every refusal of every call: 0 is none, so that `refusal` 0 says that a call was answered
--   RefusedSets       of the exports that give a set, where `refusal` is not 0: its number, the set beside it, and the buffer at exit
--   FailsSafe         all of it
use Rattle.std.specs.Prelude.{ℕ, ◌<◌, ◌≡◌, cond, ◌||◌, List, ltb, length}
use Rattle.basics.specs.Refusals.{refuse, refused, answered}
use Rattle.model.specs.Sets.{Set, empty}
use Rattle.model.specs.Stores.{store_words, shared_grounds}
use Rattle.model.specs.Blocks.{max_site}
use Rattle.model.specs.Contents.{Form}
use Rattle.model.specs.Calls.{decide_grounds, decide_answer, decide_buffer, shortest_answer, TableRead, read_answer_as, read_answer, write_answer}
use Rattle.call_paths.specs.Within.{within_answer}
use Rattle.call_distances.specs.Distances.{distances_answer}
use Rattle.call_first_order.specs.OrderAnswers.{order_answer}
use Rattle.call_generate.specs.Load.{generate_answer}
use Rattle.call_replay.specs.Logs.{replay_answer}
use Rattle.call_edit_session.specs.Edits.{Edit, source, target, open_answer, edit_grounds, edit_answer, edit_buffer}
use Rattle.call_modal.specs.Modal.{possible_words, modal_grounds, modal_answer, modal_buffer}
use Rattle.call_release_windows.specs.WindowAnswers.{minute, never, next_open_answer}
use Rattle.call_check.specs.CheckText.{refused_file}
use Rattle.call_check.specs.CheckAnswers.{check_answer}
use Rattle.call_rewrite.specs.RewriteAnswers.{rewrite_answer}
use Rattle.shuntberry_fields.specs.declared.DecisionFields.{DecisionFields}
use Rattle.shuntberry_fields.specs.declared.SessionFields.{SessionFields}
use Rattle.shuntberry_fields.specs.declared.ModalFields.{ModalFields}
use Rattle.shuntberry_fields.specs.Fields.{decision_fields, shortest_fields, within_fields, table_fields, session_fields, modal_fields, minute_fields, checked_fields, check_fields}

abbrev pub ten_or14 : List ℕ → ℕ
ten_or14 store = cond (ltb (length store) store_words) 10 14

-- Each refuses it: with 10 where a buffer is short, with 24 where write's site is too great, else with 14.
pub record HandedOn (n : ℕ) : Type 0 where
  pub decide : (store : List ℕ) (g allowance room : ℕ) → decide_answer store n g allowance room ≡ refused (ten_or14 store)
  pub shortest-path : (store : List ℕ) (g room : ℕ) → shortest_answer store n g room ≡ refused (ten_or14 store)
  pub distances : (store : List ℕ) (g room : ℕ) → distances_answer store n g room ≡ refused (ten_or14 store)
  pub within : (store : List ℕ) (g k : ℕ) → within_answer store n g k ≡ refused (ten_or14 store)
  pub first_order : (store : List ℕ) (g : ℕ) → order_answer store n g ≡ refused (ten_or14 store)
  pub write : (store : List ℕ) (g site room : ℕ)
      → write_answer store n g site room ≡ refused (cond (ltb (length store) store_words) 10 (cond (ltb max_site site) 24 14))
  pub generate : (fan-out room : ℕ) → generate_answer n fan-out room ≡ refused (cond (ltb room store_words) 10 14)
  pub replay : (store : List ℕ) (g : ℕ) (log : List ℕ) → replay_answer store n g log ≡ refused (ten_or14 store)
  pub opening : (store : List ℕ) (g : ℕ) → open_answer store n g ≡ refused (ten_or14 store)
  pub edit : (store : List ℕ) (g : ℕ) (X : Set) (e : Edit) → edit_answer store n g X e ≡ refused (ten_or14 store)
  pub decide_modal : (store : List ℕ) (g : ℕ) (possible : List ℕ) (room : ℕ)
      → modal_answer store n g possible room ≡ refused (cond (ltb (length store) store_words || ltb (length possible) possible_words) 10 14)

pub record Numbered : Type 0 where
  pub decide : (store : List ℕ) (n g allowance room k : ℕ) → decide_answer store n g allowance room ≡ refused k → 0 < k
  pub shortest-path : (store : List ℕ) (n g room k : ℕ) → shortest_answer store n g room ≡ refused k → 0 < k
  pub distances : (store : List ℕ) (n g room k : ℕ) → distances_answer store n g room ≡ refused k → 0 < k
  pub within : (store : List ℕ) (n g j k : ℕ) → within_answer store n g j ≡ refused k → 0 < k
  pub first_order : (store : List ℕ) (n g k : ℕ) → order_answer store n g ≡ refused k → 0 < k
  -- of either form
  pub read : (form : Form) (input : List ℕ) (site room k : ℕ) → read_answer_as form input site room ≡ refused k → 0 < k
  pub write : (store : List ℕ) (n g site room k : ℕ) → write_answer store n g site room ≡ refused k → 0 < k
  pub rewrite : (input : List ℕ) (room k : ℕ) → rewrite_answer input room ≡ refused k → 0 < k
  pub check : (input : List ℕ) (site room k : ℕ) → check_answer input site room ≡ refused k → 0 < k
  pub generate : (n fan-out room k : ℕ) → generate_answer n fan-out room ≡ refused k → 0 < k
  pub replay : (store : List ℕ) (n g : ℕ) (log : List ℕ) (k : ℕ) → replay_answer store n g log ≡ refused k → 0 < k
  pub opening : (store : List ℕ) (n g k : ℕ) → open_answer store n g ≡ refused k → 0 < k
  pub edit : (store : List ℕ) (n g : ℕ) (X : Set) (e : Edit) (k : ℕ) → edit_answer store n g X e ≡ refused k → 0 < k
  pub decide_modal : (store : List ℕ) (n g : ℕ) (possible : List ℕ) (room k : ℕ) → modal_answer store n g possible room ≡ refused k → 0 < k
  pub next_open : (time : ℕ) (windows days : List ℕ) (k : ℕ) → next_open_answer time windows days ≡ refused k → 0 < k

-- What an export gave and left is said by its own contract.
pub record RefusedSets : Type 0 where
  -- the number is that of the first ground that holds, the set beside it is empty, and the buffer is as it was
  pub decide : (store : List ℕ) (n g allowance : ℕ) (before : List ℕ) (r : DecisionFields) (after : List ℕ)
      → (r ≡ decision_fields (decide_answer store n g allowance (length before))) × (after ≡ decide_buffer store n g allowance before) → 0 < r.refusal
      → (r.refusal ≡ refuse (decide_grounds store n g allowance (length before))) × (r.invariant ≡ empty) × (after ≡ before)
  pub decide_modal : (store : List ℕ) (n g : ℕ) (possible before : List ℕ) (r : ModalFields) (after : List ℕ)
      → (r ≡ modal_fields (modal_answer store n g possible (length before))) × (after ≡ modal_buffer store n g possible before) → 0 < r.refusal
      → (r.refusal ≡ refuse (modal_grounds store n g possible (length before))) × (r.invariant ≡ empty) × (after ≡ before)
  -- an opening gives the empty set, an edit the set that it was handed, and the store is as it was
  pub opening : (store : List ℕ) (n g : ℕ) (r : SessionFields) → r ≡ session_fields empty (open_answer store n g) → 0 < r.refusal
      → (r.refusal ≡ refuse (shared_grounds store n g)) × (r.reachable ≡ empty)
  -- add_step, and remove_step
  pub edit : (store : List ℕ) (n g : ℕ) (X : Set) (e : Edit) (r : SessionFields) (after : List ℕ)
      → (r ≡ session_fields X (edit_answer store n g X e)) × (after ≡ edit_buffer store n g e) → 0 < r.refusal
      → (r.refusal ≡ refuse (edit_grounds store n g (source e) (target e))) × (r.reachable ≡ X) × (after ≡ store)

pub record FailsSafe : Type 0 where
  pub numbered : Numbered
  pub sets : RefusedSets
  -- none of the four verdicts: 0 safe, 1 unsafe, 2 undecided, 3 depends
  pub decide : (k : ℕ) → 3 < (decision_fields (refused k)).verdict
  pub decide_modal : (k : ℕ) → 3 < (modal_fields (refused k)).verdict
  -- nor of check, also where the file is refused; and n is then that of a refused read
  pub check : (k : ℕ) → (3 < (check_fields (refused k)).verdict) × ((check_fields (refused k)).n ≡ (table_fields (refused k)).n)
  pub check-file : (l k : ℕ) → (3 < (checked_fields l (refused_file k)).verdict) × ((checked_fields l (refused_file k)).n ≡ (table_fields (refused k)).n)
  -- neither yes (1) nor no (0)
  pub shortest-path : (k : ℕ) → 1 < (shortest_fields (refused k)).found
  pub within : (k : ℕ) → 1 < (within_fields (refused k)).within
  pub next_open : (k : ℕ) → 1 < (minute_fields (refused k)).never
  -- later than every minute that the call answers with, and refused as a time; the same of an answer that there is none
  pub minute : (k time : ℕ) (windows days : List ℕ) (m : ℕ) → next_open_answer time windows days ≡ answered (minute m)
      → m < (minute_fields (refused k)).minute
  pub minute-never : (k : ℕ) → (minute_fields (refused k)).minute ≡ (minute_fields (answered never)).minute
  pub no_time : (k : ℕ) (windows days : List ℕ) → next_open_answer (minute_fields (refused k)).minute windows days ≡ refused 31
  -- n and g of a refused read: greater than any that it answers with
  pub table : (k : ℕ) (input : List ℕ) (site room : ℕ) (a : TableRead) → read_answer input site room ≡ answered a
      → (a.n < (table_fields (refused k)).n) × (a.g < (table_fields (refused k)).g)
  -- and that n, in any store
  pub read : (k : ℕ) → HandedOn (table_fields (refused k)).n
