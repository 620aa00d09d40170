-- The grounds of every call, with the specification's figures: what each number is for, and the order in which they are looked at. A call is refused
-- with the number of the first that holds, and by no other. `GroundsKept.all-grounds` proves it.
--
--   store_table store n g      the grounds of a table in a store, in figures: 10, 14, 15, 17
--   Listed                    the grounds of each call, in order
--   Refuses                   what each call refuses: the first of its grounds that holds, or nothing (0)
--   Grounds                   both
use Rattle.std.specs.Prelude.{ℕ, ◌+◌, ◌*◌, ◌-◌, ◌/◌, ◌%◌, ◌≤◌, ◌<◌, ◌≡◌, ◌↔◌, true, false, not, ◌&&◌, ◌||◌, List, [], ◌∷◌, ◌++◌, eqb, leb, ltb, length, get_or}
use Rattle.basics.specs.Bounds.{any, concat}
use Rattle.basics.specs.Refusals.{Ground, refuse}
use Rattle.model.specs.Sets.{Set, member}
use Rattle.model.specs.Stores.{set_at, beyond, non_zero, malformed, shared_grounds}
use Rattle.model.specs.Blocks.{le16_at, check_of, blocks_for, part, contents_of}
use Rattle.model.specs.Contents.{Form, old_form, new_form, heads, added, content_length, set_number}
use Rattle.model.specs.Files.{file_length}
use Rattle.model.specs.Calls.{decide_grounds, decide_answer, shortest_grounds, shortest_answer, states_in, second_in, blocks_grounds, read_grounds_as, read_answer_as, write_grounds, write_answer}
use Rattle.call_paths.specs.Within.{within_answer}
use Rattle.call_distances.specs.Distances.{distances_grounds, distances_answer}
use Rattle.call_first_order.specs.OrderAnswers.{order_answer}
use Rattle.call_generate.specs.Load.{generate_grounds, generate_answer}
use Rattle.call_replay.specs.Logs.{replay_grounds, replay_answer}
use Rattle.call_edit_session.specs.Edits.{Edit, source, target, open_answer, edit_grounds, edit_answer}
use Rattle.call_modal.specs.Modal.{malformed_rows, certain_impossible, modal_grounds, modal_answer}
use Rattle.call_release_windows.specs.Windows.{start_of, length_of, outside, some}
use Rattle.call_release_windows.specs.WindowAnswers.{grounds, next_open_answer}
use Rattle.call_check.specs.CheckAnswers.{check_grounds, check_answer}
use Rattle.theorems_rewriting.specs.Rewriting.{new_file}
use Rattle.call_rewrite.specs.RewriteAnswers.{rewrite_grounds, rewrite_answer}
use Rattle.shuntberry_fields.specs.Fields.{refusal_number}

-- A table without states has no groups.
abbrev pub store_table : List ℕ → ℕ → ℕ → List Ground
store_table store n g =
    (ltb (length store) 4632, 10)
    ∷ ((eqb n 0 && not (eqb g 0)) || ltb 512 n, 14)
    ∷ (ltb 64 g, 15)
    ∷ (malformed store n g, 17)
    ∷ []

pub record Listed : Type 0 where
  -- within, first order and opening an edit session look at these alone
  pub shared : (store : List ℕ) (n g : ℕ) → shared_grounds store n g ≡ store_table store n g
  -- 17 of a store, and of rows of possible steps: a set with a state from n up, or a word of an unused group or row that is not 0
  pub malformed_store : (store : List ℕ) (n g : ℕ)
      → malformed store n g
      ≡ (beyond n (set_at store 0)
      || beyond n (set_at store 8)
      || beyond n (set_at store 16)
      || any g (λ j. beyond n (set_at store (24 + 8 * j)))
      || any n (λ s. beyond n (set_at store (536 + 8 * s)))
      || non_zero store (24 + 8 * g) 536
      || non_zero store (536 + 8 * n) 4632)
  pub malformed-possible : (possible : List ℕ) (n : ℕ)
      → malformed_rows possible n ≡ (any n (λ s. beyond n (set_at possible (8 * s))) || non_zero possible (8 * n) 4096)
  pub set_beyond : (n : ℕ) (X : Set) → (beyond n X ≡ false) ↔ ((s : ℕ) → member X s ≡ true → s < n)
  pub non_zero_lem : (words : List ℕ) (from to : ℕ) → (non_zero words from to ≡ false) ↔ ((i : ℕ) → from ≤ i → i < to → get_or words i 0 ≡ 0)
  pub decide : (store : List ℕ) (n g allowance room : ℕ)
      → decide_grounds store n g allowance room ≡ store_table store n g ++ ((ltb 512 allowance, 20) ∷ (ltb room 512, 21) ∷ [])
  pub shortest-path : (store : List ℕ) (n g room : ℕ) → shortest_grounds store n g room ≡ store_table store n g ++ ((ltb room 512, 21) ∷ [])
  pub distances : (store : List ℕ) (n g room : ℕ) → distances_grounds store n g room ≡ store_table store n g ++ ((ltb room n, 23) ∷ [])
  pub replay : (store : List ℕ) (n g bytes : ℕ)
      → replay_grounds store n g bytes ≡ store_table store n g ++ ((not (eqb (bytes % 2) 0), 25) ∷ (ltb 32768 bytes, 26) ∷ [])
  pub edit : (store : List ℕ) (n g a b : ℕ) → edit_grounds store n g a b ≡ store_table store n g ++ ((leb n a || leb n b, 27) ∷ [])
  -- 10 and 17 are of either buffer
  pub decide_modal : (store : List ℕ) (n g : ℕ) (possible : List ℕ) (room : ℕ)
      → modal_grounds store n g possible room
      ≡ (ltb (length store) 4632 || ltb (length possible) 4096, 10)
      ∷ ((eqb n 0 && not (eqb g 0)) || ltb 512 n, 14)
      ∷ (ltb 64 g, 15)
      ∷ (malformed store n g || malformed_rows possible n, 17)
      ∷ (certain_impossible store n possible, 28)
      ∷ (ltb room 512, 21)
      ∷ []
  pub generate : (n f room : ℕ) → generate_grounds n f room ≡ (ltb room 4632, 10) ∷ (eqb n 0 || ltb 512 n, 14) ∷ (ltb 16 f, 22) ∷ []
  pub write : (store : List ℕ) (n g site room : ℕ)
      → write_grounds store n g site room
      ≡ (ltb (length store) 4632, 10)
      ∷ (ltb 65520 site, 24)
      ∷ ((eqb n 0 && not (eqb g 0)) || ltb 512 n, 14)
      ∷ (ltb 64 g, 15)
      ∷ (malformed store n g, 17)
      ∷ (ltb room (file_length new_form n g), 19)
      ∷ []
  -- of either form: an input of no bytes
  pub read-draft : (form : Form) (site room : ℕ) → read_grounds_as form [] site room ≡ (ltb room 4632, 10) ∷ (ltb 65520 site, 24) ∷ []
  -- any other; n and the second number, in which g stands, are those of the contents
  pub read : (form : Form) (input : List ℕ) (site room : ℕ) → eqb (length input) 0 ≡ false
      → let n = states_in input in
      let second = second_in input in
      let g = second - added form in
      read_grounds_as form input site room
      ≡ (ltb room 4632, 10)
      ∷ (ltb 65520 site, 24)
      ∷ (not (eqb (length input % 512) 0) || ltb 37376 (length input), 11)
      ∷ (blocks_grounds input site
      ++ ((eqb n 0 || ltb 512 n, 14)
      ∷ (ltb second (added form) || ltb (added form + 64) second, 15)
      ∷ (not (eqb (length input / 512) (blocks_for (content_length form n g))), 16)
      ∷ (any (heads form + g + n) (λ k. beyond n (set_number (contents_of input) n k)), 17)
      ∷ (non_zero (contents_of input) (content_length form n g) (508 * (length input / 512)), 18)
      ∷ []))
  -- block after block, 12 before 13 in each
  pub blocks : (input : List ℕ) (site : ℕ)
      → blocks_grounds input site
      ≡ concat (length input / 512)
      (λ k. (not (eqb (le16_at (part input k) 0) k), 12) ∷ (not (eqb (le16_at (part input k) 510) (check_of site (part input k))), 13) ∷ [])
  pub rewrite : (input : List ℕ) (room : ℕ) → rewrite_grounds input room ≡ read_grounds_as old_form input 0 4632 ++ ((ltb room (length (new_file input)), 19) ∷ [])
  pub check : (site room : ℕ) → check_grounds site room ≡ (ltb 65520 site, 24) ∷ (ltb room 4096, 19) ∷ []
  pub next_open : (time : ℕ) (windows days : List ℕ)
      → grounds time windows days
      ≡ (ltb 2147483647 time, 31)
      ∷ (ltb 32 (length windows) || ltb 64 (length days), 30)
      ∷ (some outside windows, 29)
      ∷ []
  -- a window outside its range
  pub window : (w : ℕ) → outside w ≡ (ltb 10079 (start_of w) || eqb (length_of w) 0 || ltb 10080 (length_of w))

pub record Refuses : Type 0 where
  pub decide : (store : List ℕ) (n g allowance room : ℕ)
      → refusal_number (decide_answer store n g allowance room) ≡ refuse (decide_grounds store n g allowance room)
  pub shortest-path : (store : List ℕ) (n g room : ℕ) → refusal_number (shortest_answer store n g room) ≡ refuse (shortest_grounds store n g room)
  pub distances : (store : List ℕ) (n g room : ℕ) → refusal_number (distances_answer store n g room) ≡ refuse (distances_grounds store n g room)
  pub within : (store : List ℕ) (n g k : ℕ) → refusal_number (within_answer store n g k) ≡ refuse (shared_grounds store n g)
  pub first_order : (store : List ℕ) (n g : ℕ) → refusal_number (order_answer store n g) ≡ refuse (shared_grounds store n g)
  pub replay : (store : List ℕ) (n g : ℕ) (log : List ℕ) → refusal_number (replay_answer store n g log) ≡ refuse (replay_grounds store n g (length log))
  pub opening : (store : List ℕ) (n g : ℕ) → refusal_number (open_answer store n g) ≡ refuse (shared_grounds store n g)
  pub edit : (store : List ℕ) (n g : ℕ) (X : Set) (e : Edit)
      → refusal_number (edit_answer store n g X e) ≡ refuse (edit_grounds store n g (source e) (target e))
  pub decide_modal : (store : List ℕ) (n g : ℕ) (possible : List ℕ) (room : ℕ)
      → refusal_number (modal_answer store n g possible room) ≡ refuse (modal_grounds store n g possible room)
  pub generate : (n f room : ℕ) → refusal_number (generate_answer n f room) ≡ refuse (generate_grounds n f room)
  pub write : (store : List ℕ) (n g site room : ℕ) → refusal_number (write_answer store n g site room) ≡ refuse (write_grounds store n g site room)
  -- of either form
  pub read : (form : Form) (input : List ℕ) (site room : ℕ) → refusal_number (read_answer_as form input site room) ≡ refuse (read_grounds_as form input site room)
  pub rewrite : (input : List ℕ) (room : ℕ) → refusal_number (rewrite_answer input room) ≡ refuse (rewrite_grounds input room)
  pub check : (input : List ℕ) (site room : ℕ) → refusal_number (check_answer input site room) ≡ refuse (check_grounds site room)
  pub next_open : (time : ℕ) (windows days : List ℕ) → refusal_number (next_open_answer time windows days) ≡ refuse (grounds time windows days)

pub record Grounds : Type 0 where
  pub listed : Listed
  pub refuses : Refuses
