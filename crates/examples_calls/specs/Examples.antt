-- The specification's examples besides the worked tables A to H (and the loads and the texts, which `generator` and `report` have), each of the definitions
-- that the calls' contracts cite. `ExamplesKept.examples` proves it.
--
--   heldE, ninth                 the tables that find what A to H do not (the specification, "Worked tables")
--   with_option                   the possible steps of E with 0 → 1 besides; bare, bare_steps: a table without a certain step, and its possible steps
--   modal_on d possible           what decide_modal answers for a dialogue and its possible steps; at_best: the table with all of them
--   Examples                     section by section
use Rattle.std.specs.Prelude.{ℕ, ◌≡◌, true, false, List, [], ◌∷◌, ◌++◌}
use Rattle.basics.specs.Bounds.{tabulate}
use Rattle.model.specs.Tables.{Table, Dialogue, post, hold, cover_of}
use Rattle.model.specs.Rounds.{first_round}
use Rattle.model.specs.Paths.{distance, smallest_path}
use Rattle.model.specs.Stores.{table_of, layout}
use Rattle.model.specs.Resting.{rested}
use Rattle.examples_tables.specs.Tables.{set, table, A, B, D, E}
use Rattle.examples_tables.specs.Worked.{stored}
use Rattle.call_paths.specs.Within.{is_within}
use Rattle.core_fixpoints.specs.Order.{forward_order}
use Rattle.call_replay.specs.Logs.{entry, walk_through}
use Rattle.call_edit_session.specs.Edits.{add, remove, edited, opened, reachable_after}
use Rattle.call_modal.specs.Modal.{certain_table, possible_table, release_check, ModalAnswer, modal_of}

abbrev pub heldE : Dialogue
heldE = rested (table 3 (0 ∷ []) (2 ∷ []) [] ((1, 2) ∷ [])) (set (0 ∷ []))

abbrev pub ninth : Dialogue
ninth = table 4 (0 ∷ []) (2 ∷ []) ((0 ∷ []) ∷ []) ((0, 0) ∷ (0, 1) ∷ (1, 3) ∷ (2, 3) ∷ (3, 0) ∷ (3, 2) ∷ [])

abbrev pub with_option : List ℕ
with_option = set (0 ∷ 1 ∷ []) ++ (set (2 ∷ []) ++ set [])

abbrev pub bare : Dialogue
bare = table 2 (0 ∷ []) [] [] []

abbrev pub bare_steps : List ℕ
bare_steps = set (1 ∷ []) ++ set (0 ∷ [])

abbrev pub modal_on : Dialogue → List ℕ → ModalAnswer
modal_on d possible = modal_of (release_check (certain_table (layout d) d.n 0 possible)) (release_check (possible_table (layout d) d.n 0 possible))

abbrev pub at_best : Dialogue → List ℕ → Table
at_best d possible = possible_table (layout d) d.n 0 possible

pub record Examples : Type 0 where
  -- "Post, hold and covers": E, and the list with the one set {0, 1}
  pub post_E : post 3 (stored E).row (set (0 ∷ 1 ∷ [])) ≡ set (0 ∷ 2 ∷ [])
  pub hold_E : hold 3 (stored E).row (set (0 ∷ 1 ∷ [])) ≡ set (0 ∷ 2 ∷ [])
  pub covers_E : tabulate 3 (cover_of 3 (set (0 ∷ 1 ∷ []) ∷ [])) ≡ set (0 ∷ 1 ∷ []) ∷ set (0 ∷ 1 ∷ []) ∷ set (0 ∷ 1 ∷ 2 ∷ []) ∷ []
  -- "Rounds": the order of round 0 of D
  pub order_D : forward_order (stored D) (first_round (stored D)).list (first_round (stored D)).Z ≡ 0 ∷ 1 ∷ 2 ∷ []
  -- "Worked tables": a dead end that is held, and a list to which Z is added
  pub held : release_check (stored heldE) ≡ record { verdict = 0; count = 1; invariant = set (0 ∷ []); size = 1; steps = 0 }
  pub added : (release_check (stored ninth) ≡ record { verdict = 1; count = 1; invariant = set []; size = 0; steps = 3 })
      × (smallest_path (stored ninth) ≡ 0 ∷ 1 ∷ 3 ∷ 2 ∷ [])
  -- "Distances"
  pub distances_B : tabulate 5 (distance (stored B)) ≡ 3 ∷ 2 ∷ 1 ∷ 0 ∷ 65535 ∷ []
  pub within_B : (is_within (stored B) 2 ≡ false) × (is_within (stored B) 3 ≡ true)
  pub distances_A : tabulate 3 (distance (stored A)) ≡ 65535 ∷ 65535 ∷ 0 ∷ []
  pub within_A : (k : ℕ) → is_within (stored A) k ≡ false
  -- "Replay": the log 0 1 4 on B
  pub log_B : walk_through (stored B) (0 ∷ 0 ∷ 1 ∷ 0 ∷ 4 ∷ 0 ∷ []) ≡ record { followed = 2; seen = 2; percent = 50; remainder = 0 }
  -- an entry is two bytes, low byte first: states over 255 too
  pub entries : tabulate 3 (entry (7 ∷ 0 ∷ 44 ∷ 1 ∷ 255 ∷ 1 ∷ [])) ≡ 7 ∷ 300 ∷ 511 ∷ []
  -- "Edit sessions": B opened, without 1 → 2, with 4 → 2, with 0 → 4
  pub session_B :
      let one = edited (layout B) (remove 1 2) in
      let two = edited one (add 4 2) in
      let three = edited two (add 0 4) in
      (opened (stored B) ≡ set (0 ∷ 1 ∷ 2 ∷ 3 ∷ []))
      × (reachable_after (table_of one 5 0) (set (0 ∷ 1 ∷ 2 ∷ 3 ∷ [])) (remove 1 2) ≡ set (0 ∷ 1 ∷ []))
      × (reachable_after (table_of two 5 0) (set (0 ∷ 1 ∷ [])) (add 4 2) ≡ set (0 ∷ 1 ∷ []))
      × (reachable_after (table_of three 5 0) (set (0 ∷ 1 ∷ [])) (add 0 4) ≡ set (0 ∷ 1 ∷ 2 ∷ 3 ∷ 4 ∷ []))
  -- "Possible steps": E with 0 → 1, and a table without a certain step, which decide calls unsafe
  pub depends : (modal_on E with_option ≡ record { verdict = 3; invariant = set (0 ∷ []); size = 1; steps = 2 })
      × (smallest_path (at_best E with_option) ≡ 0 ∷ 1 ∷ 2 ∷ [])
  pub possible : modal_on bare bare_steps ≡ record { verdict = 0; invariant = set (0 ∷ 1 ∷ []); size = 2; steps = 0 }
  pub certain : ((release_check (stored bare)).verdict ≡ 1) × (smallest_path (stored bare) ≡ 0 ∷ [])
