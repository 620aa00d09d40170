-- An old file rewritten in the new form (the specification, "Rewriting an old file"). The proofs stand in proofs/.
--
--   dead_ends d               the states of a table without a successor (its deadlocks)
--   rewritten d              the dialogue with its dead ends, and no other state, resting
--   old_table d               the table that a dialogue means in the old form: the marked states, and no other, are forbidden
--   OldFile input            an input that the old form accepts, at site 0; old_dialogue input: the dialogue that it holds
--   new_file input            its file in the new form, at site 0
--   OldFileDecisions         decide answers as the rounds of the old table do, and leaves its path, at every allowance and in every buffer
--   OldFileRewriting         the promise
use Rattle.std.specs.Prelude.{ℕ, ◌^◌, ◌≤◌, ◌<◌, ◌≡◌, ◌↔◌, true, cond, List, eqb, length, take}
use Rattle.model.specs.Sets.{max_states, Set, member, empty, states}
use Rattle.model.specs.Tables.{Table, Dialogue, is_dead_end, table_from}
use Rattle.model.specs.Rounds.{run}
use Rattle.model.specs.Paths.{smallest_path}
use Rattle.basics.specs.Refusals.{refuse, answered}
use Rattle.model.specs.Stores.{store_words, resting_at, set_at, dialogue_of, layout, AcceptedStore}
use Rattle.model.specs.Blocks.{contents_of}
use Rattle.model.specs.Contents.{old_form, new_form, dialogue_in}
use Rattle.model.specs.Files.{file_of}
use Rattle.model.specs.Calls.{overwrite, max_allowance, decision_of, decide_answer, decide_buffer, states_in, groups_in, read_grounds_as, read_answer_as, read_buffer_as, read_answer, read_buffer}
use Rattle.model.specs.Resting.{Dead, rested}
use Rattle.model.specs.RoundTrip.{Bounded}

unfoldable pub dead_ends : Dialogue → Set
dead_ends d = states d.n (is_dead_end d.row)

unfoldable pub rewritten : Dialogue → Dialogue
unfolding rested
rewritten d = rested d (dead_ends d)

unfoldable pub old_table : Dialogue → Table
old_table d = record { n = d.n; initial = d.initial; forbidden = d.marked; groups = d.groups; row = d.row }

-- A store that is long enough plays no part in the grounds.
abbrev pub OldFile : List ℕ → Type 0
OldFile input = refuse (read_grounds_as old_form input 0 store_words) ≡ 0

unfoldable pub old_dialogue : List ℕ → Dialogue
unfolding dialogue_in
old_dialogue input = dialogue_in old_form (contents_of input) (states_in input) (groups_in old_form input)

unfoldable pub new_file : List ℕ → List ℕ
new_file input = file_of new_form 0 (rewritten (old_dialogue input))

pub record OldFileDecisions (t : Table) (store : List ℕ) (n g : ℕ) : Type 0 where
  pub answers : (allowance room : ℕ) → allowance ≤ max_allowance → max_states ≤ room
      → decide_answer store n g allowance room ≡ answered (decision_of t (run t allowance))
  pub buffers : (allowance : ℕ) (path : List ℕ) → allowance ≤ max_allowance → max_states ≤ length path
      → decide_buffer store n g allowance path ≡ cond (eqb (decision_of t (run t allowance)).verdict 1) (overwrite (smallest_path t) path) path

pub record OldFileRewriting : Type 0 where
  -- each table without resting states has an old file, which the old form reads back
  pub old_files : (store : List ℕ) (n g : ℕ) (other : List ℕ) → Bounded (2 ^ 64) store → AcceptedStore store n g → set_at store resting_at ≡ empty
      → store_words ≤ length other
      → (read_answer_as old_form (file_of old_form 0 (dialogue_of store n g)) 0 (length other) ≡ answered (record { n = n; g = g }))
      × (read_buffer_as old_form (file_of old_form 0 (dialogue_of store n g)) 0 other ≡ overwrite (take store_words store) other)
  -- its dead ends, and no other state, rest
  pub resting : (d : Dialogue) (s : ℕ) → s < max_states → (member (rewritten d).resting s ≡ true) ↔ ((s < d.n) × Dead d s)
  -- so what is forbidden is what was
  pub table : (d : Dialogue) (s : ℕ) → member (table_from (rewritten d)).forbidden s ≡ member d.marked s
  -- of every old file, and of every store that its new file is read into
  pub accepted : (input store : List ℕ) → OldFile input → store_words ≤ length store
      → read_answer (new_file input) 0 (length store) ≡ answered (record { n = states_in input; g = groups_in old_form input })
  pub held : (input store : List ℕ) → OldFile input → store_words ≤ length store
      → read_buffer (new_file input) 0 store ≡ overwrite (layout (rewritten (old_dialogue input))) store
  pub decisions : (input store : List ℕ) → OldFile input → store_words ≤ length store
      → OldFileDecisions (old_table (old_dialogue input)) (read_buffer (new_file input) 0 store) (states_in input) (groups_in old_form input)
