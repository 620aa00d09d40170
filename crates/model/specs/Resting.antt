-- Hangs and resting states: what a dialogue's table has as its forbidden states. The proof stands in proofs/.
--
--   Dead d s            s has no successor: a dead end (a deadlock)
--   rested d X          the dialogue with the states of X resting, and no other
--   ForbiddenIs d       the forbidden states of a dialogue's table, and which resting states play a part
use Rattle.std.specs.Prelude.{ℕ, ◌≤◌, ◌<◌, ◌≡◌, ◌⊎◌, ◌↔◌, true, false}
use Rattle.model.specs.Sets.{max_states, Set, member, single, union}
use Rattle.model.specs.Tables.{Dialogue, table_from}

abbrev pub Dead : Dialogue → ℕ → Type 0
Dead d s = (u : ℕ) → member (d.row s) u ≡ false

unfoldable pub rested : Dialogue → Set → Dialogue
rested d X = record { n = d.n; initial = d.initial; marked = d.marked; resting = X; groups = d.groups; row = d.row }

pub record ForbiddenIs (d : Dialogue) : Type 0 where
  -- exactly the marked states, and the dead ends of the table that are not resting
  pub forbidden : (s : ℕ) → s < max_states
      → (member (table_from d).forbidden s ≡ true)
      ↔ ((member d.marked s ≡ true) ⊎ ((s < d.n) × Dead d s × (member d.resting s ≡ false)))
  -- a marked state is forbidden, resting or not
  pub marked_wins : (s : ℕ) → member d.marked s ≡ true → member (table_from d).forbidden s ≡ true
  -- only states of the table are hangs
  pub states_only : (s : ℕ) → d.n ≤ s → member (table_from d).forbidden s ≡ member d.marked s
  -- whether a state rests plays a part only for a dead end of the table that is not marked
  pub resting_matters : (X : Set)
      → ((s : ℕ) → s < d.n → Dead d s → member d.marked s ≡ false → member X s ≡ member d.resting s)
      → table_from (rested d X) ≡ table_from d
  -- so a state with a successor may rest or not
  pub with_successor : (s u : ℕ) → member (d.row s) u ≡ true → table_from (rested d (union d.resting (single s))) ≡ table_from d
