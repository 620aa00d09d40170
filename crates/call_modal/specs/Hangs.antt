-- Which states decide_modal has as its forbidden ones; `HangsKept.hangs_are` proves it.
--
--   HangsAre     of every store, n and rows of possible steps: exactly the marked states, and those without a possible step that are not resting
use Rattle.std.specs.Prelude.{ℕ, ◌*◌, ◌<◌, ◌≡◌, ◌⊎◌, ◌↔◌, true, false, List}
use Rattle.model.specs.Sets.{WORDS, max_states, Set, member}
use Rattle.model.specs.Stores.{marked_at, resting_at, set_at}
use Rattle.call_modal.specs.Modal.{modal_forbidden, modal_table}

pub record HangsAre : Type 0 where
  pub members : (store : List ℕ) (n : ℕ) (possible : List ℕ) (s : ℕ) → s < max_states
      → (member (modal_forbidden store n possible) s ≡ true)
      ↔ ((member (set_at store marked_at) s ≡ true)
      ⊎ ((s < n) × ((u : ℕ) → member (set_at possible (WORDS * s)) u ≡ false) × (member (set_at store resting_at) s ≡ false)))
  -- the same for every choice of rows
  pub every_choice : (store : List ℕ) (n g : ℕ) (possible : List ℕ) (row : ℕ → Set) → (modal_table store n g possible row).forbidden ≡ modal_forbidden store n possible
