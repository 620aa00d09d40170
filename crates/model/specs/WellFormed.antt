-- A table whose initial states, forbidden states and successors are states of the table: what the theorems about paths assume, and what
-- ground 17 gives.
--
--   In X s, X ⊆ Y      membership and inclusion as facts
--   WellFormed t
use Rattle.std.specs.Prelude.{ℕ, ◌<◌, ◌≡◌, true}
use Rattle.model.specs.Sets.{Set, member, first_states}
use Rattle.model.specs.Tables.{Table}

pub record In (X : Set) (s : ℕ) : Type 0 where
  pub is : member X s ≡ true

infix 40 ◌⊆◌
abbrev pub ◌⊆◌ : Set → Set → Type 0
X ⊆ Y = (s : ℕ) → In X s → In Y s

pub record WellFormed (t : Table) : Type 0 where
  pub initial : t.initial ⊆ first_states t.n
  pub forbidden : t.forbidden ⊆ first_states t.n
  pub rows : (s : ℕ) → s < t.n → t.row s ⊆ first_states t.n
