-- Where each set of a table stands in its store, in the specification's figures ("The store"), for every store: `WorkedStore` works out only one, of
-- two groups and with most rows empty. `PlacesKept.places` proves it.
use Rattle.std.specs.Prelude.{ℕ, ◌+◌, ◌*◌, ◌≤◌, ◌<◌, ◌≡◌, List, take, drop}
use Rattle.basics.specs.Bounds.{tabulate}
use Rattle.model.specs.Sets.{empty}
use Rattle.model.specs.Stores.{set_at, dialogue_of}

pub record Places (store : List ℕ) (n g : ℕ) : Type 0 where
  pub set : (at : ℕ) → set_at store at ≡ take 8 (drop at store)
  pub states : (dialogue_of store n g).n ≡ n
  pub initial : (dialogue_of store n g).initial ≡ set_at store 0
  pub marked : (dialogue_of store n g).marked ≡ set_at store 8
  pub resting : (dialogue_of store n g).resting ≡ set_at store 16
  pub groups : (dialogue_of store n g).groups ≡ tabulate g (λ j. set_at store (24 + 8 * j))
  pub row : (s : ℕ) → s < n → (dialogue_of store n g).row s ≡ set_at store (536 + 8 * s)
  pub no_row : (s : ℕ) → n ≤ s → (dialogue_of store n g).row s ≡ empty
