-- The states that a set of states reaches (forward reachability).
--
--   reach_step t X Y     X and all successors of states in Y: X union post(Y)
--   reachable t X       the states that X reaches, X included: the least Y with Y = X union post(Y)
--   walks t x xs        x and then the states xs are joined by steps
--   end x xs            the last of them
--   ReachableIs         what `reachable` is: that least Y, and the states in which the walks from X end
--   reach_by rows X Y    reach_step as the code takes it, over the rows that are lent
--   Reaching            ReachableIs, of every set of states of a well_formed table; what the contract of `reached` gives is reachable; and the
--                       table of an accepted store is well formed, its initial states a set of its states
use Rattle.std.specs.Prelude.{ℕ, ◌≡◌, ◌↔◌, Bool, true, ◌&&◌, List, [], ◌∷◌}
use Rattle.model.specs.Sets.{Set, member, empty, union, subset, first_states}
use Rattle.model.specs.Tables.{Table, post}
use Rattle.model.specs.Rounds.{iterate}
use Rattle.model.specs.Stores.{table_of, AcceptedStore}
use Rattle.model.specs.Promises.{IsLeast}
use Rattle.model.specs.WellFormed.{WellFormed}
use Rattle.core_rows.specs.Rows.{rows_of, successors_by}

unfoldable pub reach_step : Table → Set → Set → Set
reach_step t X Y = union X (post t.n t.row Y)

-- n steps from below reach the least solution (a theorem).
unfoldable pub reachable : Table → Set → Set
reachable t X = iterate (reach_step t X) empty t.n

unfoldable pub walks : Table → ℕ → List ℕ → Bool
walks t x [] = true
walks t x (y ∷ ys) = member (t.row x) y && walks t y ys

unfoldable pub end : ℕ → List ℕ → ℕ
end x [] = x
end x (y ∷ ys) = end y ys

pub record ReachableIs (t : Table) (X : Set) : Type 0 where
  pub least : IsLeast (reach_step t X) (reachable t X)
  pub members : (s : ℕ)
      → (member (reachable t X) s ≡ true)
      ↔ ((x : ℕ) × (xs : List ℕ) × (member X x ≡ true) × (walks t x xs ≡ true) × (end x xs ≡ s))

unfoldable pub reach_by : List ℕ → Set → Set → Set
reach_by rows X Y = union X (successors_by rows Y)

pub record Reaching : Type 0 where
  pub reachable-is : (t : Table) (X : Set) → WellFormed t → subset X (first_states t.n) ≡ true → ReachableIs t X
  pub reached-is : (store : List ℕ) (n g : ℕ) (X Y : Set) → WellFormed (table_of store n g) → subset X (first_states n) ≡ true
      → IsLeast (reach_by (rows_of store) X) Y → Y ≡ reachable (table_of store n g) X
  pub accepted : (store : List ℕ) (n g : ℕ) → AcceptedStore store n g
      → WellFormed (table_of store n g) × (subset (table_of store n g).initial (first_states n) ≡ true)
