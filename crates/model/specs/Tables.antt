-- Tables, and the cover of a list of sets (the specification, "Tables and sets" and "Post, hold and covers").
--
--   Table               a finite transition system: n states, the initial and the forbidden (error) states, the groups (the predicates
--                       that generate the first abstraction), and for each state its row (the set of its successors)
--   Dialogue            a table as a store or a file holds it: with the states that are marked forbidden, and the resting ones
--   is_dead_end row s     s has no successor (a deadlock)
--   is_hang, hangs       a dead end that is not resting; those of a table
--   table_from d         the table of a dialogue: a state is forbidden if it is marked so or is a hang
--   post n row X        all successors of states in X (the strongest postcondition)
--   hold n row X        all states of the table whose every successor is in X (the universal predecessor, or weakest liberal precondition)
--   cover_of n L s       the cover of one state for a list L of sets (the closure of {s} in the disjunctive abstraction that L generates)
--   cover n L X         the cover of a set: the union of the covers of its states (the closure of X in that abstraction)
--   not_forbidden n F    the states of the table that are not forbidden
--
-- Each definition takes only what it uses of a table.
use Rattle.std.specs.Prelude.{ℕ, Bool, cond, not, ◌&&◌, List, [], ◌∷◌}
use Rattle.basics.specs.Bounds.{any}
use Rattle.model.specs.Sets.{max_states, Set, member, union, meet, subset, states, first_states, image}

pub record Table : Type 0 where
  pub n : ℕ
  pub initial : Set
  pub forbidden : Set
  pub groups : List Set
  pub row : ℕ → Set

pub record Dialogue : Type 0 where
  pub n : ℕ
  pub initial : Set
  pub marked : Set
  pub resting : Set
  pub groups : List Set
  pub row : ℕ → Set

unfoldable pub is_dead_end : (ℕ → Set) → ℕ → Bool
is_dead_end row s = not (any max_states (member (row s)))

unfoldable pub is_hang : (ℕ → Set) → Set → ℕ → Bool
is_hang row resting s = is_dead_end row s && not (member resting s)

unfoldable pub hangs : ℕ → (ℕ → Set) → Set → Set
hangs n row resting = states n (is_hang row resting)

unfoldable pub table_from : Dialogue → Table
table_from d =
    record {
      n = d.n;
      initial = d.initial;
      forbidden = union d.marked (hangs d.n d.row d.resting);
      groups = d.groups;
      row = d.row;
    }

unfoldable pub post : ℕ → (ℕ → Set) → Set → Set
post n row X = image n row X

-- A state without successors is in hold X for each X.
unfoldable pub hold : ℕ → (ℕ → Set) → Set → Set
hold n row X = states n (λ s. subset (row s) X)

-- The meet of the listed sets that contain s, or all n states if none does: begun with all n states. In an accepted check each listed set
-- holds states of the table only, so that it is the meet of just those sets (`Promises.CoverIs`).
unfoldable pub cover_of : ℕ → List Set → ℕ → Set
cover_of n [] s = first_states n
cover_of n (Z ∷ L) s = let older = cover_of n L s in cond (member Z s) (meet older Z) older

unfoldable pub cover : ℕ → List Set → Set → Set
cover n L X = image n (cover_of n L) X

unfoldable pub not_forbidden : ℕ → Set → Set
not_forbidden n forbidden = states n (λ s. not (member forbidden s))
