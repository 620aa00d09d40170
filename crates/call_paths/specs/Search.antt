-- The searches as the code does them: over the rows that are lent, with an array of layers.
--
--   HoldsTable rows n initial forbidden     the rows, with those sets, are a well_formed table of n states; its groups play no part
--   layer_of rows X k               what k steps lead to from X and no fewer
--   met_within rows X F k           at most k steps lead from X to a state of F
--   first_layer rows X F            the number of the first layer outward from X that holds a state of F: how many steps lead from X to one
--   steps_within found k            what was found is at most k steps away
--   LayersUpTo rows X F room found layers     where d steps were found: the layers before d, and the states of F in layer d, a row for each as far as
--                                  there is room. Rows past d, and all of them where nothing is found, are left free: nobody reads them
--   stepping_into rows X Y          the states of X that step to a state of Y (the existential predecessor of Y, inside X)
--   narrowed_back rows d layers     back from layer d, of each layer the states that step to a state kept of the next
--   smallest_in layers i X          the smallest state of X in layer i
--   walk_by rows layers at d s      the walk of d steps from s, which is in layer `at`, to the smallest successor in the next layer each time: where those
--                                  are the layers of the shortest paths, the model's walk (proofs/PathsFound.antt)
--   Writable                       a walk that can be written: each state of it is one, and the buffer has room for all from `at` on
use Rattle.std.specs.Prelude.{ℕ, zero, suc, ◌+◌, ◌≤◌, ◌<◌, ◌≡◌, Bool, false, cond, ◌&&◌, List, [], ◌∷◌, leb, ltb, length, get_or, set as replaced, Option, Some, None}
use Rattle.basics.specs.Bounds.{first}
use Rattle.model.specs.Sets.{max_states, Set, member, set_of, empty, meet, difference, meets, smallest}
use Rattle.model.specs.Rounds.{iterate}
use Rattle.model.specs.WellFormed.{WellFormed}
use Rattle.core_rows.specs.Rows.{rows_words, row_in, table_on}
use Rattle.core_reach.specs.Reached.{reach_by}

pub record HoldsTable (rows : List ℕ) (n : ℕ) (initial forbidden : Set) : Type 0 where
  pub long : rows_words ≤ length rows
  pub small : n ≤ max_states
  pub formed : WellFormed (table_on n initial forbidden [] rows)

-- Layer k is what k steps lead to and no fewer, so layer k is the first with a state of F where k steps are the first to lead to one.
unfoldable pub layer_of : List ℕ → Set → ℕ → Set
layer_of rows X k = let found = iterate (reach_by rows X) empty in difference (found (suc k)) (found k)

unfoldable pub met_within : List ℕ → Set → Set → ℕ → Bool
met_within rows X F k = meets (iterate (reach_by rows X) empty (suc k)) F

unfoldable pub first_layer : List ℕ → Set → Set → Option ℕ
first_layer rows X F = let d = first max_states (met_within rows X F) in cond (ltb d max_states) (Some d) None

abbrev pub steps_within : Option ℕ → ℕ → Bool
steps_within (Some d) k = leb d k
steps_within None k = false

abbrev pub LayersUpTo : List ℕ → Set → Set → ℕ → Option ℕ → List Set → Type 0
LayersUpTo rows X F room (Some d) layers =
    (length layers ≡ room)
    × ((i : ℕ) → i < d → i < room → get_or layers i [] ≡ layer_of rows X i)
    × (d < room → get_or layers d [] ≡ meet (layer_of rows X d) F)
LayersUpTo rows X F room None layers = Unit {0}

unfoldable pub stepping_into : List ℕ → Set → Set → Set
stepping_into rows X Y = set_of (λ s. member X s && meets (row_in rows s) Y)

unfoldable pub narrowed_back : List ℕ → ℕ → List Set → List Set
narrowed_back rows zero layers = layers
narrowed_back rows (suc i) layers = narrowed_back rows i (replaced layers i (stepping_into rows (get_or layers i []) (get_or layers (suc i) [])))

abbrev pub smallest_in : List Set → ℕ → Set → ℕ
smallest_in layers i X = smallest (meet X (get_or layers i []))

unfoldable pub walk_by : List ℕ → List Set → ℕ → ℕ → ℕ → List ℕ
walk_by rows layers at zero s = s ∷ []
walk_by rows layers at (suc d) s = s ∷ walk_by rows layers (suc at) d (smallest_in layers (suc at) (row_in rows s))

pub record Writable (rows : List ℕ) (layers : List Set) (s d room at : ℕ) : Type 0 where
  pub long : rows_words ≤ length rows
  pub short : at + d < max_states
  pub fits : max_states ≤ room
  pub states : (i : ℕ) → i ≤ d → get_or (walk_by rows layers at d s) i 0 < max_states
