-- The order in which the states of R are expanded (the specification, "Rounds").
--
--   Pass                      a pass (02: a look; an iteration of a breadth-first search): its frontier, which are the states that it expands,
--                             and the states that the passes before it have expanded
--   pass_at first joined k     pass k. The first expands `first`, each later one what joined by the one before: joined X is what the
--                             successors of X bring
--   order_of first joined n    the states in the order in which the first n passes expand them, rising within a pass
--   forward_order t L Z        that order for R of a round of a table: first_pass and later_pass are what its passes go by
--   order_by rows cover ..     that order over the rows and the cover
--   padded xs                 xs at the front of an array of max_states places, the others 0
--   times s xs                how often s stands in xs
--   InOrder t L Z xs          xs has each state of R once, and no other, pass by pass; each pass is what the specification says; each rises
use Rattle.std.specs.Prelude.{ℕ, zero, suc, ◌+◌, ◌<◌, ◌≡◌, cond, not, ◌&&◌, List, [], ◌∷◌, eqb, length, get_or, replicate}
use Rattle.basics.specs.Bounds.{any, concat}
use Rattle.model.specs.Sets.{max_states, Set, member, empty, union, meet, difference, members}
use Rattle.model.specs.Tables.{Table, post, cover}
use Rattle.model.specs.Rounds.{forward}
use Rattle.model.specs.Calls.{overwrite}
use Rattle.core_rows.specs.Rows.{successors_by}
use Rattle.core_fixpoints.specs.Steps.{cover_by}

pub record Pass : Type 0 where
  pub before : Set
  pub frontier : Set

unfoldable pub pass_at : Set → (Set → Set) → ℕ → Pass
pass_at first joined zero = record { before = empty; frontier = first }
pass_at first joined (suc k) =
    let pass = pass_at first joined k in
    let seen = union pass.before pass.frontier in
    record { before = seen; frontier = difference (joined pass.frontier) seen }

unfoldable pub order_of : Set → (Set → Set) → ℕ → List ℕ
order_of first joined n = concat n (λ k. members (pass_at first joined k).frontier)

-- ---- of a round of a table

unfoldable pub first_pass : Table → List Set → Set → Set
first_pass t L Z = cover t.n L (meet Z t.initial)

unfoldable pub later_pass : Table → List Set → Set → Set → Set
later_pass t L Z X = cover t.n L (meet Z (post t.n t.row X))

-- n passes, as many as there can be states that join.
unfoldable pub forward_order : Table → List Set → Set → List ℕ
forward_order t L Z = order_of (first_pass t L Z) (later_pass t L Z) t.n

-- ---- over the rows and the cover

abbrev pub first_pass_by : List Set → Set → Set → Set
first_pass_by cover initial Z = cover_by cover (meet Z initial)

abbrev pub later_pass_by : List ℕ → List Set → Set → Set → Set
later_pass_by rows cover Z X = cover_by cover (meet Z (successors_by rows X))

-- As many passes as there can be states: the last of them expand nothing.
unfoldable pub order_by : List ℕ → List Set → Set → Set → List ℕ
order_by rows cover initial Z = order_of (first_pass_by cover initial Z) (later_pass_by rows cover Z) max_states

unfoldable pub padded : List ℕ → List ℕ
padded xs = overwrite xs (replicate max_states 0)

-- ---- what holds of it

unfoldable pub times : ℕ → List ℕ → ℕ
times s [] = 0
times s (x ∷ xs) = cond (eqb x s) 1 0 + times s xs

abbrev pub frontier_at : Table → List Set → Set → ℕ → Set
frontier_at t L Z k = (pass_at (first_pass t L Z) (later_pass t L Z) k).frontier

pub record InOrder (t : Table) (L : List Set) (Z : Set) (xs : List ℕ) : Type 0 where
  -- each state of R once, and no other
  pub each_once : (s : ℕ) → times s xs ≡ cond (member (forward t L Z) s) 1 0
  -- the passes, one after the other
  pub by_passes : xs ≡ concat t.n (λ k. members (frontier_at t L Z k))
  -- the first: cover(Z meet Init)
  pub first_pass_lem : frontier_at t L Z 0 ≡ cover t.n L (meet Z t.initial)
  -- a later one: what joined by the one before, and was in none so far
  pub later_pass_lem : (k s : ℕ)
      → member (frontier_at t L Z (suc k)) s
      ≡ (member (cover t.n L (meet Z (post t.n t.row (frontier_at t L Z k)))) s && not (any (suc k) (λ j. member (frontier_at t L Z j) s)))
  -- within a pass the states rise
  pub rising : (k i j : ℕ) → i < j → j < length (members (frontier_at t L Z k)) → get_or (members (frontier_at t L Z k)) i 0 < get_or (members (frontier_at t L Z k)) j 0
