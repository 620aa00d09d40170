-- The rounds (the specification, "Rounds": fixpoint-guided abstraction refinement after Cousot, Ganty and Raskin), and backward
-- elimination ("Backward elimination").
--
--   iterate f x k       f applied k times to x
--   Round               the list (the predicates of the abstraction so far), Z (the states not yet excluded), R and S of one round
--   forward t L Z       R of a round: the least X with X = cover(Z meet (Init union post X)) (the abstract forward reachable states
--                       inside Z, a least fixpoint)
--   backward t L R      S of a round: the greatest X with X = cover(R meet hold X) (the abstract states all of whose runs stay in R, a
--                       greatest fixpoint)
--   is_safe, is_unsafe    the tests of steps 2 and 4
--   next_round t r       a refinement: the next Z is added to the list
--   rounds t left i r   the outcome from round i on, with `left` refinements left of the allowance (the bound on refinements)
--   run t allowance     the outcome of a check
--   eliminated t j      W after j rounds of backward elimination (backward reachability of the forbidden states, by complement)
--   backward_number t    the least j for which W is the same after j and after j + 1 rounds (the steps to its fixpoint)
use Rattle.std.specs.Prelude.{ℕ, zero, suc, Bool, cond, not, List, ◌∷◌}
use Rattle.basics.specs.Bounds.{first}
use Rattle.model.specs.Sets.{Set, empty, union, meet, subset, same, first_states}
use Rattle.model.specs.Tables.{Table, post, hold, cover, not_forbidden}

unfoldable pub iterate : (Set → Set) → Set → ℕ → Set
iterate f x zero = x
iterate f x (suc k) = f (iterate f x k)

-- ---- a round

pub record Round : Type 0 where
  pub list : List Set
  pub Z : Set
  pub R : Set
  pub S : Set

-- Step 1's equation; n steps from below reach the least solution (a theorem).
unfoldable pub forward_step : Table → List Set → Set → Set → Set
forward_step t L Z X = cover t.n L (meet Z (union t.initial (post t.n t.row X)))

unfoldable pub forward : Table → List Set → Set → Set
forward t L Z = iterate (forward_step t L Z) empty t.n

-- Step 2's test.
unfoldable pub is_safe : Table → Round → Bool
is_safe t r = subset (union t.initial (post t.n t.row r.R)) r.Z

-- Step 3's equation; n steps from above reach the greatest solution (a theorem).
unfoldable pub backward_step : Table → List Set → Set → Set → Set
backward_step t L R X = cover t.n L (meet R (hold t.n t.row X))

unfoldable pub backward : Table → List Set → Set → Set
backward t L R = iterate (backward_step t L R) (first_states t.n) t.n

-- Step 4's test.
unfoldable pub is_unsafe : Table → Round → Bool
is_unsafe t r = not (subset t.initial r.S)

unfoldable pub round_of : Table → List Set → Set → Round
round_of t L Z = let r = forward t L Z in record { list = L; Z = Z; R = r; S = backward t L r }

unfoldable pub first_round : Table → Round
first_round t = let z = not_forbidden t.n t.forbidden in round_of t (z ∷ t.groups) z

-- Step 6: the next Z is S meet hold(S), and it is added to the list.
unfoldable pub next_round : Table → Round → Round
next_round t r = let z = meet r.S (hold t.n t.row r.S) in round_of t (z ∷ r.list) z

-- ---- the rounds

pub data Outcome : Type 0 where
  safe : ℕ → Set → Outcome  -- the count and the invariant
  unsafe : ℕ → Outcome  -- the count
  undecided : ℕ → Outcome  -- the count

-- Steps 2 and 4 of round i, and what the later steps give.
unfoldable pub settle : Table → Round → ℕ → Outcome → Outcome
settle t r i later = cond (is_safe t r) (safe i r.R) (cond (is_unsafe t r) (unsafe i) later)

unfoldable pub rounds : Table → ℕ → ℕ → Round → Outcome
rounds t zero i r = settle t r i (undecided i)
rounds t (suc left) i r = let later = rounds t left (suc i) (next_round t r) in settle t r i later

unfoldable pub run : Table → ℕ → Outcome
run t allowance = rounds t allowance 0 (first_round t)

-- ---- backward elimination

unfoldable pub elimination_step : Table → Set → Set
elimination_step t W = meet W (hold t.n t.row W)

unfoldable pub eliminated : Table → ℕ → Set
eliminated t j = iterate (elimination_step t) (not_forbidden t.n t.forbidden) j

unfoldable pub backward_number : Table → ℕ
backward_number t = first t.n (λ j. same (eliminated t j) (eliminated t (suc j)))
