-- What is promised of the calls distances and within, of their results and of the buffer before and after.
--
--   DistanceIs t s d       d is the number of steps from s to the nearest forbidden state, or `unreachable` where none can be reached
--   Measured               what distances leaves: the distance of each state, and the places past n as they were
--   WithinIs t k yes       what within says: a path of at most k steps; for k = 0 a state that is initial and forbidden
--   FirstWords             two stores that neither call tells apart
--   DistancePromises       all of it, of every call
use Rattle.std.specs.Prelude.{ℕ, suc, ◌≤◌, ◌<◌, ◌≡◌, ◌↔◌, Bool, true, List, Result, length, get_or, take}
use Rattle.model.specs.Sets.{member}
use Rattle.model.specs.Tables.{Table}
use Rattle.model.specs.Paths.{leads, is_path, unreachable}
use Rattle.basics.specs.Refusals.{refuse, refused, answered}
use Rattle.model.specs.Stores.{store_words, table_of, shared_grounds}
use Rattle.call_distances.specs.Distances.{distances_grounds, distances_answer, distances_buffer, distances_of, CalledDistances}
use Rattle.call_paths.specs.Within.{within_answer, within_of, CalledWithin}
use Rattle.core_refusals.specs.declared.Refusal.{Refusal}

pub record DistanceIs (t : Table) (s d : ℕ) : Type 0 where
  -- from s so many steps lead to a forbidden state
  pub reached : (d ≡ unreachable → ⊥) → (xs : List ℕ) × (leads t s xs ≡ true) × (length xs ≡ d)
  -- and no fewer do
  pub nearest : (xs : List ℕ) → leads t s xs ≡ true → (d ≤ length xs) × (d ≡ unreachable → ⊥)

pub record Measured (t : Table) (before after : List ℕ) : Type 0 where
  pub distances : (s : ℕ) → s < t.n → DistanceIs t s (get_or after s 0)
  pub rest : (i : ℕ) → t.n ≤ i → get_or after i 0 ≡ get_or before i 0
  pub as_long : length after ≡ length before

pub record WithinIs (t : Table) (k : ℕ) (yes : Bool) : Type 0 where
  -- a path of d steps has d + 1 states
  pub path : (yes ≡ true) ↔ ((xs : List ℕ) × (is_path t xs ≡ true) × (length xs ≤ suc k))
  pub at_zero : k ≡ 0 → (yes ≡ true) ↔ ((s : ℕ) × (member t.initial s ≡ true) × (member t.forbidden s ≡ true))

pub record FirstWords (store other : List ℕ) : Type 0 where
  pub distances : (n g : ℕ) (out : List ℕ)
      → (distances_answer store n g (length out) ≡ distances_answer other n g (length out))
      × (distances_buffer store n g out ≡ distances_buffer other n g out)
  pub within : (n g k : ℕ) → within_answer store n g k ≡ within_answer other n g k

pub record DistancePromises : Type 0 where
  -- a refused call gives the number of the first ground that holds, and leaves its buffer
  pub refusal : (store : List ℕ) (n g : ℕ) (before : List ℕ) (r : Result (Unit {0}) Refusal) (after : List ℕ) (k : ℕ)
      → CalledDistances store n g before r after → distances_of r ≡ refused k
      → (k ≡ refuse (distances_grounds store n g (length before))) × (after ≡ before)
  pub distances : (store : List ℕ) (n g : ℕ) (before : List ℕ) (r : Result (Unit {0}) Refusal) (after : List ℕ)
      → CalledDistances store n g before r after → distances_of r ≡ answered tt → Measured (table_of store n g) before after
  pub within : (store : List ℕ) (n g k : ℕ) (r : Result Bool Refusal) (yes : Bool)
      → CalledWithin store n g k r → within_of r ≡ answered yes → WithinIs (table_of store n g) k yes
  pub within-refusal : (store : List ℕ) (n g k : ℕ) (r : Result Bool Refusal) (j : ℕ) → CalledWithin store n g k r → within_of r ≡ refused j
      → j ≡ refuse (shared_grounds store n g)
  -- the two calls agree
  pub agree : (store : List ℕ) (n g : ℕ) (before : List ℕ) (r : Result (Unit {0}) Refusal) (after : List ℕ) (k : ℕ) (w : Result Bool Refusal)
      → CalledDistances store n g before r after → distances_of r ≡ answered tt → CalledWithin store n g k w
      → (within_of w ≡ answered true)
      ↔ ((s : ℕ) × (member (table_of store n g).initial s ≡ true) × (get_or after s 0 ≡ unreachable → ⊥) × (get_or after s 0 ≤ k))
  -- of every call on two stores that are alike in their first words: none after them is read
  pub first-words : (store other : List ℕ) → store_words ≤ length store → store_words ≤ length other → take store_words store ≡ take store_words other
      → FirstWords store other
