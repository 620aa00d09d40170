-- The promises: demands 2 and 3, and what pins the rounds, as statements about the definitions. The proofs stand in proofs/.
--
--   Operations                 post, hold and covers by their members, and what adding a set to the list does
--   IsLeast, IsGreatest        the least and the greatest solution of X = f X (least and greatest fixpoint)
--   round_at t i                round i, whether or not the rounds get that far
--   IsFirst, IsNext, IsRound   where a round's list and Z come from; its R and S
--   Continues, FirstStop       a round that says neither safe nor unsafe; the outcome is that of the first round that does
--   StopsFirst                 the same of an answer: its verdict, count and invariant are those of the first round that stops
--   CoverIs                    the cover of one state, as the meet of listed sets
--   BackwardIs                 the rounds of backward elimination; the backward number is the least j for which W stays the same
--   LexLe, IsSmallest          lexicographic order; a shortest path, and the smallest of those
--   IsInvariant                an inductive invariant: it holds every initial state, no forbidden one and no step out
--   Carries                    what an answer carries with its verdict, and what is left in the path buffer
--   Demand2, Demand3           the demands, of one answer; SameAnswer: of two
--   PathAnswer                 what the call shortest path returns and leaves in the path buffer
--   Promises                   all of it, of every table and of every call that is answered
--   FirstWords                 two stores that decide, shortest path and write do not tell apart
--   Untouched                  a refused call leaves its buffer as it was, and its number is that of the first ground that holds
use Rattle.std.specs.Prelude.{ℕ, zero, suc, ◌≤◌, ◌<◌, ◌≡◌, ◌⊎◌, ◌↔◌, true, false, length, take}
use mathlib.Core.List.{List, [], ◌∷◌, Memᴰ}
use Rattle.model.specs.Sets.{max_states, Set, member, empty, meet, subset, size}
use Rattle.model.specs.Tables.{Table, post, hold, cover_of, cover, not_forbidden}
use Rattle.model.specs.Rounds.{Round, forward_step, backward_step, first_round, next_round, is_safe, is_unsafe, safe, unsafe, undecided, run, eliminated, backward_number}
use Rattle.model.specs.Paths.{leads, is_path, smallest_path}
use Rattle.basics.specs.Refusals.{refuse, refused, answered}
use Rattle.model.specs.Stores.{store_words, table_of}
use Rattle.model.specs.WellFormed.{WellFormed}
use Rattle.model.specs.Calls.{overwrite, Decision, release, decide_grounds, decision_of, decide_answer, decide_buffer, Shortest, shortest_grounds, shortest_answer, shortest_buffer, read_grounds, read_answer, read_buffer, write_grounds, write_answer, write_buffer}

-- ---- the operations, for states that a set can hold

pub record Operations (n : ℕ) (row : ℕ → Set) (L : List Set) (X : Set) : Type 0 where
  pub post-members : (u : ℕ)
      → (member (post n row X) u ≡ true) ↔ ((s : ℕ) × (s < n) × (member X s ≡ true) × (member (row s) u ≡ true))
  -- a state without successors is in hold X for each X
  pub hold-members : (s : ℕ) → s < max_states
      → (member (hold n row X) s ≡ true) ↔ ((s < n) × ((u : ℕ) → member (row s) u ≡ true → member X u ≡ true))
  -- the meet of the listed sets that contain s, or all n states if none does
  pub cover_of-members : (s u : ℕ) → u < max_states
      → (member (cover_of n L s) u ≡ true) ↔ ((u < n) × ((Z : Set) → Memᴰ Z L → member Z s ≡ true → member Z u ≡ true))
  pub cover-members : (u : ℕ)
      → (member (cover n L X) u ≡ true) ↔ ((s : ℕ) × (s < n) × (member X s ≡ true) × (member (cover_of n L s) u ≡ true))
  -- adding Z to the list changes the cover of each state in Z to its meet with Z, and no other cover
  pub add_in : (Z : Set) (s : ℕ) → member Z s ≡ true → cover_of n (Z ∷ L) s ≡ meet (cover_of n L s) Z
  pub add_out : (Z : Set) (s : ℕ) → member Z s ≡ false → cover_of n (Z ∷ L) s ≡ cover_of n L s

-- The cover of one state, where each listed set holds states of the table only: the meet of all listed sets that contain it, or all n
-- states if none does.
pub record CoverIs (n : ℕ) (L : List Set) (s : ℕ) : Type 0 where
  pub listed : (Z : Set) → Memᴰ Z L → member Z s ≡ true
      → (u : ℕ) → (member (cover_of n L s) u ≡ true) ↔ ((Y : Set) → Memᴰ Y L → member Y s ≡ true → member Y u ≡ true)
  pub unlisted : ((Z : Set) → Memᴰ Z L → member Z s ≡ false)
      → (u : ℕ) → (member (cover_of n L s) u ≡ true) ↔ (u < n)

-- ---- the rounds

pub record IsLeast (f : Set → Set) (X : Set) : Type 0 where
  pub solves : X ≡ f X
  pub least : (Y : Set) → Y ≡ f Y → subset X Y ≡ true

pub record IsGreatest (f : Set → Set) (X : Set) : Type 0 where
  pub solves : X ≡ f X
  pub greatest : (Y : Set) → Y ≡ f Y → subset Y X ≡ true

unfoldable pub round_at : Table → ℕ → Round
round_at t zero = first_round t
round_at t (suc i) = next_round t (round_at t i)

pub record IsFirst (t : Table) (r : Round) : Type 0 where
  pub Z_is : r.Z ≡ not_forbidden t.n t.forbidden
  pub list-is : r.list ≡ not_forbidden t.n t.forbidden ∷ t.groups

pub record IsNext (t : Table) (r next : Round) : Type 0 where
  pub Z_is : next.Z ≡ meet r.S (hold t.n t.row r.S)
  pub list-is : next.list ≡ next.Z ∷ r.list

pub record IsRound (t : Table) (r : Round) : Type 0 where
  pub R_least : IsLeast (forward_step t r.list r.Z) r.R
  pub S_greatest : IsGreatest (backward_step t r.list r.R) r.S

pub record Continues (t : Table) (i : ℕ) : Type 0 where
  pub not_safe : is_safe t (round_at t i) ≡ false
  pub not_unsafe : is_unsafe t (round_at t i) ≡ false

pub record FirstStop (t : Table) (allowance : ℕ) : Type 0 where
  pub at_safe : (i : ℕ) → i ≤ allowance → ((j : ℕ) → j < i → Continues t j) → is_safe t (round_at t i) ≡ true
      → run t allowance ≡ safe i (round_at t i).R
  pub at_unsafe : (i : ℕ) → i ≤ allowance → ((j : ℕ) → j < i → Continues t j) → is_safe t (round_at t i) ≡ false → is_unsafe t (round_at t i) ≡ true
      → run t allowance ≡ unsafe i
  pub at_undecided : ((j : ℕ) → j ≤ allowance → Continues t j) → run t allowance ≡ undecided allowance
  -- undecided comes only at the allowance, and with count equal to it
  pub only_undecided : (i : ℕ) → run t allowance ≡ undecided i → (i ≡ allowance) × ((j : ℕ) → j ≤ allowance → Continues t j)

-- An answer: nothing between the rounds and what decide returns changes a verdict, a count or an invariant.
pub record StopsFirst (t : Table) (allowance : ℕ) (a : Decision) : Type 0 where
  pub at_safe : (i : ℕ) → i ≤ allowance → ((j : ℕ) → j < i → Continues t j) → is_safe t (round_at t i) ≡ true
      → (a.verdict ≡ 0) × (a.count ≡ i) × (a.invariant ≡ (round_at t i).R)
  pub at_unsafe : (i : ℕ) → i ≤ allowance → ((j : ℕ) → j < i → Continues t j) → is_safe t (round_at t i) ≡ false → is_unsafe t (round_at t i) ≡ true
      → (a.verdict ≡ 1) × (a.count ≡ i) × (a.invariant ≡ empty)
  pub at_undecided : ((j : ℕ) → j ≤ allowance → Continues t j)
      → (a.verdict ≡ 2) × (a.count ≡ allowance) × (a.invariant ≡ empty)

-- ---- backward elimination

pub record BackwardIs (t : Table) (b : ℕ) : Type 0 where
  pub first : eliminated t 0 ≡ not_forbidden t.n t.forbidden
  pub next : (j : ℕ) → eliminated t (suc j) ≡ meet (eliminated t j) (hold t.n t.row (eliminated t j))
  pub still : eliminated t b ≡ eliminated t (suc b)
  pub least : (j : ℕ) → eliminated t j ≡ eliminated t (suc j) → b ≤ j
  pub bounded : b ≤ t.n
  -- it reads no groups
  pub no_groups : (groups : List Set)
      → backward_number (record { n = t.n; initial = t.initial; forbidden = t.forbidden; groups = groups; row = t.row }) ≡ b

-- ---- paths and invariants

-- The smaller first state, then the smaller second, and so on.
abbrev pub LexLe : List ℕ → List ℕ → Type 0
LexLe [] ys = Unit {0}
LexLe (x ∷ xs) [] = ⊥
LexLe (x ∷ xs) (y ∷ ys) = (x < y) ⊎ ((x ≡ y) × LexLe xs ys)

pub record IsSmallest (t : Table) (xs : List ℕ) : Type 0 where
  pub path : is_path t xs ≡ true
  pub shortest : (ys : List ℕ) → is_path t ys ≡ true → length xs ≤ length ys
  pub smallest : (ys : List ℕ) → is_path t ys ≡ true → length ys ≡ length xs → LexLe xs ys

pub record IsInvariant (t : Table) (X : Set) : Type 0 where
  pub initial : (s : ℕ) → member t.initial s ≡ true → member X s ≡ true
  pub not_forbidden : (s : ℕ) → member X s ≡ true → member t.forbidden s ≡ false
  pub closed : (s u : ℕ) → member X s ≡ true → member (t.row s) u ≡ true → member X u ≡ true
  pub within : (s : ℕ) → member X s ≡ true → s < t.n

-- ---- one answer: a table, the allowance, what decide returned, and the path buffer before and after

pub record Carries (t : Table) (allowance : ℕ) (a : Decision) (before after : List ℕ) : Type 0 where
  pub with_safe : a.verdict ≡ 0 → IsInvariant t a.invariant × (a.size ≡ size a.invariant) × (a.steps ≡ 0) × (after ≡ before)
  -- the path that the specification names: d + 1 states at the front of the buffer, and no other place
  pub with_unsafe : a.verdict ≡ 1
      → IsSmallest t (smallest_path t) × (length (smallest_path t) ≡ suc a.steps) × (after ≡ overwrite (smallest_path t) before)
      × (a.invariant ≡ empty) × (a.size ≡ 0)
  pub with_undecided : a.verdict ≡ 2 → (a.invariant ≡ empty) × (a.size ≡ 0) × (a.steps ≡ 0) × (a.count ≡ allowance) × (after ≡ before)

-- A release check.
pub record Demand2 (t : Table) (a : Decision) (after : List ℕ) : Type 0 where
  -- never undecided
  pub decided : (a.verdict ≡ 0) ⊎ (a.verdict ≡ 1)
  -- unsafe exactly when there is a path
  pub unsafe-path : a.verdict ≡ 1 → (xs : List ℕ) × (is_path t xs ≡ true)
  pub path-unsafe : (xs : List ℕ) → is_path t xs ≡ true → a.verdict ≡ 1
  -- with the path that the specification names, in the d + 1 places at the front of the buffer
  pub smallest-path : a.verdict ≡ 1 → IsSmallest t (take (suc a.steps) after)
  -- else safe, with an invariant
  pub invariant : a.verdict ≡ 0 → IsInvariant t a.invariant

-- Any check. A path of d steps has d + 1 states.
pub record Demand3 (t : Table) (allowance : ℕ) (a : Decision) : Type 0 where
  pub count-backward : a.count ≤ backward_number t
  pub count-path : a.verdict ≡ 1 → (xs : List ℕ) → is_path t xs ≡ true → a.count < length xs
  pub enough : backward_number t ≤ allowance → a.verdict ≡ 2 → ⊥

-- Two answers, and the path buffers after them, of which only the states written play a part.
pub record SameAnswer (a b : Decision) (p q : List ℕ) : Type 0 where
  pub verdict : a.verdict ≡ b.verdict
  pub count : a.count ≡ b.count
  pub invariant : a.invariant ≡ b.invariant
  pub size : a.size ≡ b.size
  pub steps : a.steps ≡ b.steps
  pub states : a.verdict ≡ 1 → take (suc a.steps) p ≡ take (suc b.steps) q

-- What the call shortest path returned, and the path buffer before and after.
pub record PathAnswer (t : Table) (a : Shortest) (before after : List ℕ) : Type 0 where
  pub found_or_none : (a.found ≡ 0) ⊎ (a.found ≡ 1)
  pub found-path : (a.found ≡ 1) ↔ ((xs : List ℕ) × (is_path t xs ≡ true))
  -- the path that the specification names, which decide writes too: d + 1 states at the front of the buffer, and no other place
  pub with_path : a.found ≡ 1
      → IsSmallest t (smallest_path t) × (length (smallest_path t) ≡ suc a.steps) × (after ≡ overwrite (smallest_path t) before)
  pub without-path : a.found ≡ 0 → (a.steps ≡ 0) × (after ≡ before)

-- ---- the promises

-- What decide, shortest path and write read of a store: its first words. (Read is lent a store to fill; `read_answer` is given its length alone.)
pub record FirstWords (store other : List ℕ) : Type 0 where
  pub decide : (n g allowance : ℕ) (path : List ℕ)
      → (decide_answer store n g allowance (length path) ≡ decide_answer other n g allowance (length path))
      × (decide_buffer store n g allowance path ≡ decide_buffer other n g allowance path)
  pub shortest-path : (n g : ℕ) (path : List ℕ)
      → (shortest_answer store n g (length path) ≡ shortest_answer other n g (length path))
      × (shortest_buffer store n g path ≡ shortest_buffer other n g path)
  pub write : (n g site : ℕ) (output : List ℕ)
      → (write_answer store n g site (length output) ≡ write_answer other n g site (length output))
      × (write_buffer store n g site output ≡ write_buffer other n g site output)

pub record Promises : Type 0 where
  -- of every table
  pub operations : (n : ℕ) (row : ℕ → Set) (L : List Set) (X : Set) → Operations n row L X
  pub first_round_lem : (t : Table) → IsFirst t (round_at t 0)
  pub next_round_lem : (t : Table) (i : ℕ) → IsNext t (round_at t i) (round_at t (suc i))
  pub each_round : (t : Table) (i : ℕ) → IsRound t (round_at t i)
  pub first_stop : (t : Table) (allowance : ℕ) → FirstStop t allowance
  pub backward-number : (t : Table) → BackwardIs t (backward_number t)
  -- what j rounds of elimination leave: the states from which no j steps or fewer lead to a forbidden state
  pub eliminated-members : (t : Table) → WellFormed t → (j s : ℕ) → s < max_states
      → (member (eliminated t j) s ≡ true) ↔ ((s < t.n) × ((xs : List ℕ) → leads t s xs ≡ true → j < length xs))
  pub demand3 : (t : Table) (allowance : ℕ) → Demand3 t allowance (decision_of t (run t allowance))
  -- of every check that is answered: the answer is that of the rounds
  pub answer : (store : List ℕ) (n g allowance : ℕ) (path : List ℕ) (a : Decision)
      → decide_answer store n g allowance (length path) ≡ answered a
      → a ≡ decision_of (table_of store n g) (run (table_of store n g) allowance)
  pub stops : (store : List ℕ) (n g allowance : ℕ) (path : List ℕ) (a : Decision)
      → decide_answer store n g allowance (length path) ≡ answered a
      → StopsFirst (table_of store n g) allowance a
  -- with covers as they are kept in round i
  pub covers : (store : List ℕ) (n g allowance : ℕ) (path : List ℕ) (a : Decision)
      → decide_answer store n g allowance (length path) ≡ answered a
      → (i s : ℕ) → CoverIs n (round_at (table_of store n g) i).list s
  pub carries : (store : List ℕ) (n g allowance : ℕ) (path : List ℕ) (a : Decision)
      → decide_answer store n g allowance (length path) ≡ answered a
      → Carries (table_of store n g) allowance a path (decide_buffer store n g allowance path)
  pub demand2 : (store : List ℕ) (n g : ℕ) (path : List ℕ) (a : Decision)
      → decide_answer store n g release (length path) ≡ answered a
      → Demand2 (table_of store n g) a (decide_buffer store n g release path)
  -- of every two checks of one table that are answered, which lies in the first words of both stores: a larger allowance never changes a
  -- verdict given
  pub larger : (store other : List ℕ) (n g allowance more : ℕ) (p q : List ℕ) (a b : Decision)
      → decide_answer store n g allowance (length p) ≡ answered a
      → decide_answer other n g more (length q) ≡ answered b
      → take store_words store ≡ take store_words other
      → allowance ≤ more
      → (a.verdict ≡ 2 → ⊥)
      → SameAnswer a b (decide_buffer store n g allowance p) (decide_buffer other n g more q)
  -- of every call of decide, shortest path and write, on two stores that are alike in their first words: none after them is read
  pub first-words : (store other : List ℕ) → store_words ≤ length store → store_words ≤ length other → take store_words store ≡ take store_words other
      → FirstWords store other
  -- of every call of shortest path that is answered
  pub shortest-path : (store : List ℕ) (n g : ℕ) (path : List ℕ) (a : Shortest)
      → shortest_answer store n g (length path) ≡ answered a
      → PathAnswer (table_of store n g) a path (shortest_buffer store n g path)

-- Of every refused call: the number is that of the first ground that holds, and the buffer is as it was.
pub record Untouched : Type 0 where
  pub decide : (store : List ℕ) (n g allowance : ℕ) (path : List ℕ) (k : ℕ)
      → decide_answer store n g allowance (length path) ≡ refused k
      → (k ≡ refuse (decide_grounds store n g allowance (length path))) × (decide_buffer store n g allowance path ≡ path)
  pub shortest-path : (store : List ℕ) (n g : ℕ) (path : List ℕ) (k : ℕ)
      → shortest_answer store n g (length path) ≡ refused k
      → (k ≡ refuse (shortest_grounds store n g (length path))) × (shortest_buffer store n g path ≡ path)
  pub read : (input : List ℕ) (site : ℕ) (store : List ℕ) (k : ℕ)
      → read_answer input site (length store) ≡ refused k
      → (k ≡ refuse (read_grounds input site (length store))) × (read_buffer input site store ≡ store)
  pub write : (store : List ℕ) (n g site : ℕ) (output : List ℕ) (k : ℕ)
      → write_answer store n g site (length output) ≡ refused k
      → (k ≡ refuse (write_grounds store n g site (length output))) × (write_buffer store n g site output ≡ output)
