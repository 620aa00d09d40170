-- Groups put another way: two tables alike but for their lists of groups, where each state has the same cover, get the same answer from
-- decide, all of it. The proofs stand in proofs/.
--
--   Alike t u              two tables alike but for their lists of groups
--   SameCovers n L M       each of n states has the same cover for the lists L and M
--   first_list t            list 0 of a table: its groups and Z0
--   SameResults            two calls of decide, by its contract, returned and left the same: answer, the set beside it, and path buffer
--   SameDecisions          so do any two, at every allowance and in every path buffer, grounds 20 and 21 included; and where each has a path
--                          buffer of its own and is answered, the answers are the same
--   Rewriting L M          the list L put another way: in another order, with sets repeated, with a union or an overlap of two of its sets
--                          added anywhere, any of these undone, one after the other
--   Regrouping             the promise
use Rattle.std.specs.Prelude.{ℕ, ◌<◌, ◌≡◌, ◌↔◌, Result}
use mathlib.Core.List.{List, ◌∷◌, ◌++◌, Memᴰ, Permᴰ}
use Rattle.basics.specs.Refusals.{answered}
use Rattle.model.specs.Sets.{Set, union, meet}
use Rattle.model.specs.Tables.{Table, cover_of, not_forbidden}
use Rattle.model.specs.Stores.{table_of, AcceptedStore}
use Rattle.model.specs.Calls.{Decision as Answer, decide_answer, decide_buffer}
use Rattle.model.specs.Promises.{SameAnswer}
use Rattle.core_refusals.specs.declared.Refusal.{Refusal}
use Rattle.call_decide.specs.declared.Verdict.{Verdict}
use Rattle.call_decide.specs.DecideAnswers.{decided_of, invariant_given, CalledDecide}

pub record Alike (t u : Table) : Type 0 where
  pub n : t.n ≡ u.n
  pub initial : t.initial ≡ u.initial
  pub forbidden : t.forbidden ≡ u.forbidden
  pub row : (s : ℕ) → t.row s ≡ u.row s

pub record SameCovers (n : ℕ) (L M : List Set) : Type 0 where
  pub same : (s : ℕ) → s < n → cover_of n L s ≡ cover_of n M s

abbrev pub first_list : Table → List Set
first_list t = not_forbidden t.n t.forbidden ∷ t.groups

pub record SameResults (r s : Result Verdict Refusal) (after-r after-s : List ℕ) : Type 0 where
  pub answer : decided_of r ≡ decided_of s
  pub set : invariant_given r ≡ invariant_given s
  pub buffer : after-r ≡ after-s

pub record SameDecisions (store other : List ℕ) (n g h : ℕ) : Type 0 where
  -- a call on each store, with the same allowance and the same path buffer
  pub calls : (allowance : ℕ) (before : List ℕ) (r s : Result Verdict Refusal) (after-r after-s : List ℕ)
      → CalledDecide store n g allowance before r after-r → CalledDecide other n h allowance before s after-s → SameResults r s after-r after-s
  -- a call on each store, with the same allowance and a path buffer of its own
  pub own_buffers : (allowance : ℕ) (p q : List ℕ) (r s : Result Verdict Refusal) (after-r after-s : List ℕ) (a b : Answer)
      → CalledDecide store n g allowance p r after-r → CalledDecide other n h allowance q s after-s
      → decided_of r ≡ answered a → decided_of s ≡ answered b → SameAnswer a b after-r after-s
  -- as the specification fixes them
  pub answers : (allowance room : ℕ) → decide_answer store n g allowance room ≡ decide_answer other n h allowance room
  pub buffers : (allowance : ℕ) (path : List ℕ) → decide_buffer store n g allowance path ≡ decide_buffer other n h allowance path

pub data Rewriting : List Set → List Set → Type 0 where
  reordered : {L M : List Set} → Permᴰ L M → Rewriting L M
  repeated : {L M : List Set} → ((Z : Set) → Memᴰ Z L ↔ Memᴰ Z M) → Rewriting L M
  with_union : {L M : List Set} (front back : List Set) (X Y : Set) → Memᴰ X L → Memᴰ Y L
      → L ≡ front ++ back → M ≡ front ++ (union X Y ∷ back) → Rewriting L M
  with_overlap : {L M : List Set} (front back : List Set) (X Y : Set) → Memᴰ X L → Memᴰ Y L
      → L ≡ front ++ back → M ≡ front ++ (meet X Y ∷ back) → Rewriting L M
  undone : {L M : List Set} → Rewriting L M → Rewriting M L
  followed : {L M N : List Set} → Rewriting L M → Rewriting M N → Rewriting L N

-- Of every two accepted stores (grounds 10, 14, 15 and 17 do not hold) whose tables are alike but for their groups.
pub record Regrouping : Type 0 where
  -- each state has the same cover at the start of the rounds
  pub covers : (store other : List ℕ) (n g h : ℕ) → AcceptedStore store n g → AcceptedStore other n h → Alike (table_of store n g) (table_of other n h)
      → SameCovers n (first_list (table_of store n g)) (first_list (table_of other n h))
      → SameDecisions store other n g h
  -- or for the groups alone
  pub groups-covers : (store other : List ℕ) (n g h : ℕ) → AcceptedStore store n g → AcceptedStore other n h → Alike (table_of store n g) (table_of other n h)
      → SameCovers n (table_of store n g).groups (table_of other n h).groups
      → SameDecisions store other n g h
  -- the rewritings are among them
  pub rewriting_covers : (n : ℕ) (L M : List Set) → Rewriting L M → SameCovers n L M
  pub rewritten : (store other : List ℕ) (n g h : ℕ) → AcceptedStore store n g → AcceptedStore other n h → Alike (table_of store n g) (table_of other n h)
      → Rewriting (table_of store n g).groups (table_of other n h).groups
      → SameDecisions store other n g h
