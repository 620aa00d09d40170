-- Demands 1, 2 and 3 (docs/PROMISES.md, "Demands") of the call decide itself: of its results, and of the path buffer before and after. `refusal` is of
-- demand 1, `demand3` and `larger` are demand 3, the others are of demand 2.
--
--   DecideDemands  what holds of every call that is answered, of every two of them, and of every one that is refused
--
-- A call and what it gave is `CalledDecide`, the contract of decide.
use Rattle.std.specs.Prelude.{ℕ, ◌≤◌, ◌≡◌, List, Result, length, take}
use Rattle.basics.specs.Refusals.{refuse, refused, answered}
use Rattle.model.specs.Sets.{empty}
use Rattle.model.specs.Stores.{store_words, table_of}
use Rattle.model.specs.Rounds.{run}
use Rattle.model.specs.Calls.{Decision as Answer, release, decide_grounds, decision_of}
use Rattle.model.specs.Promises.{StopsFirst, Carries, Demand2, Demand3, SameAnswer}
use Rattle.core_refusals.specs.declared.Refusal.{Refusal}
use Rattle.call_decide.specs.declared.Verdict.{Verdict}
use Rattle.call_decide.specs.DecideAnswers.{decided_of, invariant_given, CalledDecide}

pub record DecideDemands : Type 0 where
  -- a refused call: the number is that of the first ground that holds, the set beside it is empty, and the buffer is as it was
  pub refusal : (store : List ℕ) (n g allowance : ℕ) (before : List ℕ) (r : Result Verdict Refusal) (after : List ℕ) (k : ℕ)
      → CalledDecide store n g allowance before r after → decided_of r ≡ refused k
      → (k ≡ refuse (decide_grounds store n g allowance (length before))) × (invariant_given r ≡ empty) × (after ≡ before)
  -- verdict, count, invariant and d are those of the rounds
  pub answer : (store : List ℕ) (n g allowance : ℕ) (before : List ℕ) (r : Result Verdict Refusal) (after : List ℕ) (a : Answer)
      → CalledDecide store n g allowance before r after → decided_of r ≡ answered a
      → a ≡ decision_of (table_of store n g) (run (table_of store n g) allowance)
  -- which are those of the first round that stops
  pub stops : (store : List ℕ) (n g allowance : ℕ) (before : List ℕ) (r : Result Verdict Refusal) (after : List ℕ) (a : Answer)
      → CalledDecide store n g allowance before r after → decided_of r ≡ answered a → StopsFirst (table_of store n g) allowance a
  pub carries : (store : List ℕ) (n g allowance : ℕ) (before : List ℕ) (r : Result Verdict Refusal) (after : List ℕ) (a : Answer)
      → CalledDecide store n g allowance before r after → decided_of r ≡ answered a → Carries (table_of store n g) allowance a before after
  -- a release check
  pub demand2 : (store : List ℕ) (n g : ℕ) (before : List ℕ) (r : Result Verdict Refusal) (after : List ℕ) (a : Answer)
      → CalledDecide store n g release before r after → decided_of r ≡ answered a → Demand2 (table_of store n g) a after
  pub demand3 : (store : List ℕ) (n g allowance : ℕ) (before : List ℕ) (r : Result Verdict Refusal) (after : List ℕ) (a : Answer)
      → CalledDecide store n g allowance before r after → decided_of r ≡ answered a → Demand3 (table_of store n g) allowance a
  -- two checks of one table, which lies in the first words of both stores: a larger allowance never changes a verdict given
  pub larger : (store other : List ℕ) (n g allowance more : ℕ) (p q : List ℕ) (r s : Result Verdict Refusal) (after-r after-s : List ℕ) (a b : Answer)
      → CalledDecide store n g allowance p r after-r → CalledDecide other n g more q s after-s
      → decided_of r ≡ answered a → decided_of s ≡ answered b
      → take store_words store ≡ take store_words other → allowance ≤ more → (a.verdict ≡ 2 → ⊥)
      → SameAnswer a b after-r after-s
