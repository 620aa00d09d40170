-- What is promised of the order in which the states of R are expanded: of what `forward` returns, and of the call first_order.
--
--   OrderPromises     all of it; `InOrder` says what an order is
use Rattle.std.specs.Prelude.{ℕ, ◌≤◌, ◌≡◌, true, List, [], Result, length, take}
use Rattle.basics.specs.Refusals.{refuse, refused, answered}
use Rattle.model.specs.Sets.{max_states, Set, subset, first_states}
use Rattle.model.specs.Rounds.{forward as forwardSet, first_round}
use Rattle.model.specs.Promises.{IsLeast}
use Rattle.model.specs.Stores.{store_words, table_of, shared_grounds}
use Rattle.core_rows.specs.Rows.{table_on}
use Rattle.core_fixpoints.specs.Steps.{covers, forward_by}
use Rattle.core_fixpoints.specs.Order.{order_by, padded, InOrder}
use Rattle.call_first_order.specs.OrderAnswers.{OrderAnswer, order_answer, ordered_of, states_given, CalledFirstOrder}
use Rattle.core_refusals.specs.declared.Refusal.{Refusal}
use Rattle.core_fixpoints.specs.declared.Expanded.{Expanded}

pub record OrderPromises : Type 0 where
  -- the order in the contract of `forward`, of rows and the cover for a list
  pub forward : (n : ℕ) (initial forbidden : Set) (groups : List Set) (rows : List ℕ) (L : List Set) (Z : Set) → n ≤ max_states
      → subset Z (first_states n) ≡ true → InOrder (table_on n initial forbidden groups rows) L Z (order_by rows (covers n L) initial Z)
  -- R in the contract is the R whose states these are
  pub forward_R : (n : ℕ) (initial forbidden : Set) (groups : List Set) (rows : List ℕ) (L : List Set) (Z R : Set) → subset Z (first_states n) ≡ true
      → IsLeast (forward_by rows (covers n L) initial Z) R → R ≡ forwardSet (table_on n initial forbidden groups rows) L Z
  -- what first_order returns is the order of the first round
  pub first_order : (store : List ℕ) (n g : ℕ) (r : Result Expanded Refusal) (a : OrderAnswer) → CalledFirstOrder store n g r → ordered_of r ≡ answered a
      → InOrder (table_of store n g) (first_round (table_of store n g)).list (first_round (table_of store n g)).Z (take a.count a.states)
  -- a refused call gives the number of the first ground that holds, and no state
  pub refusal : (store : List ℕ) (n g : ℕ) (r : Result Expanded Refusal) (k : ℕ) → CalledFirstOrder store n g r → ordered_of r ≡ refused k
      → (k ≡ refuse (shared_grounds store n g)) × (states_given r ≡ padded [])
  -- on two stores that are alike in their first words: none after them is read
  pub first-words : (store other : List ℕ) → store_words ≤ length store → store_words ≤ length other → take store_words store ≡ take store_words other
      → (n g : ℕ) → order_answer store n g ≡ order_answer other n g
