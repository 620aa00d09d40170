-- The call first_order: the order in which the first round of a table expands the states of R, refusals included.
--
--   OrderAnswer, order_answer    the call's answer in numbers; the grounds are those that every call shares, in their order
--   ordered_of                   what the answer says
--   states_given                 the places that come with it: all 0 where the call is refused
--   CalledFirstOrder            a call and what it gave: the contract of first_order
use Rattle.std.specs.Prelude.{ℕ, ◌≡◌, List, [], Result, length}
use Rattle.model.specs.Rounds.{first_round}
use Rattle.basics.specs.Refusals.{Answered, answer, unless_refused}
use Rattle.core_refusals.specs.declared.Refusal.{Refusal}
use Rattle.core_refusals.specs.Refusals.{answer_of}
use Rattle.model.specs.Stores.{table_of, shared_grounds}
use Rattle.core_fixpoints.specs.Order.{forward_order, padded}
use Rattle.core_fixpoints.specs.declared.Expanded.{Expanded}

pub record OrderAnswer : Type 0 where
  pub count : ℕ  -- of the states that are expanded
  pub states : List ℕ  -- those, in their order, and 0 past them

unfoldable pub order_answer : List ℕ → ℕ → ℕ → Answered OrderAnswer
order_answer store n g =
    let t = table_of store n g in
    let xs = forward_order t (first_round t).list (first_round t).Z in
    answer (shared_grounds store n g) (record { count = length xs; states = padded xs })

abbrev pub ordered_of : Result Expanded Refusal → Answered OrderAnswer
ordered_of = answer_of (λ o. record { count = o.count; states = o.states })

abbrev pub states_given : Result Expanded Refusal → List ℕ
states_given r = unless_refused (padded []) (λ a. a.states) (ordered_of r)

abbrev pub CalledFirstOrder : List ℕ → ℕ → ℕ → Result Expanded Refusal → Type 0
CalledFirstOrder store n g r = ordered_of r ≡ order_answer store n g
