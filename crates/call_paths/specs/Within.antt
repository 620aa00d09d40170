-- The call within: is there a path of at most k steps, as a yes or no, refusals included.
--
--   can_reach t s      a forbidden state can be reached from s
--   is_within t k      some initial state can reach a forbidden one, and its distance is at most k
--   within_answer      the call's answer; the grounds are those that every call shares, in their order
--   within_of          what the answer says
--   CalledWithin      a call and what it gave: the contract of `within`
use Rattle.std.specs.Prelude.{ℕ, ◌≡◌, Bool, not, ◌&&◌, List, Result, eqb, leb}
use Rattle.basics.specs.Bounds.{any}
use Rattle.basics.specs.Refusals.{Answered, answer}
use Rattle.core_refusals.specs.declared.Refusal.{Refusal}
use Rattle.core_refusals.specs.Refusals.{answer_of}
use Rattle.model.specs.Sets.{max_states, member}
use Rattle.model.specs.Tables.{Table}
use Rattle.model.specs.Paths.{unreachable, distance}
use Rattle.model.specs.Stores.{table_of, shared_grounds}

unfoldable pub can_reach : Table → ℕ → Bool
can_reach t s = not (eqb (distance t s) unreachable)

-- `unreachable` is a number too: without can_reach a state that reaches none would be within it.
unfoldable pub is_within : Table → ℕ → Bool
is_within t k = any max_states (λ s. member t.initial s && (can_reach t s && leb (distance t s) k))

unfoldable pub within_answer : List ℕ → ℕ → ℕ → ℕ → Answered Bool
within_answer store n g k = answer (shared_grounds store n g) (is_within (table_of store n g) k)

abbrev pub within_of : Result Bool Refusal → Answered Bool
within_of = answer_of (λ yes. yes)

abbrev pub CalledWithin : List ℕ → ℕ → ℕ → ℕ → Result Bool Refusal → Type 0
CalledWithin store n g k r = within_of r ≡ within_answer store n g k
