-- A pump's log, walked through a table (the specification, "Replay").
--
--   entry_bytes, max_log               the bytes of an entry, and the most that a log may have
--   entry_count log, entry log i      how many entries a log has; entry i: a 16-bit number, low byte first
--   may_hold t log i                  the states that entry i may hold: the initial ones, later the successors of the entry before
--   followed t log                   how many entries are followed before the first that breaks this
--   seen log k                       the different states that the first k entries hold
--   reachable_count t                 how many states can be reached from the initial ones, these included
--   percent_of, remainder_of           the coverage in whole percent, and the exact remainder
--   Replay, replay_grounds            what the call answers; its grounds, in order
--   walk_through t log                the answer where no ground holds
--   replay_answer store n g log       the answer, refusals included
--
-- The call is lent the store and the log to read only: it has no buffer that it could change.
use Rattle.std.specs.Prelude.{ℕ, zero, suc, ◌*◌, ◌/◌, ◌%◌, cond, not, List, [], ◌∷◌, ◌++◌, eqb, ltb, length}
use Rattle.basics.specs.Bounds.{any, first}
use Rattle.basics.specs.Refusals.{Ground, Answered, answer}
use Rattle.model.specs.Sets.{Set, member, set_of, size}
use Rattle.model.specs.Tables.{Table}
use Rattle.model.specs.Stores.{table_of, shared_grounds}
use Rattle.model.specs.Blocks.{le16_at}
use Rattle.core_reach.specs.Reached.{reachable}

abbrev pub entry_bytes : ℕ
entry_bytes = 2

abbrev pub max_log : ℕ
max_log = 32768

abbrev pub entry_count : List ℕ → ℕ
entry_count log = length log / entry_bytes

unfoldable pub entry : List ℕ → ℕ → ℕ
entry log i = le16_at log (entry_bytes * i)

-- ---- the walk

unfoldable pub may_hold : Table → List ℕ → ℕ → Set
may_hold t log zero = t.initial
may_hold t log (suc i) = t.row (entry log i)

unfoldable pub followed : Table → List ℕ → ℕ
followed t log = first (entry_count log) (λ i. not (member (may_hold t log i) (entry log i)))

unfoldable pub seen : List ℕ → ℕ → Set
seen log k = set_of (λ s. any k (λ i. eqb s (entry log i)))

-- ---- coverage: 100 times the states seen, divided by the states that can be reached; 0 remainder 0 if there are none

abbrev pub reachable_count : Table → ℕ
reachable_count t = size (reachable t t.initial)

unfoldable pub percent_of : ℕ → ℕ → ℕ
percent_of states reached = cond (eqb reached 0) 0 (100 * states / reached)

unfoldable pub remainder_of : ℕ → ℕ → ℕ
remainder_of states reached = cond (eqb reached 0) 0 (100 * states % reached)

-- ---- the call

pub record Replay : Type 0 where
  pub followed : ℕ  -- entries
  pub seen : ℕ  -- different states among them
  pub percent : ℕ
  pub remainder : ℕ

-- For a log of `bytes` bytes: an odd length, and one over the greatest.
abbrev pub log_grounds : ℕ → List Ground
log_grounds bytes = (not (eqb (bytes % entry_bytes) 0), 25) ∷ (ltb max_log bytes, 26) ∷ []

unfoldable pub replay_grounds : List ℕ → ℕ → ℕ → ℕ → List Ground
replay_grounds store n g bytes = shared_grounds store n g ++ log_grounds bytes

unfoldable pub walk_through : Table → List ℕ → Replay
walk_through t log =
    let k = followed t log in
    let states = size (seen log k) in
    let reached = reachable_count t in
    record { followed = k; seen = states; percent = percent_of states reached; remainder = remainder_of states reached }

unfoldable pub replay_answer : List ℕ → ℕ → ℕ → List ℕ → Answered Replay
replay_answer store n g log = answer (replay_grounds store n g (length log)) (walk_through (table_of store n g) log)
