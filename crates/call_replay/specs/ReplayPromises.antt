-- What is promised of replay, of every call and what it gave (`CalledReplay`, its contract). The proofs stand in proofs/ReplayKept.antt.
--
--   entries log        all entries of a log
--   obeys t xs         the first of xs is initial, each later one a successor of the one before (xs is a trace of the table)
--   FollowedIs         the followed entries are the longest front of the log that obeys; each is a state that can be reached
--   SeenIs             the states counted are those that the followed entries hold, each once
--   CoverageIs         the coverage, by division with remainder
--   WalkIs             all of it, and what can be reached
--   ReplayPromises     of every call that is answered, of every one that is refused, beside a check that says safe, and of two stores
use Rattle.std.specs.Prelude.{ℕ, ◌+◌, ◌*◌, ◌%◌, ◌≤◌, ◌<◌, ◌≡◌, ◌↔◌, Bool, true, false, ◌&&◌, List, [], ◌∷◌, length, get_or, take, Result}
use Rattle.basics.specs.Bounds.{tabulate}
use Rattle.basics.specs.Refusals.{refuse, refused, answered}
use Rattle.model.specs.Sets.{member, size}
use Rattle.model.specs.Tables.{Table}
use Rattle.model.specs.Stores.{store_words, table_of, shared_grounds}
use Rattle.model.specs.Calls.{Decision as Answer}
use Rattle.core_reach.specs.Reached.{reachable, walks, ReachableIs}
use Rattle.core_refusals.specs.declared.Refusal.{Refusal}
use Rattle.call_decide.specs.declared.Verdict.{Verdict}
use Rattle.call_decide.specs.DecideAnswers.{decided_of, CalledDecide}
use Rattle.call_replay.specs.Logs.{entry_bytes, max_log, entry_count, entry, seen, reachable_count, replay_grounds, Replay, replay_answer}
use Rattle.call_replay.specs.ReplayAnswers.{Replayed, replayed_of, CalledReplay}

unfoldable pub entries : List ℕ → List ℕ
entries log = tabulate (entry_count log) (entry log)

unfoldable pub obeys : Table → List ℕ → Bool
obeys t [] = true
obeys t (x ∷ xs) = member t.initial x && walks t x xs

-- of the number k of entries followed
pub record FollowedIs (t : Table) (log : List ℕ) (k : ℕ) : Type 0 where
  pub within : k ≤ length (entries log)
  pub obeying : obeys t (take k (entries log)) ≡ true
  pub longest : (j : ℕ) → j ≤ length (entries log) → obeys t (take j (entries log)) ≡ true → j ≤ k
  -- an entry of n or more breaks it
  pub states : (i : ℕ) → i < k → entry log i < t.n
  pub reached : (i : ℕ) → i < k → member (reachable t t.initial) (entry log i) ≡ true

-- of the number m of different states that the first k entries hold
pub record SeenIs (log : List ℕ) (k m : ℕ) : Type 0 where
  pub counted : m ≡ size (seen log k)
  pub members : (s : ℕ) → (member (seen log k) s ≡ true) ↔ ((i : ℕ) × (i < k) × (entry log i ≡ s))

pub record CoverageIs (states reached percent remainder : ℕ) : Type 0 where
  pub within : states ≤ reached
  pub none : reached ≡ 0 → (percent ≡ 0) × (remainder ≡ 0)
  pub exact : 0 < reached → (100 * states ≡ percent * reached + remainder) × (remainder < reached)
  pub most : percent ≤ 100

pub record WalkIs (t : Table) (log : List ℕ) (a : Replay) : Type 0 where
  pub followed : FollowedIs t log a.followed
  pub seen : SeenIs log a.followed a.seen
  pub coverage : CoverageIs a.seen (reachable_count t) a.percent a.remainder
  -- what can be reached is what some walk from an initial state ends in; a walk of no steps ends in the initial state itself
  pub reachable-is : ReachableIs t t.initial
  pub reachable-few : reachable_count t ≤ t.n

pub record ReplayPromises : Type 0 where
  -- an entry is two bytes, low byte first, and neither is cut
  pub entry-is : (log : List ℕ) (i : ℕ) → entry log i ≡ get_or log (2 * i) 0 + 256 * get_or log (2 * i + 1) 0
  pub walk : (store : List ℕ) (n g : ℕ) (log : List ℕ) (r : Replayed) (w : Replay)
      → CalledReplay store n g log r → replayed_of r ≡ answered w → WalkIs (table_of store n g) log w
  -- where a check of the table is answered and says safe, at any allowance, no followed entry is forbidden
  pub safe : (store : List ℕ) (n g allowance : ℕ) (before : List ℕ) (d : Result Verdict Refusal) (after : List ℕ) (a : Answer) (log : List ℕ) (r : Replayed) (w : Replay)
      → CalledDecide store n g allowance before d after → decided_of d ≡ answered a → a.verdict ≡ 0
      → CalledReplay store n g log r → replayed_of r ≡ answered w
      → (i : ℕ) → i < w.followed → member (table_of store n g).forbidden (entry log i) ≡ false
  -- without states, as in an untouched draft
  pub draft : (store : List ℕ) (log : List ℕ) (r : Replayed) (w : Replay)
      → CalledReplay store 0 0 log r → replayed_of r ≡ answered w → w ≡ record { followed = 0; seen = 0; percent = 0; remainder = 0 }
  -- an empty log follows 0 entries
  pub empty_log : (store : List ℕ) (n g : ℕ) (r : Replayed) (w : Replay)
      → CalledReplay store n g [] r → replayed_of r ≡ answered w → w.followed ≡ 0
  -- a refused call gives the number of the first ground that holds
  pub refusal : (store : List ℕ) (n g : ℕ) (log : List ℕ) (r : Replayed) (k : ℕ)
      → CalledReplay store n g log r → replayed_of r ≡ refused k → k ≡ refuse (replay_grounds store n g (length log))
  -- where no ground holds that the calls share: an odd length is 25, one over the greatest too; else a length over it is 26
  pub odd : (store : List ℕ) (n g : ℕ) (log : List ℕ) (r : Replayed)
      → CalledReplay store n g log r → refuse (shared_grounds store n g) ≡ 0 → (length log % entry_bytes ≡ 0 → ⊥) → replayed_of r ≡ refused 25
  pub long : (store : List ℕ) (n g : ℕ) (log : List ℕ) (r : Replayed)
      → CalledReplay store n g log r → refuse (shared_grounds store n g) ≡ 0 → length log % entry_bytes ≡ 0 → max_log < length log → replayed_of r ≡ refused 26
  -- of every call on two stores that are alike in their first words: none after them is read
  pub first-words : (store other : List ℕ) → store_words ≤ length store → store_words ≤ length other → take store_words store ≡ take store_words other
      → (n g : ℕ) (log : List ℕ) → replay_answer store n g log ≡ replay_answer other n g log
