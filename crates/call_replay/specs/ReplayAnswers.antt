-- What the call answers.
--
--   Replayed         what the call gives; replayed_of: what it says
--   CalledReplay     a call and its answer: the contract of `replay`
use Rattle.std.specs.Prelude.{ℕ, ◌≡◌, List, Result}
use Rattle.basics.specs.Refusals.{Answered}
use Rattle.core_refusals.specs.declared.Refusal.{Refusal}
use Rattle.core_refusals.specs.Refusals.{answer_of}
use Rattle.call_replay.specs.Logs.{Replay, replay_answer}
use Rattle.call_replay.specs.declared.Walk.{Walk}

abbrev pub Replayed : Type 0
Replayed = Result Walk Refusal

abbrev pub replayed_of : Replayed → Answered Replay
replayed_of = answer_of (λ w. record { followed = w.followed; seen = w.seen; percent = w.percent; remainder = w.remainder })

abbrev pub CalledReplay : List ℕ → ℕ → ℕ → List ℕ → Replayed → Type 0
CalledReplay store n g log r = replayed_of r ≡ replay_answer store n g log
