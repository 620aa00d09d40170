-- `put_numbers`: the buffer begins with the numbers made.
use Rattle.std.proofs.Common.{◌≡◌, ◌+◌, ◌-◌, ◌≤◌, length, take}
use Rattle.call_generate.specs.Load.{long_lag, short_lag, numbers}
use Rattle.call_generate.proofs.put_numbers.Given as goal

abbrev pub invariant-loop-made : goal.invariant-loop-made
invariant-loop-made l = (long_lag ≤ l.made) × (l.count + short_lag ≤ length l.buffer) × (length l.buffer ≡ length l.initial.buffer) × (take l.made l.buffer ≡ numbers l.seed l.made)

abbrev pub decreases-loop-made : goal.decreases-loop-made
decreases-loop-made l = l.count - l.made
