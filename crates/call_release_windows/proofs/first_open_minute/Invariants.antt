-- `first_open_minute`: none of the minutes passed is open. Each jump is over one minute at least.
use Prim.Native.Nat.{◌+◌, ◌-◌}
use Rattle.call_release_windows.specs.WindowAnswers.{span}
use Rattle.call_release_windows.proofs.Jumps.{NoneOpen}
use Rattle.call_release_windows.proofs.first_open_minute.Given as goal

abbrev pub invariant-loop-minute : goal.invariant-loop-minute
invariant-loop-minute l = NoneOpen l.time l.windows.numbers.now l.closed l.minute

abbrev pub decreases-loop-minute : goal.decreases-loop-minute
decreases-loop-minute l = l.time + span - l.minute
