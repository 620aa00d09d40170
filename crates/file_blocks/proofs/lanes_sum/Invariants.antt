-- `lanes_sum`: the sum of the lanes passed.
use Prim.Native.Nat.{◌*◌}
use Rattle.file_blocks.specs.Lanes.{lanes, lane_most, lanes_sum}
use Rattle.file_blocks.proofs.Summing.{Summing}
use Rattle.file_blocks.proofs.lanes_sum.Given as goal

abbrev pub invariant-loop-l : goal.invariant-loop-l
invariant-loop-l l = Summing (lanes_sum 0 l.sums l.turns) 0 (2 * lanes * lane_most) lanes l.sum l.l
