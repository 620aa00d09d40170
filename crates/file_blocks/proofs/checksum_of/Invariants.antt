-- `checksum_of`: the weighted sum of the bytes passed.
use Prim.Native.Nat.{◌+◌, ◌*◌}
use Rattle.model.specs.Blocks.{check_at, max_site, weighted}
use Rattle.file_blocks.specs.Lanes.{lanes, byte_most, lane_most}
use Rattle.file_blocks.proofs.Summing.{Summing}
use Rattle.file_blocks.proofs.checksum_of.Given as goal

abbrev pub invariant-loop-i : goal.invariant-loop-i
invariant-loop-i l = Summing (λ j. l.fn.site.number + weighted l.block j) (max_site + 2 * lanes * lane_most * lanes) (check_at * byte_most) check_at l.sum l.i
