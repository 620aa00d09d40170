-- `add_bytes`: the bytes passed are added.
use lib.ListN.{take, drop}
use Rattle.file_blocks.specs.Lanes.{lanes}
use Rattle.file_blocks.proofs.Lanes.{Adding}
use Rattle.file_blocks.proofs.add_bytes.Given as goal

abbrev pub invariant-loop-l : goal.invariant-loop-l
invariant-loop-l l = Adding l.initial.sums (take lanes (drop l.from l.block)) l.sums l.l
