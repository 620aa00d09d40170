-- `add_lanes`: the lanes passed are added.
use Rattle.file_blocks.proofs.Lanes.{Adding}
use Rattle.file_blocks.proofs.add_lanes.Given as goal

abbrev pub invariant-loop-l : goal.invariant-loop-l
invariant-loop-l l = Adding l.initial.turns l.sums l.turns l.l
