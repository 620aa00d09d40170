-- `fill_sets`: the sets passed stand in their places.
use Prim.Native.Nat.{◌≤◌}
use Rattle.basics.specs.Bounds.{concat}
use Rattle.core_table.proofs.ListsOverwritten.{Over}
use Rattle.file_contents_reading.specs.Parts.{part_set}
use Rattle.file_contents_reading.proofs.fill_sets.Given as goal

abbrev pub invariant-loop-k : goal.invariant-loop-k
invariant-loop-k l = (l.k ≤ l.room) × Over (concat l.k (part_set l.bytes l.fn.counts.n l.first l.count)) l.initial.part l.part
