-- `write_blocks`: the blocks passed are written.
use Prim.Native.Nat.{◌≤◌}
use Rattle.basics.specs.Bounds.{concat}
use Rattle.model.specs.Blocks.{block_of}
use Rattle.core_table.proofs.ListsOverwritten.{Over}
use Rattle.file_writing.proofs.write_blocks.Given as goal

abbrev pub invariant-loop-k : goal.invariant-loop-k
invariant-loop-k l = (l.k ≤ l.blocks) × Over (concat l.k (block_of l.fn.site.number l.bytes)) l.initial.out l.out
