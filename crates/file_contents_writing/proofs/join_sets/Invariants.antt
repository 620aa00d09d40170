-- `join_sets`: the sets passed are joined.
use Prim.Native.Nat.{◌+◌, ◌≤◌}
use Rattle.basics.specs.Bounds.{concat}
use Rattle.model.specs.Stores.{head_sets}
use Rattle.file_contents_writing.specs.Placed.{placed_set}
use Rattle.core_table.proofs.ListsOverwritten.{Over}
use Rattle.file_contents_writing.proofs.join_sets.Given as goal

abbrev pub invariant-loop-k : goal.invariant-loop-k
invariant-loop-k l = (l.k ≤ head_sets + l.fn.counts.g + l.fn.counts.n) × Over (concat l.k (placed_set l.store.words.now l.width l.fn.counts.g)) l.initial.out l.out
