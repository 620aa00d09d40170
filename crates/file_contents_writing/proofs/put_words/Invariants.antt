-- `put_words`: the words passed are written.
use Prim.Native.Nat.{◌≤◌}
use lib.ListN.{length}
use Rattle.basics.specs.Bounds.{concat}
use Rattle.file_contents_writing.specs.Placed.{words_bytes}
use Rattle.core_table.proofs.ListsOverwritten.{Over}
use Rattle.file_contents_writing.proofs.put_words.Given as goal

abbrev pub invariant-loop-v : goal.invariant-loop-v
invariant-loop-v l = (l.v ≤ length l.fn.words) × Over (concat l.v (words_bytes l.fn.words)) l.initial.out l.out
