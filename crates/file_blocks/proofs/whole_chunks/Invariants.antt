-- `whole_chunks`: the chunks passed, all but the first k, are in the lanes.
use Rattle.file_blocks.proofs.Chunks.{Chunked}
use Rattle.file_blocks.proofs.whole_chunks.Given as goal

abbrev pub invariant-loop-k : goal.invariant-loop-k
invariant-loop-k l = Chunked l.block l.sums l.turns l.k
