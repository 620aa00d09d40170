-- `join_blocks`: the blocks passed have no fault, and their contents are joined.
use Rattle.file_reading.proofs.BlocksJoined.{Joining}
use Rattle.file_reading.proofs.join_blocks.Given as goal

abbrev pub invariant-loop-k : goal.invariant-loop-k
invariant-loop-k l = Joining l.input l.fn.site.number l.k l.initial.out l.out
