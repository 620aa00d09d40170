-- `put_start`: the numbers passed are put down, and `next` follows them.
use Rattle.call_generate.proofs.Numbers.{Starting}
use Rattle.call_generate.proofs.put_start.Given as goal

abbrev pub invariant-loop-number : goal.invariant-loop-number
invariant-loop-number l = Starting l.seed l.number-index l.next l.number-items
