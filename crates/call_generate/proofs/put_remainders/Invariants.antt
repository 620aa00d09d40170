-- `put_remainders`: the numbers passed, each modulo n, are in the row.
use Rattle.std.proofs.Common.{◌≤◌, length}
use Rattle.call_generate.proofs.RowsGenerated.{Reducing}
use Rattle.call_generate.proofs.put_remainders.Given as goal

abbrev pub invariant-loop-x : goal.invariant-loop-x
invariant-loop-x l = (l.x-index ≤ length l.numbers) × Reducing l.numbers l.divisor.n l.x-index l.initial.row l.row
