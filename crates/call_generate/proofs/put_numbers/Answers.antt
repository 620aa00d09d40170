-- `put_numbers`: the buffer begins with the numbers made.
use Rattle.std.proofs.Common.{rules}
use Rattle.call_generate.proofs.Numbers.{fewer}
use Rattle.call_generate.proofs.put_numbers.Goals as goal

pub loop-made-preserved : goal.loop-made-preserved
loop-made-preserved c = (search rules, search rules, search rules, c.put_sums.ensures _ c.loop-made.invariant.3)

pub returns : goal.returns
returns c = fewer _ _ _ _ c.loop-made.invariant.3 (search rules)
