-- `put_start`: the numbers passed are put down, and `next` follows them.
use Rattle.std.proofs.Common.{◌∙◌, length-take-le, rules}
use Rattle.call_generate.proofs.Numbers.{starting_none, starting_turn, starting_end}
use Rattle.call_generate.proofs.put_start.Goals as goal

pub loop-number-init : goal.loop-number-init
loop-number-init c = starting_none _ _

pub loop-number-preserved : goal.loop-number-preserved
loop-number-preserved c =
    starting_turn _ _ _ _ c.loop-number.invariant (search rules) (c.loop-number.auto.number-items ∙ length-take-le _ _ c.requires) c.wrapping_add_u32-next.ensures.value

pub returns : goal.returns
returns c = starting_end _ _ _ _ _ c.loop-number.invariant (search rules) (c.loop-number.auto.number-items ∙ length-take-le _ _ c.requires)
