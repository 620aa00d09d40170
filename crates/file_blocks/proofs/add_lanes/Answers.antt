-- `add_lanes`: the lanes passed are added.
use native.Mathlib.Omega.{arith}
use borrow.Author.Rules.{rules}
use Rattle.file_blocks.proofs.Lanes.{add_none, add-fits, add-more, add-all}
use Rattle.file_blocks.proofs.add_lanes.Goals as goal

pub loop-l-init : goal.loop-l-init
loop-l-init c = add_none _ _

pub overflow_add-turn : goal.overflow_add-turn
overflow_add-turn c = record { fits = add-fits c.loop-l.invariant c.requires.1 (search rules) (c.requires.0.each _ (search rules)) (omega arith) }

pub loop-l-preserved : goal.loop-l-preserved
loop-l-preserved c = add-more c.loop-l.invariant (search rules) c.requires.1.long (search rules)

pub returns : goal.returns
returns c = add-all c.loop-l.invariant c.requires.1.long (search rules)
