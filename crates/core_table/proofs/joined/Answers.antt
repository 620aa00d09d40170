-- `joined`: what is joined is the union of the sets passed.
use mathlib.Core.Path.{◌∙◌}
use borrow.Author.Rules.{rules}
use Rattle.core_table.proofs.StoresGrounds.{joined-none, joined_turn, joined_end}
use Rattle.core_table.proofs.joined.Goals as goal

pub loop-j-init : goal.loop-j-init
loop-j-init c = (search rules, c.empty-out.ensures ∙ joined-none _)

pub loop-j-preserved : goal.loop-j-preserved
loop-j-preserved c = (search rules, joined_turn _ _ c.loop-j.invariant.1 c.set_at.ensures c.union-out.ensures)

pub returns : goal.returns
returns c = joined_end _ _ _ (search rules) (search rules) c.loop-j.invariant.1
