-- `add_groups`: with the first j groups, which are left, added, all are.
use mathlib.Core.Path.{refl, ap, ◌∙◌}
use borrow.Author.Rules.{rules}
use Rattle.core_rounds.specs.Adding.{narrowed}
use Rattle.core_rounds.proofs.Adding.{group_added, added-all}
use Rattle.core_rounds.proofs.add_groups.Goals as goal

pub loop-j-init : goal.loop-j-init
loop-j-init c = refl

pub loop-j-preserved : goal.loop-j-preserved
loop-j-preserved c = group_added _ _ c.loop-j.invariant (search rules) (c.narrow.ensures ∙ ap (narrowed _) c.set_at.ensures)

pub returns : goal.returns
returns c = added-all _ _ c.loop-j.invariant (search rules)
