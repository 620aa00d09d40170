-- `narrow_back`: to narrow the rows that are left leads to the whole.
use mathlib.Core.Path.{sym, ◌∙◌}
use Rattle.call_paths.proofs.Narrowing.{narrowed_turn, narrowed-end}
use Rattle.call_paths.proofs.narrow_back.Goals as goal

pub loop-i-preserved : goal.loop-i-preserved
loop-i-preserved c =
    narrowed_turn _ _ _ c.loop-i-test.true c.stepping_into.ensures c.row_of.ensures c.row_of-next.ensures ∙ c.loop-i.invariant

pub returns : goal.returns
returns c = sym (narrowed-end _ _ _ c.loop-i-test.false) ∙ c.loop-i.invariant
