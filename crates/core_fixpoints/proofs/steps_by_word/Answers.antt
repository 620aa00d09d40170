-- `steps_by_word`: what the states of each word passed step to is stored.
use mathlib.Core.Path.{ap, ◌∙◌}
use Rattle.core_fixpoints.specs.Steps.{steps_by_word}
use Rattle.core_fixpoints.proofs.SetsListed.{stored_start, stored_turn, stored-all}
use Rattle.core_rows.specs.Rows.{successors_by}
use Rattle.core_fixpoints.proofs.steps_by_word.Goals as goal

pub loop-w-init : goal.loop-w-init
unfolding steps_by_word
loop-w-init c = stored_start _ _ _

pub loop-w-preserved : goal.loop-w-preserved
unfolding steps_by_word
loop-w-preserved c = stored_turn _ _ c.loop-w.invariant c.loop-w-test.true (c.successors.ensures ∙ ap (successors_by _) c.in_word.ensures)

pub returns : goal.returns
unfolding steps_by_word
returns c = stored-all _ _ c.loop-w.invariant c.loop-w-test.false
