-- `StateSet::first_states`: the words passed are those of the first n states.
use mathlib.Core.Path.{◌∙◌}
use borrow.Author.Rules.{rules}
use Rattle.model.specs.Sets.{states, first_states}
use Rattle.model.proofs.SetsMembers.{set_of_proper}
use Rattle.core_state_set.proofs.SetsWords.{first_word, filling_none, filling_more, filling_all}
use Rattle.core_state_set.proofs.StateSet.first_states.Goals as goal

pub loop-w-init : goal.loop-w-init
unfolding first_states states
loop-w-init c = filling_none _ _ (set_of_proper _).long (search rules)

pub loop-w-preserved : goal.loop-w-preserved
unfolding first_states states
loop-w-preserved c = filling_more _ _ _ _ c.loop-w.invariant _ (search rules) (c.word_below.ensures ∙ first_word _ _ (search rules))

pub returns : goal.returns
unfolding first_states states
returns c = filling_all _ _ _ _ c.loop-w.invariant (search rules)
