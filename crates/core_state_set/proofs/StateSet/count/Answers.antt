-- `StateSet::count`: the number of states in the words passed.
use borrow.Author.Rules.{rules}
use Rattle.core_state_set.proofs.SetsOnes.{bits_fit, states_fit, word_ones, counting_none, counting_more, counting_all}
use Rattle.core_state_set.proofs.StateSet.count.Goals as goal

pub loop-word-init : goal.loop-word-init
loop-word-init c = counting_none _

pub overflow_cast-states : goal.overflow_cast-states
overflow_cast-states c = bits_fit _ (word_ones _ (search rules))

pub overflow_add-states : goal.overflow_add-states
overflow_add-states c = states_fit _ _ (search rules) (word_ones _ (search rules))

pub loop-word-preserved : goal.loop-word-preserved
loop-word-preserved c = counting_more _ _ _ (search rules) c.loop-word.invariant (search rules)

pub returns : goal.returns
returns c = counting_all _ _ _ c.loop-word.invariant (search rules)
