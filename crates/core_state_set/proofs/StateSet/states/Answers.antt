-- `states`: at the start the whole set is left.
use borrow.Author.Rules.{rules}
use Rattle.core_state_set.proofs.SetsWords.{proper}
use Rattle.core_state_set.proofs.SetsStates.{left_start}
use Rattle.core_state_set.proofs.StateSet.states.Goals as goal

pub returns : goal.returns
returns c = left_start _ (proper (search rules) (λ w. search rules))
