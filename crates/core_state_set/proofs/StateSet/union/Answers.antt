-- `StateSet::union`: each word is made of the two at its place.
use borrow.Author.Rules.{rules}
use Rattle.model.specs.Sets.{union}
use Rattle.core_state_set.proofs.SetsWords.{proper, or_wise, combined}
use Rattle.core_state_set.proofs.StateSet.union.Goals as goal

pub returns : goal.returns
unfolding union
returns c = combined or_wise _ _ _ (search (rules, proper)) (search (rules, proper)) (search rules) (λ w h. search (rules, c.by_word.ensures w h))
