-- `StateSet::difference`: each word is made of the two at its place.
use borrow.Author.Rules.{rules}
use Rattle.model.specs.Sets.{difference}
use Rattle.core_state_set.proofs.SetsWords.{proper, and_not_wise, combined}
use Rattle.core_state_set.proofs.StateSet.difference.Goals as goal

pub returns : goal.returns
unfolding difference
returns c = combined and_not_wise _ _ _ (search (rules, proper)) (search (rules, proper)) (search rules) (λ w h. search (rules, c.by_word.ensures w h))
