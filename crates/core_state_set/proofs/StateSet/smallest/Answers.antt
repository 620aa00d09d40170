-- `StateSet::smallest`: the words passed are 0.
use borrow.Author.Rules.{rules}
use Rattle.core_state_set.proofs.SetsWords.{proper}
use Rattle.core_state_set.proofs.SetsByWord.{smallest_word, smallest-none}
use Rattle.core_state_set.proofs.StateSet.smallest.Goals as goal

pub returns-then-word-ne0 : goal.returns-then-word-ne0
returns-then-word-ne0 c = smallest_word _ _ c.loop-w.invariant (search (rules, proper)) (search rules) c.if-word-ne0.true

pub returns : goal.returns
returns c = smallest-none _ _ c.loop-w.invariant (search rules)
