-- `StateSet::equals`: the derived test is of the words.
use borrow.Author.Rules.{rules}
use Rattle.core_state_set.proofs.SetsWords.{proper}
use Rattle.core_state_set.proofs.SetsTests.{same-tested}
use Rattle.core_state_set.proofs.StateSet.equals.Goals as goal

pub returns : goal.returns
returns c = same-tested _ _ (search (rules, proper)) (search (rules, proper)) c.eq.ensures
