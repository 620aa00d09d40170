-- `StateSet::contains`: the lowest bit of the shifted word is the state's.
use borrow.Author.Rules.{rules}
use Rattle.core_state_set.proofs.SetsWords.{member_word, member-past}
use Rattle.core_state_set.proofs.StateSet.contains.Goals as goal

pub returns-then-w-lt-WORDS : goal.returns-then-w-lt-WORDS
returns-then-w-lt-WORDS c = member_word _ _ (search rules)

pub returns-else-w-lt-WORDS : goal.returns-else-w-lt-WORDS
returns-else-w-lt-WORDS c = member-past _ _ (search rules)
