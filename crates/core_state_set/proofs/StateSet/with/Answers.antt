-- `StateSet::with`: the bit of s in its word, or no change where s is past the words.
use borrow.Author.Rules.{rules}
use Rattle.core_state_set.proofs.SetsWords.{proper, with_bit_lem, with_past}
use Rattle.core_state_set.proofs.StateSet.with.Goals as goal

pub returns-then-w-lt-WORDS : goal.returns-then-w-lt-WORDS
returns-then-w-lt-WORDS c = with_bit_lem _ _ (search (rules, proper)) (search rules)

pub returns-else-w-lt-WORDS : goal.returns-else-w-lt-WORDS
returns-else-w-lt-WORDS c = with_past _ _ (search (rules, proper)) (search rules)
