-- `holds_at`: the lowest bit of the shifted word is the state's.
use borrow.Author.Rules.{rules}
use Rattle.call_replay.proofs.LogEntries.{holds_word, holds-past}
use Rattle.call_replay.proofs.holds_at.Goals as goal

pub returns-then-w-lt-WORDS : goal.returns-then-w-lt-WORDS
returns-then-w-lt-WORDS c = holds_word _ _ _ (search rules)

pub returns-else-w-lt-WORDS : goal.returns-else-w-lt-WORDS
returns-else-w-lt-WORDS c = holds-past _ _ _ (search rules)
