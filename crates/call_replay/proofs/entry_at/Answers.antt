-- `entry_at`: the two bytes of the entry.
use borrow.Author.Rules.{rules}
use Rattle.call_replay.specs.Logs.{entry}
use Rattle.call_replay.proofs.entry_at.Goals as goal

pub returns : goal.returns
unfolding entry
returns c = search rules
