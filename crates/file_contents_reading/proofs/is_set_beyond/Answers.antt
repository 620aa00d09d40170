-- `is_set_beyond`: the set's last byte, without its bits below n.
use borrow.Author.Rules.{rules}
use Rattle.file_contents_reading.proofs.LastByte.{beyond_last}
use Rattle.file_contents_reading.proofs.is_set_beyond.Goals as goal

pub returns : goal.returns
returns c = beyond_last _ _ _ _ _ (search rules) (search rules) (search rules) (search rules) (search rules)
