-- `word_in`: its eight bytes.
use mathlib.Core.Path.{refl}
use borrow.Author.Rules.{rules}
use Rattle.file_contents_reading.proofs.ContentsWords.{word_joined}
use Rattle.file_contents_reading.proofs.word_in.Goals as goal

pub returns : goal.returns
returns c = word_joined c.args.bytes.now c.args.at c.args.v (search rules) (search rules) refl c.copy_from_slice.ensures.after c.from_le_bytes.ensures
