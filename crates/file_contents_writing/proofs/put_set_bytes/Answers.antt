-- `put_set_bytes`: whole words, and what is left.
use borrow.Author.Rules.{rules}
use Rattle.file_contents_writing.proofs.SetsBytesWritten.{set_whole, set_rest}
use Rattle.file_contents_writing.proofs.put_set_bytes.Goals as goal

pub returns-then-at-width : goal.returns-then-at-width
returns-then-at-width c = set_whole _ (search rules) (search rules) _ _ c.put_words.ensures c.if-at-width.true

pub returns : goal.returns
returns c = set_rest _ (search rules) (search rules) _ _ c.put_words.ensures _ c.if-at-width.false c.put_bytes.ensures
