-- `put_bytes`: the lowest bytes copied.
use borrow.Author.Rules.{rules}
use mathlib.Core.Path.{ap, ◌∙◌}
use lib.ListN.{take}
use Rattle.file_contents_writing.proofs.SetsBytesWritten.{bytes-written}
use Rattle.file_contents_writing.proofs.put_bytes.Goals as goal

pub returns : goal.returns
returns c = bytes-written c.args.x _ (search rules) (c.copy_from_slice.ensures.after ∙ ap (take c.args.count) c.to_le_bytes.ensures)
