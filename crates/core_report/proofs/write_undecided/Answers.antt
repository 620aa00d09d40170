-- `core_report::write_undecided` meets its contract: the first two lines, at the front.
use borrow.Author.Rules.{rules}
use mathlib.Core.Path.{refl}
use Rattle.core_report.specs.Text.{ascii, undecided_text}
use Rattle.core_report.proofs.TextsPut.{put_front}
use Rattle.core_report.proofs.write_undecided.Goals as goal

pub returns : goal.returns
unfolding ascii undecided_text
returns c = put_front refl (search rules) c.put_head.ensures (search rules)
