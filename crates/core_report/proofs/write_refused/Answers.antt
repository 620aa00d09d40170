-- `core_report::write_refused` meets its contract: its pieces one after the other, at the front.
use borrow.Author.Rules.{rules}
use mathlib.Core.Path.{refl}
use Rattle.core_report.specs.Text.{ascii, refused_text}
use Rattle.core_report.proofs.TextsPut.{put_then, put_front}
use Rattle.core_report.proofs.write_refused.Goals as goal

pub returns : goal.returns
unfolding ascii refused_text
returns c = put_front refl (search rules) (put_then (rw c.from.ensures at c.put_number.ensures) c.put.ensures) (search rules)
