-- `core_report::write_unsafe` meets its contract: its lines one after the other, at the front.
use borrow.Author.Rules.{rules}
use mathlib.Core.Path.{refl}
use Rattle.core_report.specs.Text.{ascii, unsafe_text}
use Rattle.core_report.proofs.TextsPut.{put_then, put_front}
use Rattle.core_report.proofs.write_unsafe.Goals as goal

pub returns : goal.returns
unfolding ascii unsafe_text
returns c = put_front refl (search rules) (put_then c.put_head.ensures c.put_path_line.ensures) (search rules)
