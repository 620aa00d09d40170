-- `core_report::write_safe` meets its contract: its lines one after the other, at the front.
use borrow.Author.Rules.{rules}
use mathlib.Core.Path.{refl}
use Rattle.core_report.specs.Text.{ascii, safe_text}
use Rattle.core_report.proofs.TextsPut.{put_then, put_front}
use Rattle.core_report.proofs.write_safe.Goals as goal

pub returns : goal.returns
unfolding ascii safe_text
returns c = put_front refl (search rules) (put_then c.put_head.ensures c.put_invariant_line.ensures) (search rules)
