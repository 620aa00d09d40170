-- `Report::put_verdict_line` meets its contract: its pieces one after the other.
use native.Mathlib.Omega.{arith}
use mathlib.Core.List.{append_assoc}
use Rattle.core_report.specs.Text.{ascii, verdict_line}
use Rattle.core_report.proofs.TextsPut.{put_then, put_most}
use Rattle.core_report.proofs.Report.put_verdict_line.Goals as goal

pub returns : goal.returns
unfolding ascii verdict_line
returns c = simp append_assoc (put_most (omega arith) (put_then c.put.ensures (put_then c.put_number.ensures c.put-2.ensures)))
