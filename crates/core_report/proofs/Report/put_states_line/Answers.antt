-- `Report::put_states_line` meets its contract: its pieces one after the other.
use mathlib.Core.List.{append_assoc}
use Rattle.core_report.specs.Text.{ascii, states_line}
use Rattle.core_report.proofs.TextsPut.{put_then}
use Rattle.core_report.proofs.Report.put_states_line.Goals as goal

pub returns : goal.returns
unfolding ascii states_line
returns c = simp append_assoc (put_then c.put_number.ensures (put_then c.put_number-2.ensures c.put.ensures))
