-- `Report::put_head` meets its contract: its lines one after the other.
use Rattle.core_report.proofs.TextsPut.{put_then}
use Rattle.core_report.proofs.Report.put_head.Goals as goal

pub returns : goal.returns
returns c = put_then c.put_states_line.ensures c.put_verdict_line.ensures
