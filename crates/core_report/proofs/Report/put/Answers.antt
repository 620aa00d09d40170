-- `Report::put` meets its contract. After i turns the first i bytes are put.
use Rattle.core_report.proofs.TextsPut.{put_byte, put_then}
use Rattle.core_report.proofs.Turns.{take_more}
use Rattle.core_report.proofs.Report.put.Goals as goal

pub loop-byte-preserved : goal.loop-byte-preserved
loop-byte-preserved c = rw (take_more _ _ c.loop-byte-test.true) (put_then c.loop-byte.invariant (put_byte _ _))
