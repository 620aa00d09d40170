-- `Report::put_states_or_none` meets its contract.
use native.Mathlib.Omega.{arith}
use borrow.Author.Tests.{eq-eqb, ne_eqb}
use Rattle.core_report.specs.Text.{ascii}
use Rattle.core_report.proofs.TextsPut.{put_most}
use Rattle.core_report.proofs.Report.put_states_or_none.Goals as goal

pub returns-then-count-eq0 : goal.returns-then-count-eq0
unfolding ascii
returns-then-count-eq0 c = rw (eq-eqb _ _ c.if-count-eq0.true) (put_most (omega arith) c.put.ensures)

pub returns-else-count-eq0 : goal.returns-else-count-eq0
returns-else-count-eq0 c = rw (ne_eqb _ _ c.if-count-eq0.false) c.put_states.ensures
