-- `Report::put_spaced` meets its contract.
use mathlib.Core.List.{append-nil}
use Rattle.core_report.specs.Text.{ascii, spaced}
use Rattle.core_report.proofs.Report.put_spaced.Goals as goal

pub returns : goal.returns
unfolding ascii spaced
returns c = rw append-nil c.put_number.ensures
