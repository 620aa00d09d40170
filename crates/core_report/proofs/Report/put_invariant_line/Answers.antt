-- `Report::put_invariant_line` meets its contract: its pieces one after the other.
use native.Mathlib.Omega.{arith}
use mathlib.Core.List.{append_assoc}
use Rattle.core_report.specs.Text.{ascii, invariant_line}
use Rattle.core_report.proofs.TextsPut.{put_then}
use Rattle.model.proofs.SetsCounted.{size-most}
use Rattle.core_report.proofs.Report.put_invariant_line.Goals as goal

pub put_number-requires : goal.put_number-requires
put_number-requires c = (omega (arith, c.count-states.ensures, size-most c.args.x.words), omega arith)

pub returns : goal.returns
unfolding ascii invariant_line
returns c =
    simp append_assoc
    (rw (← c.count-states.ensures)
    (put_then c.put_number.ensures
    (put_then c.put.ensures (put_then c.put_states_or_none.ensures c.put-2.ensures))))
