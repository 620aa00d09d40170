-- `Report::put_path` meets its contract. After i turns the first i states are put.
use Prim.Native.Nat.{◌<◌}
use native.Mathlib.Omega.{arith}
use lib.ListN.{length}
use lib.Seq.{take_all}
use Rattle.core_report.specs.Text.{spaced}
use Rattle.core_report.proofs.TextsPut.{put_none, put_then, put_most}
use Rattle.core_report.proofs.Turns.{take_more, spaced-append}
use Rattle.core_report.proofs.Report.put_path.Goals as goal

pub loop-s-init : goal.loop-s-init
unfolding spaced
loop-s-init c = put_none _

pub loop-s-preserved : goal.loop-s-preserved
loop-s-preserved c =
    let more : c.loop-s.s-index < length c.args.path.now = omega arith in
    rw (take_more, spaced-append) (put_most (omega arith) (put_then c.loop-s.invariant (rw c.from.ensures at c.put_spaced.ensures)))

pub returns : goal.returns
returns c =
    let inv = c.loop-s.invariant in
    put_most (omega arith) (rw (take_all _ _ c.loop-s-test.false) at inv)
