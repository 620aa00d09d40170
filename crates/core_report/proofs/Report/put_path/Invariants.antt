-- `Report::put_path` meets its contract. After i turns the first i states are put.
use Prim.Native.Nat.{◌*◌}
use lib.ListN.{take}
use Rattle.core_report.specs.Text.{spaced}
use Rattle.core_report.specs.Put.{spaced_bytes, Put}
use Rattle.core_report.proofs.Report.put_path.Given as goal

abbrev pub invariant-loop-s : goal.invariant-loop-s
invariant-loop-s l = Put (spaced_bytes * l.s-index) (spaced (take l.s-index l.fn.path)) l.initial.self l.self
