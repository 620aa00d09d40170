-- `Report::put` meets its contract. After i turns the first i bytes are put.
use lib.ListN.{take}
use Rattle.core_report.specs.Put.{Put}
use Rattle.core_report.proofs.Report.put.Given as goal

abbrev pub invariant-loop-byte : goal.invariant-loop-byte
invariant-loop-byte l = Put l.byte-index (take l.byte-index l.fn.text) l.initial.self l.self
