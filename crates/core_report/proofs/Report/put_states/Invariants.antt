-- `Report::put_states` meets its contract. After some turns all states but those that are left are put.
use Rattle.core_state_set.specs.WordSets.{left_of}
use Rattle.core_report.proofs.Turns.{Putting}
use Rattle.core_report.proofs.Report.put_states.Given as goal

abbrev pub invariant-loop-s : goal.invariant-loop-s
invariant-loop-s l = Putting l.fn.x.words (left_of l.s-iterator.w l.s-iterator.rest l.s-iterator.words) l.initial.self l.self
