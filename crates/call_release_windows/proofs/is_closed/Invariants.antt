-- `is_closed`: each closed day is looked at.
use lib.Dec.{eqb}
use Rattle.call_release_windows.proofs.Searches.{Sought}
use Rattle.call_release_windows.proofs.is_closed.Given as goal

abbrev pub invariant-loop-closed_day : goal.invariant-loop-closed_day
invariant-loop-closed_day l = Sought (eqb l.day) l.closed l.found l.closed_day-index
