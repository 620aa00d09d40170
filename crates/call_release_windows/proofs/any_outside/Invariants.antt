-- `any_outside`: each window is looked at.
use Rattle.call_release_windows.specs.Windows.{outside}
use Rattle.call_release_windows.proofs.Searches.{Sought}
use Rattle.call_release_windows.proofs.any_outside.Given as goal

abbrev pub invariant-loop-window : goal.invariant-loop-window
invariant-loop-window l = Sought outside l.windows l.found l.window-index
