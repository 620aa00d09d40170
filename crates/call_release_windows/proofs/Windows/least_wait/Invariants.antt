-- `Windows::least_wait`: `least` is the wait for the windows passed.
use Rattle.call_release_windows.proofs.Waits.{Nearest}
use Rattle.call_release_windows.proofs.Windows.least_wait.Given as goal

abbrev pub invariant-loop-window : goal.invariant-loop-window
invariant-loop-window l = Nearest l.fn.self.numbers.now l.minute l.least l.window-index
