-- `Windows::least_wait`: `least` is the wait for the windows passed.
use mathlib.Core.Path.{refl}
use borrow.Author.Rules.{rules}
use Rattle.call_release_windows.specs.Windows.{outside}
use Rattle.call_release_windows.proofs.Searches.{mem_at, some-none}
use Rattle.call_release_windows.proofs.Waits.{nearest_turn, nearest-end}
use Rattle.call_release_windows.proofs.Windows.least_wait.Goals as goal

pub loop-window-init : goal.loop-window-init
loop-window-init c = record { passed = search rules; rest = refl }

pub wait_for-least-requires : goal.wait_for-least-requires
wait_for-least-requires c = (search rules, some-none outside _ _ c.args.self.in_range (mem_at _ _ (search rules)))

pub loop-window-preserved : goal.loop-window-preserved
loop-window-preserved c = nearest_turn c.loop-window.invariant (search rules) c.wait_for-least.ensures

pub returns : goal.returns
returns c = nearest-end c.loop-window.invariant (search rules)
