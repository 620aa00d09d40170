-- `any_outside`: each window is looked at.
use mathlib.Core.Path.{refl}
use borrow.Author.Rules.{rules}
use Rattle.call_release_windows.proofs.Searches.{sought_turn, sought_end}
use Rattle.call_release_windows.proofs.any_outside.Goals as goal

pub loop-window-init : goal.loop-window-init
loop-window-init c = record { within = search rules; rest = refl }

pub loop-window-preserved : goal.loop-window-preserved
loop-window-preserved c = sought_turn c.loop-window.invariant (search rules) c.is_outside-found.ensures

pub returns : goal.returns
returns c = sought_end c.loop-window.invariant (search rules)
