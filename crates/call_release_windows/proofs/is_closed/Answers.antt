-- `is_closed`: each closed day is looked at.
use mathlib.Core.Path.{refl}
use borrow.Author.Rules.{rules}
use Rattle.call_release_windows.proofs.Searches.{sought_turn, sought_end}
use Rattle.call_release_windows.proofs.is_closed.Goals as goal

pub loop-closed_day-init : goal.loop-closed_day-init
loop-closed_day-init c = record { within = search rules; rest = refl }

pub loop-closed_day-preserved : goal.loop-closed_day-preserved
loop-closed_day-preserved c = sought_turn c.loop-closed_day.invariant (search rules) refl

pub returns : goal.returns
returns c = sought_end c.loop-closed_day.invariant (search rules)
