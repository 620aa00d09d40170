-- `first_open_minute`: none of the minutes passed is open. Each jump is over one minute at least.
use native.Mathlib.Nat.{le_refl}
use native.Mathlib.Omega.{arith}
use mathlib.Core.Path.{sym, ◌∙◌}
use borrow.Author.Rules.{rules}
use Rattle.call_release_windows.proofs.Jumps.{at_most-week, over_day, over_wait, opened, all_shut}
use Rattle.call_release_windows.proofs.first_open_minute.Goals as goal

pub loop-minute-init : goal.loop-minute-init
loop-minute-init c = record { begun = le_refl _; shut = λ j b h. absurd (omega (arith, b, h)) }

pub loop-minute-preserved-then-is_closed : goal.loop-minute-preserved-then-is_closed
loop-minute-preserved-then-is_closed c =
    over_day _ _ _ c.loop-minute.invariant (sym c.is_closed.ensures ∙ c.if-is_closed.true) (omega arith) (omega arith)

pub returns-then-wait-eq0 : goal.returns-then-wait-eq0
returns-then-wait-eq0 c =
    opened _ _ _ c.loop-minute.invariant (search rules) (sym c.is_closed.ensures ∙ c.if-is_closed.false) c.least_wait-wait.ensures
    c.if-wait-eq0.true

pub overflow_add-minute-else-is_closed : goal.overflow_add-minute-else-is_closed
overflow_add-minute-else-is_closed c = record { fits = omega (arith, at_most-week _ c.least_wait-wait.ensures) }

pub loop-minute-preserved : goal.loop-minute-preserved
loop-minute-preserved c = over_wait _ _ _ c.loop-minute.invariant c.least_wait-wait.ensures

pub returns : goal.returns
returns c = all_shut _ _ _ c.loop-minute.invariant (search rules)
