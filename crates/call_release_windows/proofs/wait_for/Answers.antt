-- `wait_for`: 0 in the window, else what is left of the week since its start, if that is sooner than `most`.
use native.Mathlib.Omega.{arith}
use borrow.Author.Rules.{rules}
use Rattle.call_release_windows.proofs.Waits.{in_range, wait_none, wait_some, wait_most}
use Rattle.call_release_windows.proofs.wait_for.Goals as goal

pub overflow_sub-since_start : goal.overflow_sub-since_start
overflow_sub-since_start c = omega (arith, (in_range _ c.requires.1).start)

pub returns-then-since_start-window : goal.returns-then-since_start-window
returns-then-since_start-window c = wait_none _ _ _ (search rules)

pub returns-then-wait-most : goal.returns-then-wait-most
returns-then-wait-most c = rw c.from-window.ensures.0 (wait_some _ _ (in_range _ c.requires.1) _ (search rules) (search rules))

pub returns-else-wait-most : goal.returns-else-wait-most
returns-else-wait-most c = wait_most _ _ (in_range _ c.requires.1) _ (search rules) (search rules)
