-- `held_word`: what is gathered, with what passes of the bits that are left, is the whole.
use mathlib.Core.Path.{refl, sym, ◌∙◌}
use borrow.Author.Rules.{rules}
use Rattle.core_rows.proofs.SetsHeld.{gather_start, gather_taken, gather_skipped, gather_end}
use Rattle.core_rows.proofs.Steps.held_word.Goals as goal

pub loop-i-init : goal.loop-i-init
loop-i-init c = rw c.into_iter-i-iterator.ensures.into_iter_gives (gather_start _ _ (search rules))

pub loop-i-preserved-then-row_inside : goal.loop-i-preserved-then-row_inside
loop-i-preserved-then-row_inside c = gather_taken c.loop-i.invariant c.in-Some.ensures.steps (sym c.row_inside.ensures ∙ c.if-row_inside.true) refl

pub loop-i-preserved : goal.loop-i-preserved
loop-i-preserved c = gather_skipped c.loop-i.invariant c.in-Some.ensures.steps (sym c.row_inside.ensures ∙ c.if-row_inside.false) refl

pub returns : goal.returns
returns c = gather_end _ _ _ _ (search rules) c.loop-i.invariant c.in-None.ensures.steps.0
