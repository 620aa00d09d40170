-- `forward`: what is expanded before pass k is recorded, with its successors joined; a pass without states is the last.
use mathlib.Core.Path.{◌≡◌, sym, ap, ◌∙◌}
use mathlib.Core.Bool.{false}
use borrow.Author.Rules.{rules}
use Rattle.model.specs.Sets.{empty, subset}
use Rattle.core_state_set.proofs.SetsWords.{proper}
use Rattle.core_fixpoints.specs.Steps.{cover_by}
use Rattle.core_fixpoints.proofs.Expanding.{passing_start, passing_room, passing_less, passing_turn, passing_least, passing_order, passing_count, passing_entered}
use Rattle.core_fixpoints.proofs.forward.Goals as goal

pub loop-z-init : goal.loop-z-init
loop-z-init c =
    passing_start _ _ c.args.cover.is_cover c.args.initial.words c.args.z.words (proper (search rules) (λ w. search rules))
    (c.of-frontier.ensures ∙ ap (cover_by c.args.cover.rows.now) c.meet.ensures)

pub expand_set-done-requires : goal.expand_set-done-requires
expand_set-done-requires c = passing_room _ _ c.args.cover.is_cover _ _ c.loop-z.invariant

pub loop-z-smaller : goal.loop-z-smaller
loop-z-smaller c =
    let some : subset c.loop-z.frontier.words empty ≡ false = sym c.is_empty.ensures ∙ c.loop-z-test.true in
    passing_less _ _ c.args.cover.is_cover _ _ c.loop-z.invariant some c.expand_set-done.ensures.0

pub loop-z-preserved : goal.loop-z-preserved
loop-z-preserved c =
    let more : subset c.loop-z.frontier.words empty ≡ false = sym c.is_empty.ensures ∙ c.loop-z-test.true in
    passing_turn _ _ c.args.cover.is_cover _ _ c.loop-z.invariant more c.expand_set-done.ensures.1 c.expand_set-done.ensures.0
    c.expand_set-done.ensures.2 c.union-entered.ensures c.joining-frontier.ensures c.union-r.ensures

pub returns : goal.returns
returns c =
    let last = sym c.is_empty.ensures ∙ c.loop-z-test.false in (
      passing_least _ _ c.args.cover.is_cover _ _ c.loop-z.invariant last,
      passing_order _ _ c.args.cover.is_cover _ _ c.loop-z.invariant last,
      passing_count _ _ c.args.cover.is_cover _ _ c.loop-z.invariant last,
      passing_entered _ _ c.args.cover.is_cover _ _ c.loop-z.invariant last,
    )
