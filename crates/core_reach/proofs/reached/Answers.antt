-- `reached`: after some number of turns, what so many steps lead to, till a layer is empty. The measure: the states not looked at yet.
use Prim.Native.Nat.{suc}
use native.Mathlib.Omega.{arith}
use mathlib.Core.Path.{◌≡◌, sym, ap, ◌∙◌}
use mathlib.Core.Bool.{false}
use borrow.Author.Rules.{rules}
use Rattle.model.specs.Sets.{empty, difference, subset, size}
use Rattle.model.proofs.SetsCounted.{size-most}
use Rattle.core_state_set.proofs.SetsWords.{proper}
use Rattle.core_rows.specs.Rows.{row_in, successors_by}
use Rattle.core_reach.specs.Reached.{reach_by}
use Rattle.core_reach.proofs.ReachLayers.{Layered, layered_start, layered_turn, layered_less, layered_expanded, layered_end}
use Rattle.core_reach.proofs.reached.Goals as goal

pub loop-layer-init : goal.loop-layer-init
unfolding reach_by successors_by
loop-layer-init c = (0, layered_start _ _ (proper (search rules) (λ w. search rules)))

pub loop-layer-smaller : goal.loop-layer-smaller
unfolding reach_by successors_by
loop-layer-smaller c =
    let some : subset c.loop-layer.layer.words empty ≡ false = sym c.is_empty.ensures ∙ c.loop-layer-test.true in
    let turn : let so = c.loop-layer.invariant in
    Layered (row_in c.args.steps.words.now) c.args.from.words
    (suc so.0) c.union-found.result.words c.newly_reached-layer.result.words = layered_turn _ _ c.loop-layer.invariant.1 some c.newly_reached-layer.ensures c.union-found.ensures in
    let so = c.loop-layer.invariant in
    omega (
      arith,
      layered_less _ _ so.1 some,
      ap size (layered_expanded _ _ so.1),
      ap size (layered_expanded _ _ turn),
      size-most (difference c.union-found.result.words c.newly_reached-layer.result.words),
    )

pub loop-layer-preserved : goal.loop-layer-preserved
unfolding reach_by successors_by
loop-layer-preserved c =
    let some : subset c.loop-layer.layer.words empty ≡ false = sym c.is_empty.ensures ∙ c.loop-layer-test.true in
    let turn : let so = c.loop-layer.invariant in
    Layered (row_in c.args.steps.words.now) c.args.from.words
    (suc so.0) c.union-found.result.words c.newly_reached-layer.result.words = layered_turn _ _ c.loop-layer.invariant.1 some c.newly_reached-layer.ensures c.union-found.ensures in
    (suc c.loop-layer.invariant.0, turn)

pub returns : goal.returns
unfolding reach_by successors_by
returns c = layered_end _ _ c.loop-layer.invariant.1 (sym c.is_empty.ensures ∙ c.loop-layer-test.false)
