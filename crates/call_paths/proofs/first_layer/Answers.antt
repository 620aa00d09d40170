-- `first_layer`: the layers so far hold no forbidden state, and each has its row. A layer with a state makes one more found, so there are fewer
-- layers than states.
use mathlib.Core.Path.{refl, sym, ap, ◌∙◌}
use borrow.Author.Rules.{rules}
use lib.ListN.{length, length-set}
use Rattle.core_state_set.proofs.SetsWords.{proper}
use Rattle.call_paths.proofs.Outward.{outward_start, outward_turn, outward_hit, outward_end, outward_full, put_start, put_turn, put_hit}
use Rattle.call_paths.proofs.first_layer.Goals as goal

pub loop-d-init : goal.loop-d-init
loop-d-init c = (outward_start _ _ _ (proper (search rules) (λ w. search rules)), put_start _ _ refl)

pub shape_of-layers-then-meets : goal.shape_of-layers-then-meets
shape_of-layers-then-meets c = ap length c.put_row.ensures ∙ simp length-set c.loop-d.invariant.1.long

pub returns-then-meets : goal.returns-then-meets
returns-then-meets c =
    let so = c.loop-d.invariant in (
      outward_hit _ _ _ so.0 (sym c.meets.ensures ∙ c.if-meets.true),
      put_hit _ _ _ so.0 so.1 c.meet.ensures c.put_row.ensures,
    )

pub returns-then-is_empty : goal.returns-then-is_empty
returns-then-is_empty c = (outward_end _ _ _ c.loop-d.invariant.0 (sym c.is_empty.ensures ∙ c.if-is_empty.true), tt)

pub loop-d-preserved : goal.loop-d-preserved
loop-d-preserved c =
    let so = c.loop-d.invariant in
    let some = sym c.is_empty.ensures ∙ c.if-is_empty.false in (
      outward_turn _ _ _ so.0 some (sym c.meets.ensures ∙ c.if-meets.false) c.newly_reached-layer.ensures c.union-found.ensures,
      put_turn _ _ _ so.0 so.1 c.put_row-in-loop-d.ensures,
    )

pub shape_of-layers : goal.shape_of-layers
shape_of-layers c = c.loop-d.invariant.1.long

pub returns : goal.returns
returns c = (outward_full _ _ _ c.loop-d.invariant.0 c.loop-d-test.false, tt)
