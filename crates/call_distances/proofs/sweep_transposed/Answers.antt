-- `sweep_transposed`: the layers so far.
use mathlib.Core.Path.{refl, sym, ap₂, ◌∙◌}
use borrow.Author.Rules.{rules}
use Rattle.model.specs.Sets.{difference}
use Rattle.core_state_set.proofs.SetsWords.{proper}
use Rattle.core_rows.specs.Rows.{table_on}
use Rattle.core_rows.proofs.RowsLent.{row_in_lem}
use Rattle.call_distances.proofs.RowsTransposed.{transposed_start, transposed_image}
use Rattle.call_distances.proofs.DistanceLayers.{swept_start, swept_turn, swept_end}
use Rattle.call_distances.proofs.sweep_transposed.Goals as goal

pub join_predecessors-requires : goal.join_predecessors-requires
unfolding table_on
join_predecessors-requires c = let held = c.requires in (transposed_start _, held.small)

pub loop-before-init : goal.loop-before-init
unfolding table_on
loop-before-init c = swept_start _ (row_in_lem _ _) c.requires.formed (proper (search rules) (λ w. search rules))

pub loop-before-preserved : goal.loop-before-preserved
unfolding table_on
loop-before-preserved c =
    let some = sym c.is_empty.ensures ∙ c.loop-before-test.true in
    swept_turn _ (row_in_lem _ _) c.requires.formed c.loop-before.invariant some
    c.mark.ensures
    (c.difference-layer.ensures ∙ ap₂ difference (c.union_of.ensures ∙ transposed_image _ _ c.join_predecessors.ensures _) refl)
    c.union-found.ensures

pub returns : goal.returns
unfolding table_on
returns c =
    swept_end _ (row_in_lem _ _) c.requires.formed c.loop-before.invariant
    (sym c.is_empty.ensures ∙ c.loop-before-test.false)
