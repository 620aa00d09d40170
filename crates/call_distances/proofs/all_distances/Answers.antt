-- `all_distances`: the layers so far.
use mathlib.Core.Path.{refl, sym, ap₂, ◌∙◌}
use borrow.Author.Rules.{rules}
use Rattle.model.specs.Sets.{difference}
use Rattle.core_state_set.proofs.SetsWords.{proper}
use Rattle.core_rows.specs.Rows.{table_on}
use Rattle.core_rows.proofs.RowsLent.{row_in_lem}
use Rattle.call_paths.specs.Search.{stepping_into}
use Rattle.call_distances.proofs.RowsTransposed.{stepping_new}
use Rattle.call_distances.proofs.DistanceLayers.{swept_start, swept_turn, swept_end, swept_full}
use Rattle.call_distances.proofs.all_distances.Goals as goal

pub loop-d-init : goal.loop-d-init
unfolding table_on
loop-d-init c = swept_start _ (row_in_lem _ _) c.requires.formed (proper (search rules) (λ w. search rules))

pub loop-d-preserved : goal.loop-d-preserved
unfolding table_on
loop-d-preserved c =
    let some = sym c.is_empty.ensures ∙ c.if-is_empty.false in
    swept_turn _ (row_in_lem _ _) c.requires.formed c.loop-d.invariant some c.mark.ensures
    (c.stepping_into-layer.ensures
    ∙ ap₂ (stepping_into _) (c.difference-rest.ensures ∙ ap₂ difference c.first_states.ensures refl) refl
    ∙ stepping_new _ _ _ _)
    c.union-found.ensures

pub returns-then-is_empty : goal.returns-then-is_empty
unfolding table_on
returns-then-is_empty c = swept_end _ (row_in_lem _ _) c.requires.formed c.loop-d.invariant (sym c.is_empty.ensures ∙ c.if-is_empty.true)

pub returns-after-loop-d : goal.returns-after-loop-d
unfolding table_on
returns-after-loop-d c = swept_full _ (row_in_lem _ _) c.requires.formed c.loop-d.invariant c.loop-d-test.false
