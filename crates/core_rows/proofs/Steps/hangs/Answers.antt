-- `hangs`: of the states that do not rest those that are in the hold of no state.
use mathlib.Core.Path.{refl, ap₂, ◌∙◌}
use Rattle.model.specs.Sets.{difference}
use Rattle.core_rows.specs.Rows.{meet_hold}
use Rattle.core_rows.proofs.RowsLent.{hangs-is}
use Rattle.core_rows.proofs.Steps.hangs.Goals as goal

pub returns : goal.returns
returns c =
    c.meet_hold.ensures
    ∙ ap₂ (meet_hold _) (c.difference-others.ensures ∙ ap₂ difference c.first_states.ensures refl) c.empty.ensures
    ∙ hangs-is _ _ _
