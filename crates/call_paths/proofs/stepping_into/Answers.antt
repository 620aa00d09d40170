-- `stepping_into`: what is left of the set without those in hold of all other states.
use mathlib.Core.Path.{refl, ap₂, ◌∙◌}
use Rattle.model.specs.Sets.{difference}
use Rattle.core_rows.specs.Rows.{meet_hold}
use Rattle.call_paths.proofs.RowsStepping.{stepping_is}
use Rattle.call_paths.proofs.stepping_into.Goals as goal

pub returns : goal.returns
returns c =
    c.difference.ensures
    ∙ ap₂ difference refl
    (c.meet_hold.ensures ∙ ap₂ (meet_hold _) refl (c.difference-others.ensures ∙ ap₂ difference c.first_states.ensures refl))
    ∙ stepping_is _ _ _
