-- `not_forbidden`: all states without the forbidden ones.
use mathlib.Core.Path.{refl, ap₂, ◌∙◌}
use Rattle.model.specs.Sets.{difference}
use Rattle.core_rounds.proofs.Adding.{not_forbidden-is}
use Rattle.core_rounds.proofs.not_forbidden.Goals as goal

pub returns : goal.returns
returns c = c.difference.ensures ∙ ap₂ difference c.first_states.ensures refl ∙ not_forbidden-is _ _
