-- `newly_reached`: the contracts of its two calls.
use mathlib.Core.Path.{refl, ap₂, ◌∙◌}
use Rattle.model.specs.Sets.{difference}
use Rattle.core_reach.proofs.newly_reached.Goals as goal

pub returns : goal.returns
returns c = c.difference.ensures ∙ ap₂ difference c.successors.ensures refl
