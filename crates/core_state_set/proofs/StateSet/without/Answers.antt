-- `StateSet::without`: the difference with one state.
use mathlib.Core.Path.{◌∙◌, ap}
use Rattle.model.specs.Sets.{difference}
use Rattle.core_state_set.proofs.StateSet.without.Goals as goal

pub returns : goal.returns
returns c = c.difference.ensures ∙ ap (difference _) c.single.ensures
