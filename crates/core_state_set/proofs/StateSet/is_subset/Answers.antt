-- `StateSet::is_subset`: nothing in the difference.
use mathlib.Core.Path.{ap, ◌∙◌}
use Rattle.model.specs.Sets.{empty, subset}
use Rattle.core_state_set.proofs.SetsTests.{subset-difference}
use Rattle.core_state_set.proofs.StateSet.is_subset.Goals as goal

pub returns : goal.returns
returns c = c.is_empty.ensures ∙ ap (λ D. subset D empty) c.difference.ensures ∙ subset-difference _ _
