-- `expand`: the state is written, and its row joined.
use mathlib.Core.Path.{refl, ap, ◌∙◌}
use Rattle.model.specs.Sets.{union}
use Rattle.core_fixpoints.proofs.expand.Goals as goal

pub returns : goal.returns
returns c = (refl, c.union.ensures ∙ ap (union _) c.row.ensures, refl)
