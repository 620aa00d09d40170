-- `row_inside`: one call in the other.
use mathlib.Core.Path.{ap, ◌∙◌}
use Rattle.model.specs.Sets.{Set, subset}
use Rattle.core_rows.proofs.Steps.row_inside.Goals as goal

pub returns : goal.returns
returns c = c.is_subset.ensures ∙ ap (λ (X : Set). subset X c.args.y.words) c.row.ensures
