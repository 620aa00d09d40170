-- `forbidden`: by the rows of the store.
use mathlib.Core.Path.{ap, ◌∙◌}
use Rattle.core_rows.specs.Rows.{forbidden_by}
use Rattle.core_rows.proofs.RowsLent.{forbidden_of}
use Rattle.core_rows.proofs.forbidden.Goals as goal

pub returns : goal.returns
returns c = c.forbidden_by.ensures ∙ ap (forbidden_by _ _) c.of.ensures ∙ forbidden_of _ _
