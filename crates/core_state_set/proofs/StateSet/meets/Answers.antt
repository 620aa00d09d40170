-- `StateSet::meets`: something in the meet.
use mathlib.Core.Bool.{not}
use mathlib.Core.Path.{ap, ◌∙◌}
use Rattle.model.specs.Sets.{empty, subset}
use Rattle.core_state_set.proofs.SetsTests.{meets-meet}
use Rattle.core_state_set.proofs.StateSet.meets.Goals as goal

pub returns : goal.returns
returns c = ap not (c.is_empty.ensures ∙ ap (λ M. subset M empty) c.meet.ensures) ∙ meets-meet _ _
