-- `smallest_in_layer`: the contracts of its three calls.
use mathlib.Core.Path.{refl, ap, ap₂, ◌∙◌}
use Rattle.model.specs.Sets.{meet, smallest}
use Rattle.call_paths.proofs.smallest_in_layer.Goals as goal

pub returns : goal.returns
returns c = c.smallest.ensures ∙ ap smallest (c.meet.ensures ∙ ap₂ meet refl c.row_of.ensures)
