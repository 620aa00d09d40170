-- `all_distances`: the layers so far.
use mathlib.Core.List.{[]}
use Rattle.model.specs.Sets.{empty}
use Rattle.core_rows.specs.Rows.{table_on}
use Rattle.call_distances.proofs.DistanceLayers.{Swept}
use Rattle.call_distances.proofs.all_distances.Given as goal

abbrev pub invariant-loop-d : goal.invariant-loop-d
invariant-loop-d l = Swept l.steps.words.now (table_on l.n empty l.forbidden.words [] l.steps.words.now) l.d l.distances l.found.words l.layer.words
