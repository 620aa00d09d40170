-- `sweep_transposed`: the layers so far.
use Prim.Native.Nat.{suc, ◌-◌}
use mathlib.Core.List.{[]}
use Rattle.model.specs.Sets.{max_states, empty}
use Rattle.core_rows.specs.Rows.{table_on}
use Rattle.call_distances.proofs.DistanceLayers.{Swept}
use Rattle.call_distances.proofs.sweep_transposed.Given as goal

abbrev pub invariant-loop-before : goal.invariant-loop-before
invariant-loop-before l = Swept l.steps.words.now (table_on l.n empty l.initial.found.words [] l.steps.words.now) l.d l.distances l.found.words l.layer.words

abbrev pub decreases-loop-before : goal.decreases-loop-before
decreases-loop-before l = suc max_states - l.d
