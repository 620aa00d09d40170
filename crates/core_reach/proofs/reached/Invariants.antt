-- `reached`: after some number of turns, what so many steps lead to, till a layer is empty. The measure: the states not looked at yet.
use Prim.Native.Nat.{ℕ, ◌-◌}
use Rattle.model.specs.Sets.{max_states, difference, size}
use Rattle.core_rows.specs.Rows.{row_in}
use Rattle.core_reach.proofs.ReachLayers.{Layered}
use Rattle.core_reach.proofs.reached.Given as goal

abbrev pub invariant-loop-layer : goal.invariant-loop-layer
invariant-loop-layer l = (k : ℕ) × Layered (row_in l.steps.words.now) l.initial.found.words k l.found.words l.layer.words

abbrev pub decreases-loop-layer : goal.decreases-loop-layer
decreases-loop-layer l = max_states - size (difference l.found.words l.layer.words)
