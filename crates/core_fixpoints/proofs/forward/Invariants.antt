-- `forward`: what is expanded before pass k is recorded, with its successors joined; a pass without states is the last.
use Prim.Native.Nat.{◌-◌}
use Rattle.model.specs.Sets.{max_states}
use Rattle.core_fixpoints.proofs.Expanding.{Passing}
use Rattle.core_fixpoints.proofs.forward.Given as goal

abbrev pub invariant-loop-z : goal.invariant-loop-z
invariant-loop-z l = Passing l.steps.words.now l.cover.rows.now l.initial.entered.words l.z.words l.order l.frontier.words l.r.words l.entered.words l.count

abbrev pub decreases-loop-z : goal.decreases-loop-z
decreases-loop-z l = max_states - l.count
