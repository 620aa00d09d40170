-- `read_input`: the state lies within the room, and each read that gives bytes leaves less of it.
use Prim.Native.Nat.{◌-◌, ◌<◌}
use mathlib.Core.Path.{◌≡◌}
use lib.ListN.{length}
use Rattle.program_input.proofs.read_input.Given as goal

abbrev pub invariant-loop-length : goal.invariant-loop-length
invariant-loop-length g l = (l.there < length l.room) × (length l.room ≡ length l.initial.room)

abbrev pub decreases-loop-length : goal.decreases-loop-length
decreases-loop-length g l = length l.room - l.there
