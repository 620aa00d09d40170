-- `join_predecessor`: with s joined to the rows of the states that are left, it is joined to all.
use Prim.Native.Nat.{◌^◌, ◌<◌}
use mathlib.Core.Path.{◌≡◌}
use mathlib.Core.List.{[]}
use lib.ListN.{get_or}
use Rattle.core_state_set.specs.WordSets.{left_of}
use Rattle.core_rows.specs.Rows.{map_at}
use Rattle.call_distances.specs.Transposing.{with_bit}
use Rattle.call_distances.proofs.join_predecessor.Given as goal

abbrev pub invariant-loop-w : goal.invariant-loop-w
invariant-loop-w l =
    map_at (left_of l.w (get_or l.successors.words l.w 0) l.successors.words) (with_bit l.s) [] l.before ≡ map_at l.successors.words (with_bit l.s) [] l.fn.before

abbrev pub invariant-loop-i : goal.invariant-loop-i
invariant-loop-i l =
    (l.i-iterator.0 < 2 ^ 64) × (map_at (left_of l.w l.i-iterator.0 l.successors.words) (with_bit l.s) [] l.before ≡ map_at l.successors.words (with_bit l.s) [] l.fn.before)
