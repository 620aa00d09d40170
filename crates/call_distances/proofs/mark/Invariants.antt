-- `mark`: with the states that are left marked, all are.
use Prim.Native.Nat.{◌^◌, ◌<◌}
use mathlib.Core.Path.{◌≡◌}
use lib.ListN.{get_or}
use Rattle.core_state_set.specs.WordSets.{left_of}
use Rattle.core_rows.specs.Rows.{map_at}
use Rattle.call_distances.proofs.mark.Given as goal

abbrev pub invariant-loop-w : goal.invariant-loop-w
invariant-loop-w l =
    map_at (left_of l.w (get_or l.layer.words l.w 0) l.layer.words) (λ _. l.d) 0 l.distances ≡ map_at l.layer.words (λ _. l.d) 0 l.fn.distances

abbrev pub invariant-loop-i : goal.invariant-loop-i
invariant-loop-i l =
    (l.i-iterator.0 < 2 ^ 64) × (map_at (left_of l.w l.i-iterator.0 l.layer.words) (λ _. l.d) 0 l.distances ≡ map_at l.layer.words (λ _. l.d) 0 l.fn.distances)
