-- `narrow`: with the covers of the states that are left met with z, all are.
use Prim.Native.Nat.{◌^◌, ◌<◌}
use mathlib.Core.Path.{◌≡◌}
use mathlib.Core.List.{[]}
use lib.ListN.{get_or}
use Rattle.model.specs.Sets.{meet}
use Rattle.core_state_set.specs.WordSets.{left_of}
use Rattle.core_rows.specs.Rows.{map_at}
use Rattle.core_rounds.proofs.narrow.Given as goal

abbrev pub invariant-loop-w : goal.invariant-loop-w
invariant-loop-w l =
    map_at (left_of l.w (get_or l.z.words l.w 0) l.z.words) (λ row. meet row l.z.words) [] l.cover
    ≡ map_at l.z.words (λ row. meet row l.z.words) [] l.fn.cover

abbrev pub invariant-loop-i : goal.invariant-loop-i
invariant-loop-i l =
    (l.i-iterator.0 < 2 ^ 64)
    × (map_at (left_of l.w l.i-iterator.0 l.z.words) (λ row. meet row l.z.words) [] l.cover
    ≡ map_at l.z.words (λ row. meet row l.z.words) [] l.fn.cover)
