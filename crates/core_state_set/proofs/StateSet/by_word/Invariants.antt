-- `StateSet::by_word`: the words passed are the function's, the others still those of self.
use Prim.Native.Nat.{ℕ, ◌≤◌, ◌<◌}
use mathlib.Core.Path.{◌≡◌}
use lib.ListN.{get_or}
use Rattle.core_state_set.proofs.StateSet.by_word.Given as goal

abbrev pub invariant-loop-w : goal.invariant-loop-w
invariant-loop-w g l =
    ((v : ℕ) → v < l.w → goal.F-post g l.f (get_or l.fn.self.words v 0) (get_or l.other.words v 0) (get_or l.x-items v 0))
    × ((v : ℕ) → l.w ≤ v → get_or l.x-items v 0 ≡ get_or l.fn.self.words v 0)
