-- `join_rows`: what is found, with the image of the states that are left, is the whole.
use Prim.Native.Nat.{◌^◌, ◌<◌}
use lib.ListN.{get_or}
use Rattle.model.specs.Sets.{max_states, image}
use Rattle.model.proofs.SetsImages.{Joining}
use Rattle.core_state_set.specs.WordSets.{left_of}
use Rattle.core_rows.proofs.join_rows.Given as goal

abbrev pub invariant-loop-w : goal.invariant-loop-w
invariant-loop-w g l =
    let row = g.R.Relation.row_in l.rows in
    Joining row (image max_states row l.x.words) l.found.words (left_of l.w (get_or l.x.words l.w 0) l.x.words)

abbrev pub invariant-loop-i : goal.invariant-loop-i
invariant-loop-i g l =
    let row = g.R.Relation.row_in l.rows in
    (l.i-iterator.0 < 2 ^ 64) × Joining row (image max_states row l.x.words) l.found.words (left_of l.w l.i-iterator.0 l.x.words)
