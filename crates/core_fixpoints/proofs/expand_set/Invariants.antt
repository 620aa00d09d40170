-- `expand_set`: what is found and recorded, with that of the states that are left, is the whole.
use Prim.Native.Nat.{◌+◌, ◌^◌, ◌<◌}
use lib.ListN.{get_or}
use lib.Seq.{sets}
use Rattle.model.specs.Sets.{max_states, image, members, size}
use Rattle.model.proofs.SetsImages.{Joining}
use Rattle.core_state_set.specs.WordSets.{left_of}
use Rattle.core_rows.specs.Rows.{row_in}
use Rattle.core_fixpoints.proofs.Expanding.{Recording}
use Rattle.core_fixpoints.proofs.expand_set.Given as goal

abbrev pub invariant-loop-w : goal.invariant-loop-w
invariant-loop-w l =
    let row = row_in l.steps.words.now in
    let left = left_of l.w (get_or l.x.words l.w 0) l.x.words in
    Joining row (image max_states row l.x.words) l.so_far.found.words left
    × Recording (sets l.fn.order l.fn.count (members l.x.words)) (l.fn.count + size l.x.words) left l.order l.so_far.count

abbrev pub invariant-loop-i : goal.invariant-loop-i
invariant-loop-i l =
    let row = row_in l.steps.words.now in
    let left = left_of l.w l.i-iterator.0 l.x.words in
    (l.i-iterator.0 < 2 ^ 64)
    × Joining row (image max_states row l.x.words) l.so_far.found.words left
    × Recording (sets l.fn.order l.fn.count (members l.x.words)) (l.fn.count + size l.x.words) left l.order l.so_far.count
