-- `join_sets`: the sets passed are joined.
use native.Mathlib.Omega.{arith}
use borrow.Author.Rules.{rules}
use lib.ListN.{length-take, length-drop}
use Rattle.core_table.proofs.ListsOverwritten.{parts_none}
use Rattle.file_blocks.proofs.ContentsLength.{sets_fit}
use Rattle.file_contents_writing.proofs.ContentsJoined.{sets_more, sets-all, set_room}
use Rattle.file_contents_writing.proofs.join_sets.Goals as goal

pub loop-k-init : goal.loop-k-init
loop-k-init c = (search rules, parts_none _ _)

pub overflow_mul-at : goal.overflow_mul-at
overflow_mul-at c = record { fits = sets_fit (search rules) (search rules) }

pub slice_bounds-put_set_bytes-count-in-loop-k : goal.slice_bounds-put_set_bytes-count-in-loop-k
slice_bounds-put_set_bytes-count-in-loop-k c = omega (arith, set_room _ _ c.loop-k.k c.set_width-width.ensures c.requires (search rules), c.loop-k.invariant.1.long)

pub slice_bounds-put_set_bytes-start-in-loop-k : goal.slice_bounds-put_set_bytes-start-in-loop-k
slice_bounds-put_set_bytes-start-in-loop-k c = omega (arith, set_room _ _ c.loop-k.k c.set_width-width.ensures c.requires (search rules), c.loop-k.invariant.1.long)

pub put_set_bytes-requires : goal.put_set_bytes-requires
put_set_bytes-requires c = (
  simp (length-take, length-drop) (omega arith),
  search rules,
  simp (length-take, length-drop) (omega (arith, set_room _ _ c.loop-k.k c.set_width-width.ensures c.requires (search rules), c.loop-k.invariant.1.long)),
)

pub loop-k-preserved : goal.loop-k-preserved
loop-k-preserved c = (search rules, sets_more _ _ _ _ _ _ _ c.place_of-a.ensures.0 c.loop-k.invariant.1 c.put_set_bytes.ensures (search rules))

pub returns : goal.returns
returns c = sets-all _ _ _ _ _ _ _ c.set_width-width.ensures (search rules) (search rules) c.loop-k.invariant.1
