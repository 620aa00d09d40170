-- `fill_sets`: the sets passed stand in their places.
use native.Mathlib.Omega.{arith}
use mathlib.Core.Path.{◌∙◌}
use borrow.Author.Rules.{rules}
use lib.ListN.{length-take, length-drop}
use Rattle.file_blocks.proofs.ContentsLength.{sets_fit, contents_fit}
use Rattle.core_table.proofs.ListsOverwritten.{parts_none, parts_all}
use Rattle.file_contents_reading.proofs.ContentsWords.{set_inside}
use Rattle.file_contents_reading.proofs.StoresRead.{part-set, part_unused}
use Rattle.file_contents_reading.proofs.fill_sets.Goals as goal
use Rattle.file_contents_reading.proofs.fill_sets.Goals.{then-k-count, else-k-count}

pub loop-k-init : goal.loop-k-init
loop-k-init c = (search rules, parts_none _ _)

pub overflow_mul-width-then-k-count : goal.overflow_mul-width-then-k-count
overflow_mul-width-then-k-count c = record { fits = sets_fit (search rules) (search rules) }

pub overflow_add-width : goal.overflow_add-width
overflow_add-width c = record { fits = contents_fit (search rules) (search rules) }

pub fill_set-requires : goal.fill_set-requires
fill_set-requires c = (set_inside (search rules) c.set_width-width.ensures (search rules) (search rules), simp (length-take, length-drop) (omega arith))

pub loop-k-preserved : goal.loop-k-preserved
loop-k-preserved c = (
  search rules,
  elim c.if-k-count.branch [
    | then-k-count w ↦ part-set _ _ _ _ _ c.loop-k.invariant.1 (search rules) w.if-k-count.true c.set_width-width.ensures c.first_states-own.ensures w.fill_set.ensures w.part-is
    | else-k-count w ↦ part_unused _ _ _ _ _ c.loop-k.invariant.1 (search rules) w.if-k-count.false w.empty.ensures (w.part-is ∙ w.put_set.ensures)
  ],
)

pub returns : goal.returns
returns c = parts_all _ _ _ _ _ (search rules) (search rules) c.loop-k.invariant.1
