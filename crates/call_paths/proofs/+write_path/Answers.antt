-- `write_path`: one state of the walk, and by the call the rest of it.
use native.Mathlib.Numerals.{add-one}
use native.Mathlib.Omega.{arith}
use mathlib.Core.Path.{◌∙◌}
use lib.ListN.{length-set}
use Rattle.call_paths.proofs.PathsWritten.{walk_by_last, walk_by_step, writable_first, writable_rest}
use Rattle.call_paths.proofs.+write_path.Goals as goal

pub overflow_cast-path : goal.overflow_cast-path
overflow_cast-path t c = record { fits = omega (arith, writable_first _ _ _ _ _ c.requires) }

pub row-requires : goal.row-requires
row-requires t c = writable_first _ _ _ _ _ c.requires

pub write_path-requires : goal.write_path-requires
write_path-requires t c =
    let some = c.if-d-gt0.true in (
      omega arith,
      rw length-set (writable_rest _ _ _ _ _ c.requires c.row.ensures c.smallest_in_layer-next.ensures some),
    )

pub returns-then-d-gt0 : goal.returns-then-d-gt0
returns-then-d-gt0 t c =
    c.write_path.ensures ∙ rw (walk_by_step _ _ _ _ _ c.row.ensures c.smallest_in_layer-next.ensures c.if-d-gt0.true, add-one)

pub returns-else-d-gt0 : goal.returns-else-d-gt0
returns-else-d-gt0 t c = rw (walk_by_last _ _ _ _ _ c.if-d-gt0.false)
