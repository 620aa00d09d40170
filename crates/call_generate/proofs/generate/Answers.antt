-- `generate`: the store is filled where nothing is refused.
use Rattle.std.proofs.Common.{sym, le_of_eq, arith}
use Rattle.core_refusals.proofs.RefusalsPassed.{passed_on}
use Rattle.call_generate.proofs.Numbers.{front_long}
use Rattle.call_generate.proofs.GenerateAnswered.{accepted-load, refused_load, filled_load}
use Rattle.call_generate.proofs.generate.Goals as goal

pub returns-in_err-accept_load : goal.returns-in_err-accept_load
returns-in_err-accept_load c = rw (passed_on _ c.from_residual.ensures.1) (refused_load _ _ _ _ _ c.in_err-accept_load.ensures)

pub overflow_mul-count : goal.overflow_mul-count
overflow_mul-count c = omega (arith, (accepted-load _ _ _ c.in_ok-accept_load.ensures).most)

pub overflow_add-count : goal.overflow_add-count
overflow_add-count c = omega (arith, (accepted-load _ _ _ c.in_ok-accept_load.ensures).most)

pub put_numbers-requires : goal.put_numbers-requires
put_numbers-requires c = omega (arith, (accepted-load _ _ _ c.in_ok-accept_load.ensures).most)

pub slice_bounds-numbers-end : goal.slice_bounds-numbers-end
slice_bounds-numbers-end c = omega (arith, (accepted-load _ _ _ c.in_ok-accept_load.ensures).most)

pub slice_bounds-fill-end : goal.slice_bounds-fill-end
slice_bounds-fill-end c = sym (front_long _ _ _ c.put_numbers.ensures)

pub fill-requires : goal.fill-requires
fill-requires c =
    let held = accepted-load _ _ _ c.in_ok-accept_load.ensures in
    (held.some, held.small, le_of_eq (sym (front_long _ _ _ c.put_numbers.ensures)), held.long)

pub returns : goal.returns
returns c = filled_load _ _ _ _ c.in_ok-accept_load.ensures _ _ c.put_numbers.ensures c.fill.ensures
