-- `put_rows`: the rows passed stand in their places.
use Rattle.std.proofs.Common.{refl, arith, length-drop, length-take, rules}
use Rattle.core_table.proofs.StoresFilled.{filling_none, filling_more, filling_all}
use Rattle.call_generate.proofs.RowsGenerated.{numbers_inside, row_put}
use Rattle.call_generate.proofs.put_rows.Goals as goal

pub loop-s-init : goal.loop-s-init
loop-s-init c = (search rules, filling_none _ _ _)

pub overflow_mul-from : goal.overflow_mul-from
overflow_mul-from c = omega (arith, numbers_inside c.args.n c.args.f c.loop-s.s c.requires.2 c.loop-s-test.true)

pub overflow_add-from : goal.overflow_add-from
overflow_add-from c = omega (arith, numbers_inside c.args.n c.args.f c.loop-s.s c.requires.2 c.loop-s-test.true)

pub overflow_add-end : goal.overflow_add-end
overflow_add-end c = omega (arith, numbers_inside c.args.n c.args.f c.loop-s.s c.requires.2 c.loop-s-test.true)

pub offset_bounds-numbers-from : goal.offset_bounds-numbers-from
offset_bounds-numbers-from c = omega (arith, numbers_inside c.args.n c.args.f c.loop-s.s c.requires.2 c.loop-s-test.true)

pub slice_bounds-put_remainders-end : goal.slice_bounds-put_remainders-end
slice_bounds-put_remainders-end c = omega (arith, numbers_inside c.args.n c.args.f c.loop-s.s c.requires.2 c.loop-s-test.true)

pub put_remainders-requires : goal.put_remainders-requires
put_remainders-requires c = simp (length-take, length-drop) (omega arith)

pub loop-s-preserved : goal.loop-s-preserved
loop-s-preserved c = (
  search rules,
  filling_more _ _ _ _ _ c.loop-s.invariant.1 _ (search rules) (row_put _ _ _ _ _ _ refl (rw c.of-divisor.ensures at c.put_remainders.ensures)),
)

pub returns : goal.returns
returns c = filling_all _ _ _ _ _ c.loop-s.invariant.1 _ (search rules) (search rules)
