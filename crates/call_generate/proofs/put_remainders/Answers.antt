-- `put_remainders`: the numbers passed, each modulo n, are in the row.
use Rattle.std.proofs.Common.{◌∙◌, arith, rules}
use Rattle.call_generate.proofs.RowsGenerated.{remainder-state, reducing_none, reducing_more, reducing_all}
use Rattle.call_generate.proofs.put_remainders.Goals as goal

pub loop-x-init : goal.loop-x-init
loop-x-init c = (search rules, reducing_none _ _ _ _ _ (search rules) c.empty.ensures c.put_set.ensures)

pub offset_bounds-row-t : goal.offset_bounds-row-t
offset_bounds-row-t c = record { fits = omega (arith, remainder-state c.args.divisor _ c.narrow-t.ensures c.remainder.ensures) }

pub bounds-row-t : goal.bounds-row-t
bounds-row-t c = omega (arith, remainder-state c.args.divisor _ c.narrow-t.ensures c.remainder.ensures)

pub bounds-row-t-in-loop-x : goal.bounds-row-t-in-loop-x
bounds-row-t-in-loop-x c = omega (arith, remainder-state c.args.divisor _ c.narrow-t.ensures c.remainder.ensures)

pub loop-x-preserved : goal.loop-x-preserved
loop-x-preserved c =
    let state = remainder-state c.args.divisor _ c.narrow-t.ensures c.remainder.ensures in
    (search rules, reducing_more _ _ c.loop-x.invariant.1 (search rules) (c.narrow-t.ensures ∙ c.remainder.ensures) state)

pub shape_of-row : goal.shape_of-row
shape_of-row c = c.loop-x.invariant.1.long ∙ c.put_set.auto.store

pub returns : goal.returns
returns c = reducing_all _ _ _ _ _ (search rules) c.empty.ensures c.put_set.ensures c.loop-x.invariant.1 (search rules) (search rules)
