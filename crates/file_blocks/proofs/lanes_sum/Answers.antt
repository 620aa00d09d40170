-- `lanes_sum`: the sum of the lanes passed.
use native.Mathlib.Omega.{arith}
use borrow.Author.Rules.{rules}
use Rattle.file_blocks.specs.Lanes.{lanes, lane_most}
use Rattle.file_blocks.proofs.Summing.{sum_fits, sum_more, sum-end, lanes-none, lanes_next, lanes-most, lanes-fits, term_fits}
use Rattle.file_blocks.proofs.lanes_sum.Goals as goal

pub loop-l-init : goal.loop-l-init
loop-l-init c = record { within = search rules; is = lanes-none _ _; low = search rules }

pub overflow_mul-sum-in-loop-l : goal.overflow_mul-sum-in-loop-l
overflow_mul-sum-in-loop-l c = record { fits = term_fits lanes lane_most (search rules) (search rules) (omega arith) }

pub overflow_add-sum-in-loop-l : goal.overflow_add-sum-in-loop-l
overflow_add-sum-in-loop-l c = record { fits = lanes-fits (search rules) (search rules) (search rules) }

pub overflow_add-sum-in-loop-l-2 : goal.overflow_add-sum-in-loop-l-2
overflow_add-sum-in-loop-l-2 c = record { fits = sum_fits c.loop-l.invariant (search rules) (lanes-most (search rules) (search rules) (search rules)) (omega arith) }

pub loop-l-preserved : goal.loop-l-preserved
loop-l-preserved c = sum_more c.loop-l.invariant (search rules) (lanes-most (search rules) (search rules) (search rules)) (lanes_next _ _ _ (search rules) (search rules))

pub returns : goal.returns
returns c = (sum-end c.loop-l.invariant (search rules), search rules)
