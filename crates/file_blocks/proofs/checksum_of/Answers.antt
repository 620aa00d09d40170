-- `checksum_of`: the weighted sum of the bytes passed.
use Prim.Native.Nat.{ℕ, ◌+◌}
use native.Mathlib.Omega.{arith}
use mathlib.Core.Path.{ap}
use borrow.Author.Rules.{rules}
use Rattle.model.specs.Blocks.{check_at}
use Rattle.file_blocks.specs.Lanes.{byte_most}
use Rattle.file_blocks.proofs.Summing.{sum_fits, sum_more, sum-all, check-next, term_most, term_fits}
use Rattle.file_blocks.proofs.checksum_of.Goals as goal

pub loop-i-init : goal.loop-i-init
loop-i-init c = record { within = omega arith; is = ap (λ (x : ℕ). c.args.site.number + x) c.whole_chunks.ensures.0; low = search rules }

pub overflow_mul-sum : goal.overflow_mul-sum
overflow_mul-sum c = record { fits = term_fits check_at byte_most (search rules) (search rules) (omega arith) }

pub overflow_add-sum-in-loop-i-2 : goal.overflow_add-sum-in-loop-i-2
overflow_add-sum-in-loop-i-2 c = record { fits = sum_fits c.loop-i.invariant (search rules) (term_most check_at byte_most (search rules) (search rules)) (omega arith) }

pub loop-i-preserved : goal.loop-i-preserved
loop-i-preserved c = sum_more c.loop-i.invariant (search rules) (term_most check_at byte_most (search rules) (search rules)) (check-next _ _ _ (search rules))

pub returns : goal.returns
returns c = sum-all _ _ c.loop-i.invariant (search rules)
