-- `Divisor::remainder`: what the quotient leaves, or n less.
use Rattle.std.proofs.Common.{ℕ, ◌%◌, ap, ◌∙◌, arith, rules}
use Rattle.call_generate.proofs.Remainders.{product_fits, taken, left_is, left_over}
use Rattle.call_generate.proofs.Divisor.remainder.Goals as goal

pub overflow_mul-quotient : goal.overflow_mul-quotient
overflow_mul-quotient c = record { fits = product_fits (search rules) c.args.self.some c.args.self.inverted }

pub overflow_mul-rest : goal.overflow_mul-rest
overflow_mul-rest c = omega (arith, taken {x = c.from-x.result} (search rules) c.args.self.some c.args.self.inverted)

pub overflow_sub-rest : goal.overflow_sub-rest
overflow_sub-rest c = taken (search rules) c.args.self.some c.args.self.inverted

pub returns-then-rest-self : goal.returns-then-rest-self
returns-then-rest-self c = left_is (search rules) c.args.self.some c.args.self.inverted (search rules) ∙ ap (λ (x : ℕ). x % c.args.self.n) c.from-x.ensures

pub returns-else-rest-self : goal.returns-else-rest-self
returns-else-rest-self c = left_over (search rules) c.args.self.some c.args.self.inverted (search rules) ∙ ap (λ (x : ℕ). x % c.args.self.n) c.from-x.ensures
