-- `word_below`: in each of its cases the exponent is the lesser of 64 and n - from.
use Prim.Native.Nat.{ℕ, ◌-◌, ◌^◌, ◌≤◌}
use native.Mathlib.Omega.{arith}
use mathlib.Core.Path.{◌≡◌, sym, ap, ◌∙◌, subst}
use lib.Pow.{pow_pos}
use Rattle.core_state_set.proofs.SetsBits.{one_shl}
use Rattle.core_state_set.proofs.word_below.Goals as goal

ones_at : (a k : ℕ) → a ≡ k → 2 ^ a - 1 ≡ 2 ^ k - 1
ones_at a k e = ap (λ (n : ℕ). 2 ^ n - 1) e

pub overflow_sub-result-then-n-from-lt-WORD_BITS : goal.overflow_sub-result-then-n-from-lt-WORD_BITS
overflow_sub-result-then-n-from-lt-WORD_BITS c = subst (λ (x : ℕ). 1 ≤ x) (sym (one_shl _ c.if-n-from-lt-WORD_BITS.true)) (pow_pos _)

pub returns-then-n-from : goal.returns-then-n-from
returns-then-n-from c = ones_at 0 _ (omega arith)

pub returns-then-n-from-lt-WORD_BITS : goal.returns-then-n-from-lt-WORD_BITS
returns-then-n-from-lt-WORD_BITS c = ap (λ (x : ℕ). x - 1) (one_shl _ c.if-n-from-lt-WORD_BITS.true) ∙ ones_at _ _ (omega arith)

pub returns-else-n-from-lt-WORD_BITS : goal.returns-else-n-from-lt-WORD_BITS
returns-else-n-from-lt-WORD_BITS c = ones_at 64 _ (omega arith)
