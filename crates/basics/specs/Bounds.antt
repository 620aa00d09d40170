-- Tests over the numbers below a bound, and lists made from them.
--
--   any n p, all n p     some number below n passes p; each does
--   first n p            the least that passes, or n if none does (bounded search)
--   filter n p           those that pass, rising
--   tabulate n f         the list f 0, f 1, .., f (n − 1)
--   concat n f           the lists f 0, f 1, .., f (n − 1), one after the other
use Rattle.std.specs.Prelude.{ℕ, zero, suc, Bool, true, false, cond, ◌&&◌, ◌||◌, List, [], ◌∷◌, ◌++◌}

unfoldable pub any : ℕ → (ℕ → Bool) → Bool
any zero p = false
any (suc n) p = any n p || p n

unfoldable pub all : ℕ → (ℕ → Bool) → Bool
all zero p = true
all (suc n) p = all n p && p n

unfoldable pub first : ℕ → (ℕ → Bool) → ℕ
first zero p = zero
first (suc n) p = cond (p zero) zero (suc (first n (λ k. p (suc k))))

unfoldable pub filter : ℕ → (ℕ → Bool) → List ℕ
filter zero p = []
filter (suc n) p = filter n p ++ cond (p n) (n ∷ []) []

unfoldable pub tabulate : {A : Type 0} → ℕ → (ℕ → A) → List A
tabulate zero f = []
tabulate (suc n) f = tabulate n f ++ (f n ∷ [])

unfoldable pub concat : {A : Type 0} → ℕ → (ℕ → List A) → List A
concat zero f = []
concat (suc n) f = concat n f ++ f n
