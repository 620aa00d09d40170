-- Laws of `decimal`: its digits are the last one after those of a tenth of the number, and few.
--
--   digits_fuel                     as many digits as there are, whatever more may be taken
--   decimal_one, decimal-more       a number below 10; from 10 on, and how long that is (decimal-long)
--   decimal-short                   a number below 10 ^ m has at most m digits
use Prim.Native.Nat.{ℕ, zero, suc, ◌+◌, ◌/◌, ◌%◌, ◌^◌, ◌≤◌, ◌<◌}
use native.Mathlib.Nat.{not-suc-le-zero, pow-suc}
use native.Mathlib.Omega.{arith}
use mathlib.Core.Path.{◌≡◌, refl, ap}
use mathlib.Core.Logic.{⊎_elim}
use mathlib.Core.List.{List, [], ◌∷◌, ◌++◌}
use borrow.Author.Tests.{lt-ltb, le-ltb}
use lib.ListN.{length, length-append}
use Rattle.basics.proofs.BoundLaws.{lt_or_ge}
use Rattle.core_report.specs.Text.{digit, digits, decimal}

digits_fuel : (f g n : ℕ) → n < f → n < g → digits f n ≡ digits g n
unfolding digits
digits_fuel zero g n h k = absurd (not-suc-le-zero h)
digits_fuel (suc f) zero n h k = absurd (not-suc-le-zero k)
digits_fuel (suc f) (suc g) n h k =
    ⊎_elim
    (λ (l : n < 10). rw (lt-ltb n 10 l) refl)
    (λ (l : 10 ≤ n). rw (le-ltb n 10 l) (ap (λ (xs : List ℕ). xs ++ (digit (n % 10) ∷ [])) (digits_fuel f g (n / 10) (omega arith) (omega arith))))
    (lt_or_ge n 10)

pub decimal_one : (n : ℕ) → n < 10 → decimal n ≡ digit n ∷ []
unfolding decimal digits
decimal_one n l = rw (lt-ltb n 10 l) refl

pub decimal-more : (n : ℕ) → 10 ≤ n → decimal n ≡ decimal (n / 10) ++ (digit (n % 10) ∷ [])
unfolding decimal digits
decimal-more n l =
    rw (le-ltb n 10 l) (ap (λ (xs : List ℕ). xs ++ (digit (n % 10) ∷ [])) (digits_fuel n (suc (n / 10)) (n / 10) (omega arith) (omega arith)))

pub decimal-long : (n : ℕ) → 10 ≤ n → length (decimal n) ≡ length (decimal (n / 10)) + 1
decimal-long n l = rw (decimal-more n l) (length-append (decimal (n / 10)) (digit (n % 10) ∷ []))

pub decimal-short : (m n : ℕ) → n < 10 ^ suc m → length (decimal n) ≤ suc m
decimal-short zero n h = rw (decimal_one n (omega arith)) (omega arith)
decimal-short (suc m) n h =
    ⊎_elim
    (λ (l : n < 10). rw (decimal_one n l) (omega arith))
    (λ (l : 10 ≤ n).
    rw (decimal-more n l)
    (omega (arith, length-append (decimal (n / 10)) (digit (n % 10) ∷ []), decimal-short m (n / 10) (omega (arith, pow-suc 10 (suc m))))))
    (lt_or_ge n 10)
