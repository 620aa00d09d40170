-- The bits of a number after the operations of a machine word.
--
--   bit_of_and, bit_of_or            the bits of `&` and `|`, by one law over what acts on each digit apart
--   bit_not                    the bits of `!` at k digits
--   one_shl                    `1 << k` is a power of two
--   bit_zero, bit_power        the bits of 0, and of a power of two
--   ones-filter                `count_ones` is how many places have a bit
--   trailing_first             `trailing_zeros` is the first place that has one
--   first_bit                  there is one, unless the number is 0
--   bit_lowest                 `x & (x - 1)` has the bits of x but the lowest
use Prim.Native.Nat.{ℕ, zero, suc, ◌+◌, ◌-◌, ◌*◌, ◌/◌, ◌%◌, ◌^◌, ◌<◌}
use native.Mathlib.Nat.{not-suc-le-zero, le_of_suc-le-suc, pow-suc, div-one, zero-div, mod-one, mod-lt, add-zero, add-suc, one-mul}
use native.Mathlib.Numerals.{one-add}
use native.Mathlib.Omega.{arith}
use mathlib.Core.Path.{◌≡◌, refl, sym, ap, ◌∙◌}
use mathlib.Core.Logic.{◌⊎◌, inl, inr, ⊎_elim}
use borrow.Author.Tests.{eqb-true, eqb-false}
use mathlib.Core.Bool.{Bool, true, false, not, ◌&&◌, ◌||◌, cond}
use mathlib.Core.List.{[], ◌∷◌}
use lib.Dec.{eqb, eqb-zero-suc, eqb-suc-zero, eqb-suc-suc}
use lib.Pow.{pow_pos, mod-pow-add, shl_exact}
use lib.ListN.{length, length-append}
use lib.Bits.{bit_and, bit_or, and_shr, or_shr, and_mod, or_mod}
use lib.Count.{ones, ones_cat, under, count_trailing_zeros}
use Rattle.basics.specs.Bounds.{first, filter}
use Rattle.model.specs.Sets.{bit}
use Rattle.basics.proofs.BoundLaws.{decided, first-least, lt_or_ge, first_cong}
use Rattle.model.proofs.SetsMembers.{shift_bit, bits_eq}

-- what holds of 0 and of 1 holds of any digit
by_digit : (P : ℕ → Type 0) → P 0 → P 1 → (d : ℕ) → d < 2 → P d
by_digit P a b zero h = a
by_digit P a b (suc zero) h = b
by_digit P a b (suc (suc d)) h = absurd (omega arith)

-- ---- & and |

-- an operation that acts on the digits of its numbers apart, and on two digits as op does
bit_of : (f : ℕ → ℕ → ℕ) (op : Bool → Bool → Bool)
    → ((a b k : ℕ) → f a b / 2 ^ k ≡ f (a / 2 ^ k) (b / 2 ^ k)) → ((a b k : ℕ) → f a b % 2 ^ k ≡ f (a % 2 ^ k) (b % 2 ^ k))
    → eqb (f 0 0) 1 ≡ op false false → eqb (f 0 1) 1 ≡ op false true → eqb (f 1 0) 1 ≡ op true false → eqb (f 1 1) 1 ≡ op true true
    → (x y i : ℕ) → bit (f x y) i ≡ op (bit x i) (bit y i)
unfolding bit
bit_of f op shr low d₀₀ d₀₁ d₁₀ d₁₁ x y i =
    let b = y / 2 ^ i % 2 in
    let small : b < 2 = omega arith in
    ap (λ (n : ℕ). eqb n 1) (ap (λ (n : ℕ). n % 2) (shr x y i) ∙ low (x / 2 ^ i) (y / 2 ^ i) 1)
    ∙ by_digit (λ a. eqb (f a b) 1 ≡ op (eqb a 1) (eqb b 1))
    (by_digit (λ e. eqb (f 0 e) 1 ≡ op false (eqb e 1)) d₀₀ d₀₁ b small)
    (by_digit (λ e. eqb (f 1 e) 1 ≡ op true (eqb e 1)) d₁₀ d₁₁ b small)
    (x / 2 ^ i % 2) (omega arith)

pub bit_of_and : (x y i : ℕ) → bit (bit_and x y) i ≡ (bit x i && bit y i)
bit_of_and = bit_of bit_and ◌&&◌ and_shr and_mod refl refl refl refl

pub bit_of_or : (x y i : ℕ) → bit (bit_or x y) i ≡ (bit x i || bit y i)
bit_of_or = bit_of bit_or ◌||◌ or_shr or_mod refl refl refl refl

-- ---- !

pub bit_not : (k y i : ℕ) → y < 2 ^ k → i < k → bit ((2 ^ k - 1) - y) i ≡ not (bit y i)
unfolding bit
bit_not zero y i l h = absurd (not-suc-le-zero h)
bit_not (suc k) y zero l h =
    let lowest : (2 ^ suc k - 1 - y) / 1 % 2 ≡ 1 - y / 1 % 2 = omega (arith, pow-suc 2 k) in
    ap (λ (d : ℕ). eqb d 1) lowest ∙ by_digit (λ d. eqb (1 - d) 1 ≡ not (eqb d 1)) refl refl (y / 1 % 2) (omega arith)
bit_not (suc k) y (suc i) l h =
    shift_bit _ i
    ∙ ap (λ (x : ℕ). bit x i) (omega (arith, pow-suc 2 k))
    ∙ bit_not k (y / 2) i (omega (arith, pow-suc 2 k)) (le_of_suc-le-suc h)
    ∙ ap not (sym (shift_bit y i))

-- ---- <<

pub one_shl : (k : ℕ) → k < 64 → 1 * 2 ^ k % 2 ^ 64 ≡ 2 ^ k
one_shl k h = shl_exact 1 k 64 (omega arith) (omega arith) ∙ one-mul (2 ^ k)

pub bit_zero : (i : ℕ) → bit 0 i ≡ false
unfolding bit
bit_zero i = ap (λ (n : ℕ). eqb (n % 2) 1) (zero-div (2 ^ i))

pub bit_power : (k i : ℕ) → bit (2 ^ k) i ≡ eqb i k
unfolding bit
bit_power zero zero = refl
bit_power zero (suc i) = shift_bit 1 i ∙ bit_zero i ∙ sym (eqb-suc-zero i)
bit_power (suc k) zero =
    let even : 2 ^ suc k / 1 % 2 ≡ 0 = omega (arith, pow-suc 2 k) in
    ap (λ (d : ℕ). eqb d 1) even ∙ sym (eqb-zero-suc k)
bit_power (suc k) (suc i) =
    let half : 2 ^ suc k / 2 ≡ 2 ^ k = omega (arith, pow-suc 2 k) in
    shift_bit (2 ^ suc k) i ∙ ap (λ (x : ℕ). bit x i) half ∙ bit_power k i ∙ sym (eqb-suc-suc i k)

-- ---- counts

-- the numbers below from + k that pass are those below from, and the ones in a number that has the next k tests for bits
pub ones-filter : (p : ℕ → Bool) (from x k : ℕ) → ((i : ℕ) → i < k → bit x i ≡ p (from + i))
    → length (filter (from + k) p) ≡ length (filter from p) + ones (x % 2 ^ k)
unfolding filter bit ones
ones-filter p from x zero e = ap (λ (n : ℕ). length (filter n p)) (add-zero from) ∙ sym (ap (λ (n : ℕ). length (filter from p) + ones n) (mod-one x) ∙ add-zero _)
ones-filter p from x (suc k) e =
    let cut : ones (x % 2 ^ suc k) ≡ ones (x / 2 ^ k % 2) + ones (x % 2 ^ k) =
    ap (λ (m : ℕ). ones (x % 2 ^ m)) (sym (one-add k)) ∙ ap ones (mod-pow-add x 1 k) ∙ ones_cat k (x / 2 ^ k % 2) (x % 2 ^ k) (mod-lt x (pow_pos k)) in
    let last : length (cond (p (from + k)) ((from + k) ∷ []) []) ≡ ones (x / 2 ^ k % 2) =
    ap (λ b. length (cond b ((from + k) ∷ []) [])) (sym (e k (omega arith)))
    ∙ by_digit (λ d. length (cond (eqb d 1) ((from + k) ∷ []) []) ≡ ones d) refl refl (x / 2 ^ k % 2) (omega arith) in
    ap (λ (n : ℕ). length (filter n p)) (add-suc from k)
    ∙ length-append (filter (from + k) p) (cond (p (from + k)) ((from + k) ∷ []) [])
    ∙ omega (arith, ones-filter p from x k (λ i h. e i (omega arith)))

pub trailing_first : (k x : ℕ) → count_trailing_zeros k x ≡ first k (bit x)
unfolding count_trailing_zeros first bit
trailing_first zero x = refl
trailing_first (suc k) x =
    let rest = first k (λ i. bit x (suc i)) in
    ap (under (x % 2)) (trailing_first k (x / 2) ∙ first_cong (bit (x / 2)) (λ i. bit x (suc i)) k (λ i. sym (shift_bit x i)))
    ∙ by_digit (λ d. under d rest ≡ cond (eqb d 1) 0 (suc rest)) refl refl (x % 2) (omega arith)
    ∙ ap (λ (n : ℕ). cond (eqb (n % 2) 1) 0 (suc rest)) (sym (div-one x))

-- a number that is not 0 has such a place
pub first_bit : (k x : ℕ) → x < 2 ^ k → (x ≡ 0 → ⊥) → first k (bit x) < k
first_bit k x h some =
    ⊎_elim (λ l. l)
    (λ none. absurd (some (bits_eq k x 0 h (pow_pos k) (λ i l. first-least (bit x) k i (omega arith) ∙ sym (bit_zero i)))))
    (lt_or_ge (first k (bit x)) k)

-- ---- the lowest bit taken out

odd_or_even : (x : ℕ) → (x % 2 ≡ 1) ⊎ (x % 2 ≡ 0)
odd_or_even x = ⊎_elim (λ e. inl (eqb-true (x % 2) 1 e)) (λ e. inr (even (eqb-false (x % 2) 1 e))) (decided (eqb (x % 2) 1))
  where
    even : (x % 2 ≡ 1 → ⊥) → x % 2 ≡ 0
    even f = omega arith

bit_low : (y d : ℕ) → y % 2 ≡ d → bit y zero ≡ eqb d 1
unfolding bit
bit_low y d e = ap (λ (n : ℕ). eqb n 1) (ap (λ (n : ℕ). n % 2) (div-one y) ∙ e)

and_self_true : (a : Bool) → (a && a) ≡ (a && true)
and_self_true true = refl
and_self_true false = refl

trailing_odd : (k x : ℕ) → x % 2 ≡ 1 → count_trailing_zeros (suc k) x ≡ 0
unfolding count_trailing_zeros
trailing_odd k x e = ap (λ (d : ℕ). under d (count_trailing_zeros k (x / 2))) e

trailing_even : (k x : ℕ) → x % 2 ≡ 0 → count_trailing_zeros (suc k) x ≡ suc (count_trailing_zeros k (x / 2))
unfolding count_trailing_zeros
trailing_even k x e = ap (λ (d : ℕ). under d (count_trailing_zeros k (x / 2))) e

-- of the bits of x, x − 1 has all but the lowest
lowest_out : (k x i : ℕ) → 0 < x → x < 2 ^ k → (bit x i && bit (x - 1) i) ≡ (bit x i && not (eqb i (count_trailing_zeros k x)))
lowest_out zero x i h l = absurd (omega arith)
lowest_out (suc k) x zero h l =
    ⊎_elim
    (λ odd. rw (bit_low x 1 odd, bit_low (x - 1) 0 (omega arith), trailing_odd k x odd))
    (λ even. rw (bit_low x 0 even))
    (odd_or_even x)
lowest_out (suc k) x (suc i) h l =
    ⊎_elim
    (λ odd.
    let same : (x - 1) / 2 ≡ x / 2 = omega arith in
    rw (shift_bit x i, shift_bit (x - 1) i, same, trailing_odd k x odd, eqb-suc-zero i) (and_self_true (bit (x / 2) i)))
    (λ even.
    let half : (x - 1) / 2 ≡ x / 2 - 1 = omega arith in
    let some : 0 < x / 2 = omega arith in
    let small : x / 2 < 2 ^ k = omega (arith, pow-suc 2 k) in
    rw (shift_bit x i, shift_bit (x - 1) i, half, trailing_even k x even, eqb-suc-suc i (count_trailing_zeros k (x / 2)))
    (lowest_out k (x / 2) i some small))
    (odd_or_even x)

pub bit_lowest : (x i : ℕ) → 0 < x → x < 2 ^ 64 → bit (bit_and x (x - 1)) i ≡ (bit x i && not (eqb i (count_trailing_zeros 64 x)))
bit_lowest x i h l = bit_of_and x (x - 1) i ∙ lowest_out 64 x i h l
