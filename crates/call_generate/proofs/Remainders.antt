-- The remainder by a multiplication: the quotient that an inverse gives is at most one too small.
--
--   product_fits              what is multiplied fits a word
--   taken                     the multiple of n that is taken off x
--   left_is, left-over        what is left is the remainder, or n more
use Rattle.std.proofs.Common.{◌≡◌, ℕ, ◌+◌, ◌-◌, ◌*◌, ◌/◌, ◌%◌, ◌^◌, ◌<◌, ◌≤◌, sym, ap, ◌∙◌, mul-le-mul_right, mod-lt, mod-eq_of_lt, mul_assoc, mul_comm, add-mul, mul-le-mul, mul-le-mul_left, mul-add, div-le_self, mul_right_comm, arith}
use native.Mathlib.Nat.{mod-eq-sub-mod, div-add-mod, mul-add-mod_self_right}

module _ {x n inverse : ℕ} (l : x < 2 ^ 32) (h : 0 < n) (i : inverse ≡ 2 ^ 32 / n) where
  abbrev quotient : ℕ
  quotient = x * inverse / 2 ^ 32

  pub product_fits : x * inverse < 2 ^ 64
  product_fits =
      let small : inverse ≤ 2 ^ 32 = omega (arith, i, div-le_self (2 ^ 32) n) in
      let low : x ≤ 2 ^ 32 - 1 = omega arith in
      let most : x * inverse ≤ (2 ^ 32 - 1) * 2 ^ 32 = mul-le-mul low small in
      omega (arith, most)

  whole : inverse * n + 2 ^ 32 % n ≡ 2 ^ 32
  whole = ap (λ (m : ℕ). m + 2 ^ 32 % n) (mul_comm inverse n) ∙ ap (λ (m : ℕ). n * m + 2 ^ 32 % n) i ∙ div-add-mod (2 ^ 32) n

  pub taken : quotient * n ≤ x
  taken =
      let product : quotient * 2 ^ 32 ≤ x * inverse = omega arith in
      let inside : inverse * n ≤ 2 ^ 32 = omega (arith, whole) in
      omega (arith, mul-le-mul_right n product, mul-le-mul_left x inside, mul_right_comm quotient (2 ^ 32) n, mul_assoc x inverse n)

  left_low : x < quotient * n + 2 * n
  left_low =
      let product : x * inverse ≤ quotient * 2 ^ 32 + (2 ^ 32 - 1) = omega arith in
      let next : 2 ^ 32 ≤ inverse * n + n = omega (arith, whole, mod-lt (2 ^ 32) h) in
      let most : x * n ≤ (2 ^ 32 - 1) * n = mul-le-mul_right n (omega arith) in
      omega
      (arith, most, mul-le-mul_right n product, add-mul (quotient * 2 ^ 32) (2 ^ 32 - 1) n, mul_right_comm quotient (2 ^ 32) n, mul-le-mul_left x next, mul-add x (inverse * n) n, mul_assoc x inverse n)

  remainder_is : (x - quotient * n) % n ≡ x % n
  remainder_is =
      sym (mul-add-mod_self_right quotient n (x - quotient * n)) ∙ ap (λ (m : ℕ). m % n) (omega (arith, taken))

  pub left_is : x - quotient * n < n → x - quotient * n ≡ x % n
  left_is k = sym (mod-eq_of_lt k) ∙ remainder_is

  pub left_over : n ≤ x - quotient * n → x - quotient * n - n ≡ x % n
  left_over k = sym (mod-eq_of_lt (omega (arith, left_low, taken))) ∙ sym (mod-eq-sub-mod k) ∙ remainder_is
