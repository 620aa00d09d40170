-- Loops that sum terms in a word of 32 bits.
--
--   Summing s room most end sum i    before place i the sum is s i, which grows by at most `most` at each place, from at most `room`
--   sum_more, sum_fits, sum-end      a place more, and that its term can be added; when all places are passed
--   lanes-none, -next                the sum of two rows of lanes at first, and at the next lane; lanes-most, lanes-fits: a term of it
--   weighted-none, -next             likewise the weighted sum of bytes; term_most, term_fits: a term of it
--   check-next, sum-all              a sum that starts from the site: at the next place; of all of a block and reduced it is the check
use Prim.Native.Nat.{ℕ, ◌+◌, ◌*◌, ◌%◌, ◌^◌, ◌≤◌, ◌<◌}
use native.Mathlib.Nat.{le_antisymm, mul-le-mul, mul-le-mul_left, mul-add, mul-one}
use native.Mathlib.Numerals.{add-one}
use native.Mathlib.Omega.{arith}
use mathlib.Core.Path.{◌≡◌, refl, sym, ap, ◌∙◌}
use mathlib.Core.List.{List}
use lib.ListN.{get_or}
use Rattle.model.specs.Blocks.{check_at, modulus, weighted, check_of}
use Rattle.file_blocks.specs.Lanes.{lanes, lane_most, lanes_sum}

pub record Summing (s : ℕ → ℕ) (room most end sum i : ℕ) : Type 0 where
  pub within : i ≤ end
  pub is : sum ≡ s i
  pub low : sum ≤ room + most * i

module _ {s : ℕ → ℕ} {room most end sum i : ℕ} (so : Summing s room most end sum i) {x : ℕ} (h : i < end) (l : x ≤ most) where
  next : most * (i + 1) ≡ most * i + most
  next = mul-add most i 1 ∙ ap (λ (y : ℕ). most * i + y) (mul-one most)

  pub sum_fits : room + most * end < 2 ^ 32 → sum + x < 2 ^ 32
  sum_fits fits = let below : most * (i + 1) ≤ most * end = mul-le-mul_left most (omega arith) in omega (arith, next, below, so.low)

  pub sum_more : s (i + 1) ≡ s i + x → Summing s room most end (sum + x) (i + 1)
  sum_more e = record { within = omega arith; is = ap (λ (y : ℕ). y + x) so.is ∙ sym e; low = omega (arith, next, so.low) }

pub sum-end : {s : ℕ → ℕ} {room most end sum i : ℕ} → Summing s room most end sum i → end ≤ i → sum ≡ s end
sum-end {s} so h = so.is ∙ ap s (le_antisymm so.within h)

pub lanes-none : (sums turns : List ℕ) → 0 ≡ lanes_sum 0 sums turns 0
unfolding lanes_sum
lanes-none sums turns = refl

pub lanes_next : (sums turns : List ℕ) (l : ℕ) {x y : ℕ} → x ≡ get_or sums l 0 → y ≡ get_or turns l 0 → lanes_sum 0 sums turns (l + 1) ≡ lanes_sum 0 sums turns l + (lanes * y + (l + 1) * x)
unfolding lanes_sum
lanes_next sums turns l e f = ap (lanes_sum 0 sums turns) (add-one l) ∙ omega (arith, ap (λ (z : ℕ). (l + 1) * z) e)

pub weighted-none : (xs : List ℕ) → 0 ≡ weighted xs 0
unfolding weighted
weighted-none xs = refl

pub weighted-next : (xs : List ℕ) (i : ℕ) {x : ℕ} → x ≡ get_or xs i 0 → weighted xs (i + 1) ≡ weighted xs i + (i + 1) * x
unfolding weighted
weighted-next xs i e = ap (weighted xs) (add-one i) ∙ ap (λ (y : ℕ). weighted xs i + (i + 1) * y) (sym e)

pub check-next : (site : ℕ) (block : List ℕ) (i : ℕ) {x : ℕ} → x ≡ get_or block i 0 → site + weighted block (i + 1) ≡ site + weighted block i + (i + 1) * x
check-next site block i e = omega (arith, weighted-next block i e)

-- the term of place i
module _ (end most : ℕ) {i x : ℕ} (h : i < end) (l : x ≤ most) where
  pub term_most : (i + 1) * x ≤ end * most
  term_most = let place : i + 1 ≤ end = omega arith in mul-le-mul place l

  pub term_fits : end * most < 2 ^ 32 → (i + 1) * x < 2 ^ 32
  term_fits fits = omega (arith, term_most)

-- the term of lane i
module _ {i x y : ℕ} (h : i < lanes) (l : x ≤ lane_most) (m : y ≤ lanes * lane_most) where
  pub lanes-most : y + (i + 1) * x ≤ 2 * lanes * lane_most
  lanes-most = omega (arith, term_most lanes lane_most h l)

  pub lanes-fits : y + (i + 1) * x < 2 ^ 32
  lanes-fits = omega (arith, lanes-most)

pub sum-all : (site : ℕ) (block : List ℕ) {room most sum i : ℕ} → Summing (λ j. site + weighted block j) room most check_at sum i → check_at ≤ i
    → sum % modulus ≡ check_of site block
unfolding check_of
sum-all site block so h = ap (λ (x : ℕ). x % modulus) (sum-end so h)
