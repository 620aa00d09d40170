-- Laws of the numbers that a buffer begins with.
--
--   front_long                                 so many are there
--   Starting, starting_none, -turn, -end       the first of them, fewer than long_lag, put there one after the other: before the first turn; a turn; all
--   sum_more                                   one more where there are as many
--   fewer                                      if it begins with some, it begins with fewer
use Rattle.std.proofs.Common.{◌≡◌, ℕ, zero, suc, ◌+◌, ◌-◌, ◌%◌, ◌^◌, ◌<◌, ◌≤◌, List, [], ◌∷◌, ◌++◌, length, get_or, take, set, sym, refl, ap, ◌∙◌, le_of_eq, add-zero, add-suc, add-one, add-sub_cancel, arith, length-append, take_all, get_or-take, take-take, take-suc-set, get_or-set_same, le-ltb, lt-ltb, ne_eqb}
use lib.Seq.{take-append-le}
use Rattle.call_generate.specs.Load.{long_lag, short_lag, increment, next_number, numbers}

length-numbers : (seed k : ℕ) → length (numbers seed k) ≡ k
unfolding numbers
length-numbers seed zero = refl
length-numbers seed (suc k) = length-append (numbers seed k) (next_number seed (numbers seed k) ∷ []) ∙ omega (arith, length-numbers seed k)

pub front_long : (seed k : ℕ) (buffer : List ℕ) → take k buffer ≡ numbers seed k → length (take k buffer) ≡ k
front_long seed k buffer so = ap length so ∙ length-numbers seed k

-- ---- one number more

module _ (seed k : ℕ) (buffer : List ℕ) (so : take k buffer ≡ numbers seed k) where
  more : {x : ℕ} → k < length buffer → x ≡ next_number seed (numbers seed k) → take (k + 1) (set buffer k x) ≡ numbers seed (k + 1)
  unfolding numbers
  more {x} h e = rw (add-one k, take-suc-set buffer k x h, so, e)

  -- a number that is there
  at : (j : ℕ) → j < k → get_or (numbers seed k) j 0 ≡ get_or buffer j 0
  at j l = ap (λ ys. get_or ys j 0) (sym so) ∙ get_or-take k buffer j 0 l

  start_next : 0 < k → k < long_lag → (get_or buffer (k - 1) 0 + increment) % 2 ^ 32 ≡ next_number seed (numbers seed k)
  unfolding next_number
  start_next some few = rw (length-numbers seed k, ne_eqb k 0 (λ z. omega arith), lt-ltb k long_lag few, at (k - 1) (omega arith))

  pub sum_more : {x : ℕ} → k < length buffer → long_lag ≤ k → x ≡ (get_or buffer (k - short_lag) 0 + get_or buffer (k - long_lag) 0) % 2 ^ 32
      → take (k + 1) (set buffer k x) ≡ numbers seed (k + 1)
  unfolding next_number
  sum_more h many e =
      more h
      (rw (length-numbers seed k, ne_eqb k 0 (λ z. omega arith), le-ltb k long_lag many, at (k - short_lag) (omega arith), at (k - long_lag) (omega arith)) e)

-- ---- the first numbers

pub record Starting (seed i next : ℕ) (buffer : List ℕ) : Type 0 where
  pub front : take i buffer ≡ numbers seed i
  pub follows : i < long_lag → next ≡ next_number seed (numbers seed i)

pub starting_none : (seed : ℕ) (buffer : List ℕ) → Starting seed 0 seed buffer
unfolding numbers next_number
starting_none seed buffer = record { front = refl; follows = λ h. refl }

pub starting_turn : (seed i next : ℕ) (buffer : List ℕ) → Starting seed i next buffer → i < length buffer → length buffer ≡ long_lag
    → {after : ℕ} → after ≡ (next + increment) % 2 ^ 32 → Starting seed (i + 1) after (set buffer i next)
starting_turn seed i next buffer so h long e =
    let front = more seed i buffer so.front h (so.follows (omega (arith, h, long))) in
    let last : get_or (set buffer i next) (i + 1 - 1) 0 ≡ next = rw (add-sub_cancel i 1, get_or-set_same buffer i next 0 h) in
    record { front = front; follows = λ l. e ∙ rw last at (start_next seed (i + 1) (set buffer i next) front (omega arith) l) }

-- ---- fewer

front : (seed k j : ℕ) → take k (numbers seed (k + j)) ≡ numbers seed k
unfolding numbers
front seed k zero = rw (add-zero k) (take_all k (numbers seed k) (le_of_eq (length-numbers seed k)))
front seed k (suc j) = rw (add-suc k j) (take-append-le k (numbers seed (k + j)) _ (omega (arith, length-numbers seed (k + j))) ∙ front seed k j)

pub fewer : (seed k m : ℕ) (buffer : List ℕ) → take m buffer ≡ numbers seed m → k ≤ m → take k buffer ≡ numbers seed k
fewer seed k m buffer so h =
    let rest : m ≡ k + (m - k) = omega arith in
    sym (take-take k m buffer h) ∙ ap (take k) (so ∙ ap (numbers seed) rest) ∙ front seed k (m - k)

pub starting_end : (seed i next : ℕ) (buffer rest : List ℕ) → Starting seed i next buffer → length buffer ≤ i → length buffer ≡ long_lag
    → take long_lag (buffer ++ rest) ≡ numbers seed long_lag
starting_end seed i next buffer rest so h long =
    take-append-le long_lag buffer rest (le_of_eq (sym long)) ∙ fewer seed long_lag i buffer so.front (omega (arith, h, long))
