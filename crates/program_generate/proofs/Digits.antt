-- Laws of words that are read as numbers.
--
--   Reading w i value            the first i bytes of w are digits, and say `value`: a loop that reads a number
--   reading_none, -more, -all    before its first turn; a turn; when it is done
--   no_word, not_digit           a word of no bytes, and one with a byte that is no digit, is no number
use Prim.Native.Nat.{ℕ, ◌+◌, ◌*◌, ◌-◌, ◌≤◌, ◌<◌, min}
use native.Mathlib.Nat.{le_antisymm, min-zero, min-le_left, min-eq_left, min-eq_right}
use native.Mathlib.Numerals.{add-one}
use native.Mathlib.Omega.{arith}
use mathlib.Core.Path.{◌≡◌, refl, sym, ◌∙◌}
use mathlib.Core.Logic.{◌⊎◌, ⊎_elim}
use mathlib.Core.Bool.{Bool, true, false, not, and-false}
use mathlib.Core.List.{List}
use borrow.Author.Tests.{le-leb, lt-leb, eq-eqb, ne_eqb}
use lib.Dec.{eqb, leb}
use lib.ListN.{length, get_or}
use Rattle.basics.specs.Bounds.{all}
use Rattle.basics.proofs.BoundLaws.{is_false, clash, lt_or_ge, all_at}
use Rattle.std.specs.Prelude.{Some, None}
use Rattle.program_generate.specs.Words.{is_digit, is_number, value_of, limit, word_of}

-- ---- digits

no_digit : (b : ℕ) → (b < 48) ⊎ (57 < b) → is_digit b ≡ false
unfolding is_digit
no_digit b h = ⊎_elim (λ l. rw (lt-leb 48 b l)) (λ l. rw (lt-leb b 57 l, and-false (leb 48 b))) h

-- a number taken for the limit, and gone on with, is the whole number taken for it
saturated : (v d : ℕ) → min limit (10 * min limit v + d) ≡ min limit (10 * v + d)
saturated v d =
    let most : (x : ℕ) → limit ≤ x → min limit x ≡ limit = λ x h. min-eq_left {n = limit} {m = x} h in
    ⊎_elim (λ l. rw (min-eq_right {n = v} {m = limit} (omega arith)))
    (λ l. rw (most v l, most (10 * limit + d) (omega arith), most (10 * v + d) (omega arith))) (lt_or_ge v limit)

-- ---- words

module _ (w : List ℕ) where
  abbrev digits : ℕ → Bool
  digits i = all i (λ k. is_digit (get_or w k 0))

  -- what is no number
  other : is_number w ≡ false → None ≡ word_of w
  unfolding word_of
  other e = sym (rw e)

  pub no_word : length w ≡ 0 → None ≡ word_of w
  unfolding is_number
  no_word e = other (rw (eq-eqb (length w) 0 e))

  pub not_digit : (i : ℕ) → i < length w → (get_or w i 0 < 48) ⊎ (57 < get_or w i 0) → None ≡ word_of w
  unfolding is_number
  not_digit i h d =
      let none = is_false (digits (length w)) (λ e. clash (all_at _ (length w) e i h) (no_digit (get_or w i 0) d)) in
      other (rw (none, and-false (not (eqb (length w) 0))))

  pub record Reading (i value : ℕ) : Type 0 where
    pub within : i ≤ length w
    pub small : value ≤ limit
    pub read : digits i ≡ true
    pub is : value ≡ min limit (value_of w i)

  pub reading_none : Reading 0 0
  unfolding all value_of
  reading_none = record { within = omega arith; small = omega arith; read = refl; is = sym (min-zero limit) }

  module _ (i value : ℕ) (so : Reading i value) where
    pub reading_more : (d next : ℕ) → i < length w → 48 ≤ get_or w i 0 → get_or w i 0 ≤ 57 → d ≡ get_or w i 0 - 48 → next ≡ min limit (10 * value + d)
        → Reading (i + 1) next
    unfolding all is_digit value_of
    reading_more d next h low high e f =
        let more : value_of w (i + 1) ≡ 10 * value_of w i + d = rw (add-one i, e) in
        let is : next ≡ min limit (value_of w (i + 1)) = f ∙ rw (so.is, more) (saturated (value_of w i) d) in
        record {
          within = omega arith;
          small = omega (arith, is, min-le_left limit (value_of w (i + 1)));
          read = rw (add-one i, so.read, le-leb 48 (get_or w i 0) low, le-leb (get_or w i 0) 57 high);
          is = is;
        }

    pub reading_all : length w ≤ i → (length w ≡ 0 → ⊥) → Some value ≡ word_of w
    unfolding is_number word_of
    reading_all h some =
        let all_of : i ≡ length w = le_antisymm so.within h in
        let number : is_number w ≡ true = rw (ne_eqb (length w) 0 some, ← all_of, so.read) in
        sym (rw (number, ← all_of, ← so.is))
