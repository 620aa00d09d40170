-- Loops that go through a set word by word, and through the bits of a word from the lowest up.
--
--   in_word_set, word_set_in          membership in the states of a word
--   word_lowest, word_rest          the lowest bit of a word that is not 0 is a state of it; without it, `x & (x - 1)` is left
--   word_least                      it is the least state
--   word_less                       which is a smaller number
--   word_member                     a state by its word and its place there
--   smallest_word, smallest-none    the lowest bit of the first word that is not 0 is the least state; there is none where all are 0
use Prim.Native.Nat.{ℕ, ◌+◌, ◌-◌, ◌*◌, ◌/◌, ◌%◌, ◌^◌, ◌≤◌, ◌<◌}
use native.Mathlib.Omega.{arith}
use mathlib.Core.Path.{◌≡◌, sym, ap, ◌∙◌, subst}
use mathlib.Core.Logic.{⊎_elim}
use mathlib.Core.Bool.{true, false, not}
use borrow.Author.Tests.{eqb-true, eqb-false, eq-eqb, ne_eqb}
use lib.Dec.{eqb}
use lib.Bits.{bit_and, and_le_r}
use lib.Count.{count_trailing_zeros}
use lib.ListN.{get_or}
use Rattle.model.specs.Sets.{WORDS, max_states, Set, bit, member, single, difference, smallest}
use Rattle.basics.proofs.BoundLaws.{and_true, and_intro, not_true, is_false, clash, first_passes, first-before, first-is, first-none, lt_or_ge}
use Rattle.model.proofs.SetsMembers.{Proper, set_of_proper, In, in_bound, in_set_of, set_of_in, in_single, single_in, in_difference, difference_in, member_at, same_set}
use Rattle.core_state_set.specs.WordSets.{word_set}
use Rattle.core_state_set.proofs.SetsBits.{bit_zero, trailing_first, first_bit, bit_lowest}

-- ---- the states of a word

pub in_word_set : (w x : ℕ) {s : ℕ} → s < max_states → s / 64 ≡ w → bit x (s % 64) ≡ true → In (word_set w x) s
unfolding word_set
in_word_set w x {s} h e b = in_set_of _ h (and_intro (eqb (s / 64) w) (bit x (s % 64)) (eq-eqb (s / 64) w e) b)

pub word_set_in : (w x : ℕ) {s : ℕ} → In (word_set w x) s → (s / 64 ≡ w) × (bit x (s % 64) ≡ true)
unfolding word_set
word_set_in w x {s} h =
    let both = and_true (eqb (s / 64) w) (bit x (s % 64)) (set_of_in _ h) in
    (eqb-true (s / 64) w both.0, both.1)

module _ (w x : ℕ) (word : w < WORDS) (fits : x < 2 ^ 64) (some : x ≡ 0 → ⊥) where
  pub low_lt : count_trailing_zeros 64 x < 64
  low_lt = subst (λ (k : ℕ). k < 64) (sym (trailing_first 64 x)) (first_bit 64 x fits some)

  pub word_lowest : In (word_set w x) (64 * w + count_trailing_zeros 64 x)
  word_lowest =
      let l = low_lt in
      let place : (64 * w + count_trailing_zeros 64 x) % 64 ≡ count_trailing_zeros 64 x = omega arith in
      in_word_set w x (omega arith) (omega arith)
      (ap (bit x) (place ∙ trailing_first 64 x) ∙ first_passes (bit x) 64 (first_bit 64 x fits some))

  pub word_least : {s : ℕ} → In (word_set w x) s → 64 * w + count_trailing_zeros 64 x ≤ s
  word_least {s} h =
      let at = word_set_in w x h in
      omega (arith, at.0, first-before (bit x) 64 (s % 64) at.1, trailing_first 64 x)

  pub word_rest : word_set w (bit_and x (x - 1)) ≡ difference (word_set w x) (single (64 * w + count_trailing_zeros 64 x))
  unfolding word_set difference
  word_rest =
      same_set _ _ (set_of_proper _) (set_of_proper _)
      (λ s h.
      let at = word_set_in w (bit_and x (x - 1)) h in
      let both = and_true (bit x (s % 64)) _ (sym (bit_lowest x (s % 64) (omega arith) fits) ∙ at.1) in
      in_difference (in_word_set w x (in_bound h) at.0 both.0) (λ k. apart s at.0 (single_in k) (not_true _ both.1)))
      (λ s h.
      let parts = difference_in h in
      let at = word_set_in w x parts.0 in
      in_word_set w (bit_and x (x - 1)) (in_bound h) at.0
      (bit_lowest x (s % 64) (omega arith) fits
      ∙ and_intro (bit x (s % 64)) _ at.1 (ap not (ne_eqb (s % 64) (count_trailing_zeros 64 x) (λ e. parts.1 (is_low s (in_bound h) at.0 e))))))
    where
      apart : (s : ℕ) → s / 64 ≡ w → s ≡ 64 * w + count_trailing_zeros 64 x → eqb (s % 64) (count_trailing_zeros 64 x) ≡ false → ⊥
      apart s a e f = eqb-false (s % 64) (count_trailing_zeros 64 x) f (omega (arith, low_lt))

      is_low : (s : ℕ) → s < max_states → s / 64 ≡ w → s % 64 ≡ count_trailing_zeros 64 x → In (single (64 * w + count_trailing_zeros 64 x)) s
      is_low s b a e =
          let q : s ≡ 64 * w + count_trailing_zeros 64 x = omega arith in
          subst (λ (y : ℕ). In (single y) s) q (in_single b)

pub word_less : (x : ℕ) → (x ≡ 0 → ⊥) → bit_and x (x - 1) < x
word_less x some = omega (arith, and_le_r x (x - 1))

-- a state by its word and its place there
pub word_member : (X : Set) (w s : ℕ) → w < WORDS → s / 64 ≡ w → member X s ≡ bit (get_or X w 0) (s % 64)
word_member X w s h e =
    let split : s ≡ 64 * w + s % 64 = omega arith in
    ap (member X) split ∙ member_at X w (s % 64) h (omega arith)

-- ---- the least state

module _ (X : Set) where
  -- a state is in a word that is not 0
  some_word : {s : ℕ} → In X s → get_or X (s / 64) 0 ≡ 0 → ⊥
  some_word {s} h e = clash (sym (word_member X (s / 64) s (omega (arith, in_bound h)) (omega arith)) ∙ h.is) (ap (λ (x : ℕ). bit x (s % 64)) e ∙ bit_zero (s % 64))

  module _ (w : ℕ) (none : (v : ℕ) → v < w → get_or X v 0 ≡ 0) where
    pub smallest_word : Proper X → w < WORDS → (get_or X w 0 ≡ 0 → ⊥) → 64 * w + count_trailing_zeros 64 (get_or X w 0) ≡ smallest X
    unfolding smallest
    smallest_word p h some =
        let x = get_or X w 0 in
        let f = p.fits w h in
        let low = word_lowest w x h f some in
        let at = word_set_in w x low in
        sym
        (first-is (member X) max_states (64 * w + count_trailing_zeros 64 x) (in_bound low) (word_member X w _ h at.0 ∙ at.1)
        (λ s l.
        is_false (member X s)
        (λ m.
        ⊎_elim
        (λ b. some_word (record { is = m }) (none (s / 64) b))
        (λ b.
        let here : s / 64 ≡ w = omega (arith, at.0) in
        omega (arith, word_least w x h f some (in_word_set w x (omega (arith, in_bound low)) here (sym (word_member X w s h here) ∙ m))))
        (lt_or_ge (s / 64) w))))

    pub smallest-none : WORDS ≤ w → max_states ≡ smallest X
    unfolding smallest
    smallest-none h =
        sym (first-none (member X) max_states (λ s l. is_false (member X s) (λ m. some_word (record { is = m }) (none (s / 64) (omega arith)))))
