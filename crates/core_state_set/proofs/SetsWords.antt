-- The words of a set, and what is made word by word.
--
--   proper                     a parameter's words are those of a set
--   member_word, member-past   membership by the shifted word, and past the words
--   word_is                    the word with the bits that a test gives is the comprehension's; first_word: so of the first n states
--   Filling Z X w xs           xs is X with its first w words replaced by those of Z: the invariant of each loop that makes a set Z
--   filling_none, filling_more, filling_all     before the first turn; one turn; after the last
--   Wordwise f op              f acts on words as op does on their bits: or_wise, and_wise, and_not_wise
--   wordwise_word              so on the words of two sets
--   combined                   a set whose words are made so has the states that pass op
--   with_bit_lem, with_past        the union with one state; without-bit: the difference with one
use Prim.Native.Nat.{ℕ, zero, suc, ◌+◌, ◌-◌, ◌*◌, ◌/◌, ◌%◌, ◌^◌, min, ◌≤◌, ◌<◌}
use native.Mathlib.Nat.{pow-suc, zero-min, mod-eq_of_lt}
use native.Mathlib.Numerals.{add-one}
use native.Mathlib.Omega.{arith}
use mathlib.Core.Path.{◌≡◌, refl, sym, ap, ap₂, ◌∙◌, subst}
use mathlib.Core.Logic.{inl, ⊎_elim}
use mathlib.Core.Bool.{Bool, true, not, ◌&&◌, ◌||◌}
use mathlib.Core.List.{[], ◌∷◌, ◌++◌, append-nil}
use borrow.Author.Tests.{eqb-true, eqb-false, eq-eqb, ne_eqb, ltb-true, ltb-false, lt-ltb, le-ltb}
use lib.Bits.{bit_and, bit_or, and_lt, or_lt, or_zero_r, and_mask}
use lib.Dec.{eqb, ltb}
use lib.Pow.{pow_pos, pow-lt, ones_sub-lt}
use lib.ListN.{length, get_or, set, take, drop, length-set, drop_of_length-le}
use lib.Seq.{take-suc, take_all, length-take-le, drop-cons, set_at, append_snoc, get_or-set_same, get_or-set_other, ext_get_or}
use mir.Syntax.{w64}
use mir.Val.{Fits}
use Rattle.model.specs.Sets.{WORDS, max_states, Set, bit, member, number, set_of, single, union, difference, states, first_states}
use Rattle.basics.proofs.BoundLaws.{decided, same_test, get_or-tabulate}
use Rattle.model.proofs.SetsMembers.{Proper, set_of_proper, bits_eq, bit-number, number_lt, member_at, in_bound, in_union, union_in, single_in, same_set}
use Rattle.core_state_set.proofs.SetsBits.{bit_of_and, bit_of_or, bit_not, one_shl, bit_zero, bit_power}

-- what `search needs` shows of the words of a parameter
pub proper : {X : Set} → length X ≡ WORDS → ((w : ℕ) → Fits w64 (get_or X w 0)) → Proper X
proper l f = record { long = l; fits = λ w h. (f w).fits }

-- ---- membership, by the word that s / 64 names

pub member_word : (X : Set) (s : ℕ) → s / 64 < WORDS → eqb (bit_and (get_or X (s / 64) 0 / 2 ^ (s % 64)) 1) 1 ≡ member X s
unfolding member bit
member_word X s h = rw (and_mask (get_or X (s / 64) 0 / 2 ^ (s % 64)) 1, lt-ltb s max_states (omega arith))

pub member-past : (X : Set) (s : ℕ) → WORDS ≤ s / 64 → ltb (s / 64) WORDS ≡ member X s
unfolding member
member-past X s h = rw (le-ltb (s / 64) WORDS h, le-ltb s max_states (omega arith))

-- ---- the words of a comprehension

module _ (p : ℕ → Bool) (w : ℕ) (h : w < WORDS) where
  set_of_word : get_or (set_of p) w 0 ≡ number p (64 * w) 64
  unfolding set_of
  set_of_word = get_or-tabulate (λ v. number p (64 * v) 64) WORDS w 0 h

  pub word_is : (x : ℕ) → x < 2 ^ 64 → ((i : ℕ) → i < 64 → bit x i ≡ p (64 * w + i)) → x ≡ get_or (set_of p) w 0
  word_is x k e =
      bits_eq 64 x (number p (64 * w) 64) k (number_lt p (64 * w) 64) (λ i l. e i l ∙ sym (bit-number p (64 * w) 64 i l)) ∙ sym set_of_word

-- the test `below n` makes ones as far as n
number_below : (n from count : ℕ) → number (λ s. ltb s n && true) from count ≡ 2 ^ min count (n - from) - 1
unfolding number
number_below n from zero = rw zero-min
number_below n from (suc count) =
    let k = min count (n - suc from) in
    let rest : number (λ s. ltb s n && true) (suc from) count ≡ 2 ^ k - 1 = number_below n (suc from) count in
    ⊎_elim
    (λ e.
    let h : from < n = ltb-true from n e in
    let more : min (suc count) (n - from) ≡ suc k = omega arith in
    rw (e, more) (omega (arith, pow-suc 2 k, pow_pos k)))
    (λ e.
    let h : n ≤ from = ltb-false from n e in
    let none : min (suc count) (n - from) ≡ 0 = omega arith in
    let no_more : k ≡ 0 = omega arith in
    rw (e, none) (omega (arith, ap (λ (m : ℕ). 2 ^ m) no_more)))
    (decided (ltb from n))

pub first_word : (n w : ℕ) → w < WORDS → 2 ^ min 64 (n - 64 * w) - 1 ≡ get_or (first_states n) w 0
unfolding first_states states
first_word n w h = sym (set_of_word _ w h ∙ number_below n (64 * w) 64)

-- ---- loops that make a set

pub record Filling (Z X : Set) (w : ℕ) (xs : Set) : Type 0 where
  pub within : w ≤ WORDS
  pub goal : length Z ≡ WORDS
  pub start : length X ≡ WORDS
  pub is : xs ≡ take w Z ++ drop w X

module _ (Z X : Set) where
  pub filling_none : length Z ≡ WORDS → length X ≡ WORDS → Filling Z X 0 X
  filling_none z x = record { within = omega arith; goal = z; start = x; is = refl }

  module _ (w : ℕ) (xs : Set) (so : Filling Z X w xs) where
    -- the word to come, between the new words and the old
    split : w < WORDS → xs ≡ take w Z ++ (get_or X w 0 ∷ drop (suc w) X)
    split h = so.is ∙ ap (λ t. take w Z ++ t) (drop-cons X w 0 (omega (arith, so.start)))

    made : length (take w Z) ≡ w
    made = length-take-le w Z (omega (arith, so.goal))

    pub filling_more : (x : ℕ) → w < WORDS → x ≡ get_or Z w 0 → Filling Z X (w + 1) (set xs w x)
    filling_more x h e =
        rw add-one
        (record {
          within = h;
          goal = so.goal;
          start = so.start;
          is =
              ap (λ t. set t w x) (split h)
              ∙ set_at (take w Z) (get_or X w 0) (drop (suc w) X) x w made
              ∙ sym (append_snoc (take w Z) x (drop (suc w) X))
              ∙ ap (λ t. t ++ drop (suc w) X) (ap (λ (y : ℕ). take w Z ++ (y ∷ [])) e ∙ sym (take-suc Z w 0 (omega (arith, so.goal))));
        })

    pub filling_all : WORDS ≤ w → xs ≡ Z
    filling_all h =
        so.is ∙ ap₂ (λ s t. s ++ t) (take_all w Z (omega (arith, so.goal))) (drop_of_length-le X {i = w} (omega (arith, so.start))) ∙ append-nil Z

-- ---- operations word by word

pub record Wordwise (f : ℕ → ℕ → ℕ) (op : Bool → Bool → Bool) : Type 0 where
  pub fits : (x y : ℕ) → x < 2 ^ 64 → y < 2 ^ 64 → f x y < 2 ^ 64
  pub bits : (x y i : ℕ) → y < 2 ^ 64 → i < 64 → bit (f x y) i ≡ op (bit x i) (bit y i)

pub or_wise : Wordwise bit_or ◌||◌
or_wise = record { fits = or_lt 64; bits = λ x y i h l. bit_of_or x y i }

pub and_wise : Wordwise bit_and ◌&&◌
and_wise = record { fits = and_lt 64; bits = λ x y i h l. bit_of_and x y i }

pub and_not_wise : Wordwise (λ x y. bit_and x ((2 ^ 64 - 1) - y)) (λ a b. a && not b)
and_not_wise =
    record {
      fits = λ x y h k. and_lt 64 x ((2 ^ 64 - 1) - y) h (ones_sub-lt 64 y);
      bits = λ x y i h l. bit_of_and x ((2 ^ 64 - 1) - y) i ∙ ap (λ b. bit x i && b) (bit_not 64 y i h l);
    }

-- the test of a state by its membership in two sets
abbrev pub both : (Bool → Bool → Bool) → Set → Set → ℕ → Bool
both op X Y s = op (member X s) (member Y s)

pub wordwise_word : {f : ℕ → ℕ → ℕ} {op : Bool → Bool → Bool} → Wordwise f op → (X Y : Set) → Proper X → Proper Y → (w : ℕ) → w < WORDS
    → f (get_or X w 0) (get_or Y w 0) ≡ get_or (set_of (both op X Y)) w 0
wordwise_word {f} {op} wise X Y x y w h =
    word_is (both op X Y) w h (f (get_or X w 0) (get_or Y w 0)) (wise.fits _ _ (x.fits w h) (y.fits w h))
    (λ i l. wise.bits _ _ i (y.fits w h) l ∙ ap₂ op (sym (member_at X w i h l)) (sym (member_at Y w i h l)))

-- the words made so are those of the states that pass op
pub combined : {f : ℕ → ℕ → ℕ} {op : Bool → Bool → Bool} → Wordwise f op → (X Y Z : Set) → Proper X → Proper Y → length Z ≡ WORDS
    → ((w : ℕ) → w < WORDS → get_or Z w 0 ≡ f (get_or X w 0) (get_or Y w 0)) → Z ≡ set_of (both op X Y)
combined wise X Y Z x y long made =
    ext_get_or 0 Z _ (long ∙ sym (set_of_proper _).long)
    (λ w h.
    let below : w < WORDS = omega (arith, long) in
    made w below ∙ wordwise_word wise X Y x y w below)

-- ---- one state more, or fewer

-- of {s}, the word that s / 64 names has one bit, and the others have none
module _ (s w : ℕ) (h : w < WORDS) where
  single_here : w ≡ s / 64 → 1 * 2 ^ (s % 64) % 2 ^ 64 ≡ get_or (single s) w 0
  unfolding single
  single_here e =
      let place : s % 64 < 64 = omega arith in
      one_shl (s % 64) place
      ∙ word_is (λ t. eqb t s) w h (2 ^ (s % 64)) (pow-lt place)
      (λ i l.
      bit_power (s % 64) i
      ∙ same_test (eqb i (s % 64)) (eqb (64 * w + i) s)
      (λ q. eq-eqb _ s (omega (arith, eqb-true i (s % 64) q)))
      (λ q. eq-eqb i _ (omega (arith, eqb-true (64 * w + i) s q))))

  single-other : (w ≡ s / 64 → ⊥) → 0 ≡ get_or (single s) w 0
  unfolding single
  single-other ne =
      word_is (λ t. eqb t s) w h 0 (omega arith) (λ i l. bit_zero i ∙ sym (ne_eqb (64 * w + i) s (λ e. ne (omega (arith, e)))))

-- an operation that keeps a word beside 0, at the word that s / 64 names: it makes the set that passes op beside {s}
module _ {f : ℕ → ℕ → ℕ} {op : Bool → Bool → Bool} (wise : Wordwise f op) (keeps : (x : ℕ) → x < 2 ^ 64 → f x 0 ≡ x)
    (X : Set) (s : ℕ) (x : Proper X) where
  made_word : (w : ℕ) → w < WORDS → f (get_or X w 0) (get_or (single s) w 0) ≡ get_or (set_of (both op X (single s))) w 0
  unfolding single
  made_word w h = wordwise_word wise X (single s) x (set_of_proper _) w h

  at_bit : s / 64 < WORDS → set X (s / 64) (f (get_or X (s / 64) 0) (1 * 2 ^ (s % 64) % 2 ^ 64)) ≡ set_of (both op X (single s))
  at_bit h =
      let w = s / 64 in
      let y = f (get_or X w 0) (1 * 2 ^ (s % 64) % 2 ^ 64) in
      let long : length (set X w y) ≡ WORDS = length-set X w y ∙ x.long in
      ext_get_or 0 (set X w y) _ (long ∙ sym (set_of_proper _).long)
      (λ v k.
      let below : v < WORDS = omega (arith, long) in
      ⊎_elim
      (λ e.
      subst (λ (u : ℕ). get_or (set X w y) u 0 ≡ get_or (set_of (both op X (single s))) u 0) (sym (eqb-true v w e))
      (get_or-set_same X w y 0 (omega (arith, x.long)) ∙ ap (f (get_or X w 0)) (single_here s w h refl) ∙ made_word w h))
      (λ e.
      get_or-set_other X w v y 0 (eqb-false v w e)
      ∙ sym (keeps (get_or X v 0) (x.fits v below)) ∙ ap (f (get_or X v 0)) (single-other s v below (eqb-false v w e)) ∙ made_word v below)
      (decided (eqb v w)))

module _ (X : Set) (s : ℕ) (x : Proper X) where
  pub with_bit_lem : s / 64 < WORDS → set X (s / 64) (bit_or (get_or X (s / 64) 0) (1 * 2 ^ (s % 64) % 2 ^ 64)) ≡ union X (single s)
  unfolding union
  with_bit_lem = at_bit or_wise (λ y h. or_zero_r y) X s x

  pub without-bit : s / 64 < WORDS
      → set X (s / 64) (bit_and (get_or X (s / 64) 0) ((2 ^ 64 - 1) - 1 * 2 ^ (s % 64) % 2 ^ 64)) ≡ difference X (single s)
  unfolding difference
  without-bit = at_bit and_not_wise (λ y h. and_mask y 64 ∙ mod-eq_of_lt h) X s x

  pub with_past : WORDS ≤ s / 64 → X ≡ union X (single s)
  unfolding union
  with_past h =
      same_set X (union X (single s)) x (set_of_proper _) (λ t k. in_union (inl k))
      (λ t k. ⊎_elim (λ i. i) (λ i. absurd (omega (arith, single_in i, in_bound i))) (union_in k))
