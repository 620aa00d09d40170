-- The words and the bytes of a set, and the set that bytes hold.
--
--   length-set_bytes, get_or-set_bytes            the bytes of a set
--   number-none, number_append                a number made of tests none of which passes; in two parts
--   word_number, byte_number                  the words of a set, and a byte of a word, by the states
--   get_or-empty                                the words of the empty set are 0
--   set_in_proper, member-set_in, set_in_below   the set that w bytes hold: its states, all of them below 8 w
--   number-set_in                              its bytes are those that it was read from
--   set_in-is                                  it is the set whose bytes they are
use Prim.Native.Nat.{ℕ, zero, suc, ◌+◌, ◌*◌, ◌-◌, ◌/◌, ◌%◌, ◌^◌, ◌≤◌, ◌<◌}
use native.Mathlib.Nat.{le_refl, not-le_of_lt, suc-add, pow-succ', mul_assoc, mod-lt, add-zero, zero-add, div-add-mod}
use native.Mathlib.Omega.{arith}
use mathlib.Core.Path.{◌≡◌, refl, sym, ap, ap₂, ◌∙◌}
use mathlib.Core.Logic.{⊎_elim}
use mathlib.Core.Bool.{Bool, false}
use mathlib.Core.List.{List}
use borrow.Author.Tests.{ltb-true, lt-ltb}
use lib.Dec.{eqb, ltb}
use lib.Pow.{field, mod-mod-pow, shr-shr}
use lib.ListN.{length, get_or}
use Rattle.model.specs.Sets.{WORDS, max_states, Set, bit, member, number, empty, set_of}
use Rattle.model.specs.Contents.{set_bytes, set_in}
use Rattle.model.specs.RoundTrip.{Bounded}
use Rattle.basics.proofs.BoundLaws.{and_true, is_false, lt_or_ge, length-tabulate, get_or-tabulate}
use Rattle.model.proofs.SetsMembers.{bit-number, number_lt, member-set_of, Proper, set_of_proper, bits_eq, member_at, ext, In, set_of_in}

-- ---- the bytes of a set

module _ (w : ℕ) (X : Set) where
  pub length-set_bytes : length (set_bytes w X) ≡ w
  unfolding set_bytes
  length-set_bytes = length-tabulate _ w

  pub get_or-set_bytes : (j : ℕ) → j < w → get_or (set_bytes w X) j 0 ≡ number (member X) (8 * j) 8
  unfolding set_bytes
  get_or-set_bytes j h = get_or-tabulate _ w j 0 h

-- ---- words and bytes

pub number-none : (p : ℕ → Bool) (from count : ℕ) → ((s : ℕ) → from ≤ s → p s ≡ false) → number p from count ≡ 0
unfolding number
number-none p from zero f = refl
number-none p from (suc count) f = rw (f from (le_refl from)) (omega (arith, number-none p (suc from) count (λ s h. f s (omega arith))))

pub number_append : (p : ℕ → Bool) (from a b : ℕ) → number p from (a + b) ≡ number p from a + 2 ^ a * number p (from + a) b
unfolding number
number_append p from zero b = ap₂ (number p) (sym (add-zero from)) (zero-add b) ∙ omega arith
number_append p from (suc a) b =
    let rest = number p (from + suc a) b in
    let place : suc from + a ≡ from + suc a = omega arith in
    let power : 2 ^ suc a * rest ≡ 2 * (2 ^ a * rest) = ap (λ (x : ℕ). x * rest) (pow-succ' 2 a) ∙ mul_assoc 2 (2 ^ a) rest in
    ap (number p from) (suc-add a b)
    ∙ omega (arith, number_append p (suc from) a b, ap (λ (f : ℕ). 2 ^ a * number p f b) place)

-- the bits of c digits from a on
bit_field : (x a c i : ℕ) → i < c → bit (x / 2 ^ a % 2 ^ c) i ≡ bit x (a + i)
unfolding bit
bit_field x a c i h =
    let d = c - (i + 1) in
    let digits : (d + 1) + i ≡ c = omega arith in
    ap (λ (y : ℕ). eqb (y % 2) 1)
    (ap (λ (m : ℕ). x / 2 ^ a % 2 ^ m / 2 ^ i) (sym digits) ∙ field (x / 2 ^ a) (d + 1) i)
    ∙ ap (λ (y : ℕ). eqb y 1) (mod-mod-pow (x / 2 ^ a / 2 ^ i) d 1)
    ∙ ap (λ (y : ℕ). eqb (y % 2) 1) (shr-shr x a i)

pub word_number : (X : Set) → Proper X → (v : ℕ) → v < WORDS → get_or X v 0 ≡ number (member X) (64 * v) 64
word_number X x v h =
    bits_eq 64 (get_or X v 0) _ (x.fits v h) (number_lt (member X) (64 * v) 64)
    (λ i l. sym (member_at X v i h l) ∙ sym (bit-number (member X) (64 * v) 64 i l))

pub byte_number : (X : Set) (j : ℕ) → j < 8 * WORDS → get_or X (j / 8) 0 / 2 ^ (8 * (j % 8)) % 256 ≡ number (member X) (8 * j) 8
byte_number X j h =
    let x = get_or X (j / 8) 0 in
    let a = 8 * (j % 8) in
    bits_eq 8 (x / 2 ^ a % 256) _ (mod-lt (x / 2 ^ a) (omega arith)) (number_lt (member X) (8 * j) 8)
    (λ i l.
    let place : 64 * (j / 8) + (a + i) ≡ 8 * j + i = omega arith in
    bit_field x a 8 i l
    ∙ sym (member_at X (j / 8) (a + i) (omega arith) (omega arith))
    ∙ ap (member X) place
    ∙ sym (bit-number (member X) (8 * j) 8 i l))

pub get_or-empty : (w : ℕ) → w < WORDS → get_or empty w 0 ≡ 0
unfolding empty set_of
get_or-empty w h = get_or-tabulate _ WORDS w 0 h ∙ number-none (λ s. false) (64 * w) 64 (λ s l. refl)

-- ---- the set that bytes hold

-- a set of states below n has none from n up
member-past : (X : Set) (n : ℕ) → ((r : ℕ) → In X r → r < n) → (s : ℕ) → n ≤ s → member X s ≡ false
member-past X n below s h = is_false (member X s) (λ e. not-le_of_lt (below s (record { is = e })) h)

module _ (bytes : List ℕ) (w at : ℕ) where
  pub set_in_proper : Proper (set_in bytes w at)
  unfolding set_in
  set_in_proper = set_of_proper _

  pub member-set_in : (s : ℕ) → s < max_states → s < 8 * w → member (set_in bytes w at) s ≡ bit (get_or bytes (at + s / 8) 0) (s % 8)
  unfolding set_in
  member-set_in s h l = member-set_of _ s ∙ rw (lt-ltb s max_states h, lt-ltb s (8 * w) l)

  pub set_in_below : (s : ℕ) → In (set_in bytes w at) s → s < 8 * w
  unfolding set_in
  set_in_below s h = ltb-true s (8 * w) (and_true (ltb s (8 * w)) _ (set_of_in _ h)).0

  -- the bytes of the set are those that it was read from
  pub number-set_in : 8 * w ≤ max_states → Bounded 256 bytes → (j : ℕ) → j < w → number (member (set_in bytes w at)) (8 * j) 8 ≡ get_or bytes (at + j) 0
  number-set_in fits u j h =
      bits_eq 8 _ _ (number_lt (member (set_in bytes w at)) (8 * j) 8) (u (at + j))
      (λ i l.
      let byte : (8 * j + i) / 8 ≡ j = omega arith in
      let place : (8 * j + i) % 8 ≡ i = omega arith in
      bit-number (member (set_in bytes w at)) (8 * j) 8 i l
      ∙ member-set_in (8 * j + i) (omega arith) (omega arith)
      ∙ ap₂ (λ (b p : ℕ). bit (get_or bytes (at + b) 0) p) byte place)

  -- the set is the one whose bytes they are
  pub set_in-is : (X : Set) → Proper X → ((s : ℕ) → In X s → s < 8 * w) → ((j : ℕ) → j < w → get_or bytes (at + j) 0 ≡ number (member X) (8 * j) 8) → set_in bytes w at ≡ X
  set_in-is X x below e =
      ext (set_in bytes w at) X set_in_proper x
      (λ s h. ⊎_elim
      (λ l.
      member-set_in s h l
      ∙ ap (λ (b : ℕ). bit b (s % 8)) (e (s / 8) (omega arith))
      ∙ bit-number (member X) (8 * (s / 8)) 8 (s % 8) (omega arith)
      ∙ ap (member X) (div-add-mod s 8))
      (λ l. member-past (set_in bytes w at) (8 * w) set_in_below s l ∙ sym (member-past X (8 * w) below s l))
      (lt_or_ge s (8 * w)))
