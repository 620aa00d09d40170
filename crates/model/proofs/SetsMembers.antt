-- Laws of sets: one of membership in a comprehension, one of equality; then, through `In`, a pair for each operation.
--
--   bit-number, number_lt          the number made of tests has those tests for bits
--   member-set_of                   a state is in the comprehension exactly if a set can hold it and it passes
--   Proper X                       X is WORDS words of 64 bits; set_of_proper
--   ext                            proper sets with the same members are equal; set_of_cong: the same tests make the same set
--   In X s                         s is a member of X, as a record that a proof can hold
--   in-OP, OP-in                   membership in the result of the operation OP from that in its arguments, and back
--   _⊆_                            inclusion; subset_in, in_subset: the test and the fact; antisymmetry: same_set
--   union_assoc, -comm, -empty     union is associative and commutative, and the empty set adds nothing
--   union_proper, empty_proper     both are proper sets
use Prim.Native.Nat.{ℕ, zero, suc, ◌+◌, ◌*◌, ◌/◌, ◌%◌, ◌^◌, ◌≤◌, ◌<◌}
use native.Mathlib.Nat.{not-suc-le-zero, le_of_suc-le-suc, pow-suc, pow-succ', div-div-eq-div-mul, div-add-mod, add-suc, suc-add, add-zero}
use native.Mathlib.Omega.{arith}
use mathlib.Core.Path.{◌≡◌, refl, sym, ap, ◌∙◌, subst}
use mathlib.Core.Logic.{◌⊎◌, inl, inr, ⊎_elim}
use mathlib.Core.Bool.{Bool, true, false, not, ◌&&◌, ◌||◌, cond, false≢true}
use borrow.Author.Tests.{ltb-true, lt-ltb, eqb-true, eqb-false, eq-eqb}
use lib.Dec.{eqb, ltb}
use lib.ListN.{length, get_or}
use lib.Seq.{ext_get_or}
use Rattle.basics.specs.Bounds.{tabulate}
use Rattle.model.specs.Sets.{WORDS, max_states, Set, bit, member, number, set_of, empty, single, union, meet, difference, subset, same, meets, states, first_states, smallest, image}
pub use Rattle.model.specs.WellFormed.{In, ◌⊆◌}
use Rattle.basics.proofs.BoundLaws.{and_true, and_intro, or_true, or_intro, not_true, is_false, clash, decided, same_test, by_cond, any_intro, any_find, all_at, all_intro, all_not, first_passes, first-before, below_suc, length-tabulate, get_or-tabulate}

-- ---- bits

-- bits above the lowest are those of the half, and the lowest is the parity
pub shift_bit : (x i : ℕ) → bit x (suc i) ≡ bit (x / 2) i
unfolding bit
shift_bit x i = ap (λ (y : ℕ). eqb (y % 2) 1) (ap (λ (y : ℕ). x / y) (pow-succ' 2 i) ∙ sym (div-div-eq-div-mul x 2 (2 ^ i)))

low_bit : (x : ℕ) → cond (bit x zero) 1 0 ≡ x % 2
unfolding bit
low_bit x =
    by_cond (λ (d : ℕ). d ≡ x % 2) (eqb (x / 2 ^ 0 % 2) 1) 1 0
    (λ e. omega (arith, eqb-true (x / 2 ^ 0 % 2) 1 e))
    (λ e. omega (arith, eqb-false (x / 2 ^ 0 % 2) 1 e))

digit_lt : (b : Bool) → cond b 1 0 < 2
digit_lt b = by_cond (λ (x : ℕ). x < 2) b 1 0 (λ e. omega arith) (λ e. omega arith)

-- a digit tells the test that made it
digit_inj : (a b : Bool) → ◌≡◌ {A = ℕ} (cond a 1 0) (cond b 1 0) → a ≡ b
digit_inj true true e = refl
digit_inj true false e = absurd (omega arith)
digit_inj false true e = absurd (omega arith)
digit_inj false false e = refl

module _ (p : ℕ → Bool) where
  pub bit-number : (from count i : ℕ) → i < count → bit (number p from count) i ≡ p (from + i)
  unfolding number
  bit-number from zero i h = absurd (not-suc-le-zero h)
  bit-number from (suc count) zero h =
      let d = digit_lt (p from) in
      digit_inj _ _ (low_bit _ ∙ omega arith) ∙ ap p (sym (add-zero from))
  bit-number from (suc count) (suc i) h =
      let d = digit_lt (p from) in
      shift_bit _ i
      ∙ ap (λ (x : ℕ). bit x i) (omega arith)
      ∙ bit-number (suc from) count i (le_of_suc-le-suc h)
      ∙ ap p (suc-add from i ∙ sym (add-suc from i))

  pub number_lt : (from count : ℕ) → number p from count < 2 ^ count
  unfolding number
  number_lt from zero = omega arith
  number_lt from (suc count) = omega (arith, number_lt (suc from) count, digit_lt (p from), pow-suc 2 count)

-- ---- comprehension

pub member-set_of : (p : ℕ → Bool) (s : ℕ) → member (set_of p) s ≡ (ltb s max_states && p s)
unfolding member set_of
member-set_of p s = go (decided (ltb s max_states))
  where
    go : (ltb s max_states ≡ true) ⊎ (ltb s max_states ≡ false) → (ltb s max_states && bit (get_or (tabulate WORDS (λ w. number p (64 * w) 64)) (s / 64) 0) (s % 64)) ≡ (ltb s max_states && p s)
    go (inr e) = rw e
    go (inl e) =
        let h : s < max_states = ltb-true s max_states e in
        let word : s / 64 < WORDS = omega arith in
        let place : s % 64 < 64 = omega arith in
        ap (λ b. ltb s max_states && b)
        (ap (λ (x : ℕ). bit x (s % 64)) (get_or-tabulate (λ w. number p (64 * w) 64) WORDS (s / 64) 0 word)
        ∙ bit-number p (64 * (s / 64)) 64 (s % 64) place
        ∙ ap p (div-add-mod s 64))

-- WORDS words of 64 bits
pub record Proper (X : Set) : Type 0 where
  pub long : length X ≡ WORDS
  pub fits : (w : ℕ) → w < WORDS → get_or X w 0 < 2 ^ 64

pub set_of_proper : (p : ℕ → Bool) → Proper (set_of p)
unfolding set_of
set_of_proper p =
    record {
      long = length-tabulate (λ w. number p (64 * w) 64) WORDS;
      fits = λ w h. subst (λ (x : ℕ). x < 2 ^ 64) (sym (get_or-tabulate (λ v. number p (64 * v) 64) WORDS w 0 h)) (number_lt p (64 * w) 64);
    }

-- numbers with the same bits are equal
pub bits_eq : (k a b : ℕ) → a < 2 ^ k → b < 2 ^ k → ((i : ℕ) → i < k → bit a i ≡ bit b i) → a ≡ b
bits_eq zero a b ha hb e = omega arith
bits_eq (suc k) a b ha hb e =
    let lower : (x : ℕ) → x < 2 ^ suc k → x / 2 < 2 ^ k = λ x h. omega (arith, pow-suc 2 k) in
    let rest : a / 2 ≡ b / 2 =
    bits_eq k (a / 2) (b / 2) (lower a ha) (lower b hb) (λ i h. sym (shift_bit a i) ∙ e (suc i) (omega arith) ∙ shift_bit b i) in
    let last : a % 2 ≡ b % 2 = sym (low_bit a) ∙ ap (λ (d : Bool). cond d 1 0) (e zero (omega arith)) ∙ low_bit b in
    omega arith

-- a state by its word and its place there
pub member_at : (X : Set) (w i : ℕ) → w < WORDS → i < 64 → member X (64 * w + i) ≡ bit (get_or X w 0) i
unfolding member
member_at X w i h l =
    let word : (64 * w + i) / 64 ≡ w = omega arith in
    let place : (64 * w + i) % 64 ≡ i = omega arith in
    rw (lt-ltb (64 * w + i) max_states (omega arith), word, place)

pub ext : (X Y : Set) → Proper X → Proper Y → ((s : ℕ) → s < max_states → member X s ≡ member Y s) → X ≡ Y
ext X Y x y e =
    ext_get_or 0 X Y (x.long ∙ sym y.long)
    (λ w h.
    let word : w < WORDS = subst (λ (m : ℕ). w < m) x.long h in
    bits_eq 64 (get_or X w 0) (get_or Y w 0) (x.fits w word) (y.fits w word)
    (λ i l. sym (member_at X w i word l) ∙ e (64 * w + i) (omega arith) ∙ member_at Y w i word l))

pub set_of_cong : (p q : ℕ → Bool) → ((s : ℕ) → s < max_states → p s ≡ q s) → set_of p ≡ set_of q
set_of_cong p q e =
    ext (set_of p) (set_of q) (set_of_proper p) (set_of_proper q)
    (λ s h. member-set_of p s ∙ ap (λ b. ltb s max_states && b) (e s h) ∙ sym (member-set_of q s))

-- ---- membership as a fact

-- a set holds states below top only
pub in_bound : {X : Set} {s : ℕ} → In X s → s < max_states
unfolding member
in_bound {X} {s} h = ltb-true s max_states (and_true (ltb s max_states) _ h.is).0

pub in_set_of : (p : ℕ → Bool) {s : ℕ} → s < max_states → p s ≡ true → In (set_of p) s
in_set_of p {s} h e = record { is = member-set_of p s ∙ and_intro (ltb s max_states) (p s) (lt-ltb s max_states h) e }

pub set_of_in : (p : ℕ → Bool) {s : ℕ} → In (set_of p) s → p s ≡ true
set_of_in p {s} h = (and_true (ltb s max_states) (p s) (sym (member-set_of p s) ∙ h.is)).1

-- a state is a member or it is not
pub in_or_out : (X : Set) (s : ℕ) → In X s ⊎ (In X s → ⊥)
in_or_out X s = ⊎_elim (λ e. inl (record { is = e })) (λ e. inr (λ h. clash h.is e)) (decided (member X s))

pub empty_in : {s : ℕ} → In empty s → ⊥
unfolding empty
empty_in h = false≢true (set_of_in _ h)

pub in_single : {s : ℕ} → s < max_states → In (single s) s
unfolding single
in_single {s} h = in_set_of _ h (eq-eqb s s refl)

pub single_in : {x s : ℕ} → In (single x) s → s ≡ x
unfolding single
single_in {x} {s} h = eqb-true s x (set_of_in _ h)

pub in_union : {X Y : Set} {s : ℕ} → In X s ⊎ In Y s → In (union X Y) s
unfolding union
in_union {X} {Y} {s} (inl h) = in_set_of _ (in_bound h) (or_intro (member X s) (member Y s) (inl h.is))
in_union {X} {Y} {s} (inr h) = in_set_of _ (in_bound h) (or_intro (member X s) (member Y s) (inr h.is))

pub union_in : {X Y : Set} {s : ℕ} → In (union X Y) s → In X s ⊎ In Y s
unfolding union
union_in {X} {Y} {s} h = ⊎_elim (λ e. inl (record { is = e })) (λ e. inr (record { is = e })) (or_true (member X s) (member Y s) (set_of_in _ h))

pub in_meet : {X Y : Set} {s : ℕ} → In X s → In Y s → In (meet X Y) s
unfolding meet
in_meet {X} {Y} {s} h k = in_set_of _ (in_bound h) (and_intro (member X s) (member Y s) h.is k.is)

pub meet_in : {X Y : Set} {s : ℕ} → In (meet X Y) s → In X s × In Y s
unfolding meet
meet_in {X} {Y} {s} h =
    let both = and_true (member X s) (member Y s) (set_of_in _ h) in
    (record { is = both.0 }, record { is = both.1 })

pub in_difference : {X Y : Set} {s : ℕ} → In X s → (In Y s → ⊥) → In (difference X Y) s
unfolding difference
in_difference {X} {Y} {s} h out =
    in_set_of _ (in_bound h) (and_intro (member X s) (not (member Y s)) h.is (ap not (is_false (member Y s) (λ e. out (record { is = e })))))

pub difference_in : {X Y : Set} {s : ℕ} → In (difference X Y) s → In X s × (In Y s → ⊥)
unfolding difference
difference_in {X} {Y} {s} h =
    let both = and_true (member X s) (not (member Y s)) (set_of_in _ h) in
    (record { is = both.0 }, λ k. clash k.is (not_true (member Y s) both.1))

pub in_states : (n : ℕ) (p : ℕ → Bool) {s : ℕ} → s < max_states → s < n → p s ≡ true → In (states n p) s
unfolding states
in_states n p {s} t h e = in_set_of _ t (and_intro (ltb s n) (p s) (lt-ltb s n h) e)

pub states_in_lem : (n : ℕ) (p : ℕ → Bool) {s : ℕ} → In (states n p) s → (s < n) × (p s ≡ true)
unfolding states
states_in_lem n p {s} h =
    let both = and_true (ltb s n) (p s) (set_of_in _ h) in
    (ltb-true s n both.0, both.1)

pub in_first_states : {n s : ℕ} → s < max_states → s < n → In (first_states n) s
unfolding first_states
in_first_states {n} t h = in_states n _ t h refl

pub first_states_in : {n s : ℕ} → In (first_states n) s → s < n
unfolding first_states
first_states_in {n} h = (states_in_lem n _ h).0

-- ---- inclusion

pub subset_in : {X Y : Set} → subset X Y ≡ true → X ⊆ Y
unfolding subset
subset_in {X} {Y} e s h =
    record {
      is =
          ⊎_elim (λ q. absurd (clash h.is (not_true (member X s) q))) (λ q. q)
          (or_true (not (member X s)) (member Y s) (all_at (λ k. not (member X k) || member Y k) max_states e s (in_bound h)));
    }

pub in_subset : {X Y : Set} → X ⊆ Y → subset X Y ≡ true
unfolding subset
in_subset {X} {Y} f =
    all_intro (λ k. not (member X k) || member Y k) max_states
    (λ s h.
    or_intro (not (member X s)) (member Y s)
    (⊎_elim (λ e. inr (f s (record { is = e })).is) (λ e. inl (ap not e)) (decided (member X s))))

-- where X is not inside Y, some state is in X and not in Y
pub subset_not : (X Y : Set) → subset X Y ≡ false → (s : ℕ) × In X s × (In Y s → ⊥)
unfolding subset
subset_not X Y e = go (all_not (λ k. not (member X k) || member Y k) max_states e)
  where
    go : (s : ℕ) × (s < max_states) × ((not (member X s) || member Y s) ≡ false) → (s : ℕ) × In X s × (In Y s → ⊥)
    go w =
        ⊎_elim
        (λ q. (w.0, record { is = q }, λ k. clash (or_intro (not (member X w.0)) (member Y w.0) (inr k.is)) w.2))
        (λ q. absurd (clash (or_intro (not (member X w.0)) (member Y w.0) (inl (ap not q))) w.2))
        (decided (member X w.0))

pub ⊆-of-eq : {X Y : Set} → X ≡ Y → X ⊆ Y
⊆-of-eq e s h = subst (λ (X : Set). In X s) e h

pub states-within : (n : ℕ) (p : ℕ → Bool) → states n p ⊆ first_states n
unfolding first_states
states-within n p s h = in_states n _ (in_bound h) (states_in_lem n p h).0 refl

pub same_set : (X Y : Set) → Proper X → Proper Y → X ⊆ Y → Y ⊆ X → X ≡ Y
same_set X Y x y f g =
    ext X Y x y (λ s h. same_test (member X s) (member Y s) (λ e. (f s (record { is = e })).is) (λ e. (g s (record { is = e })).is))

pub same_eq : {X Y : Set} → Proper X → Proper Y → same X Y ≡ true → X ≡ Y
unfolding same
same_eq {X} {Y} x y e =
    let both = and_true (subset X Y) (subset Y X) e in
    same_set X Y x y (subset_in both.0) (subset_in both.1)

pub eq_same : {X Y : Set} → X ≡ Y → same X Y ≡ true
unfolding same
eq_same {X} {Y} e = and_intro (subset X Y) (subset Y X) (in_subset (⊆-of-eq e)) (in_subset (⊆-of-eq (sym e)))

pub in_meets : {X Y : Set} {s : ℕ} → In X s → In Y s → meets X Y ≡ true
unfolding meets
in_meets {X} {Y} {s} h k = any_intro (λ i. member X i && member Y i) max_states s (in_bound h) (and_intro (member X s) (member Y s) h.is k.is)

pub meets_in : {X Y : Set} → meets X Y ≡ true → (s : ℕ) × In X s × In Y s
unfolding meets
meets_in {X} {Y} e =
    let w = any_find (λ i. member X i && member Y i) max_states e in
    let both = and_true (member X w.0) (member Y w.0) w.2 in
    (w.0, record { is = both.0 }, record { is = both.1 })

-- ---- the least state

pub smallest_le : {X : Set} {s : ℕ} → In X s → smallest X ≤ s
unfolding smallest
smallest_le {X} {s} h = first-before (member X) max_states s h.is

pub smallest_in_lem : {X : Set} {s : ℕ} → In X s → In X (smallest X)
unfolding smallest
smallest_in_lem {X} {s} h = record { is = first_passes (member X) max_states (omega (arith, smallest_le h, in_bound h)) }

-- ---- union, and the empty set

pub union_proper : (X Y : Set) → Proper (union X Y)
unfolding union
union_proper X Y = set_of_proper _

pub union_assoc : (X Y Z : Set) → union X (union Y Z) ≡ union (union X Y) Z
unfolding union
union_assoc X Y Z =
    same_set _ _ (set_of_proper _) (set_of_proper _)
    (λ s h. ⊎_elim (λ x. in_union (inl (in_union (inl x)))) (λ r. ⊎_elim (λ y. in_union (inl (in_union (inr y)))) (λ z. in_union (inr z)) (union_in r)) (union_in h))
    (λ s h. ⊎_elim (λ l. ⊎_elim (λ x. in_union (inl x)) (λ y. in_union (inr (in_union (inl y)))) (union_in l)) (λ z. in_union (inr (in_union (inr z)))) (union_in h))

pub union_comm : (X Y : Set) → union X Y ≡ union Y X
unfolding union
union_comm X Y =
    same_set _ _ (set_of_proper _) (set_of_proper _) (λ s h. in_union (⊎_elim inr inl (union_in h))) (λ s h. in_union (⊎_elim inr inl (union_in h)))

pub union-empty : (X : Set) → Proper X → union X empty ≡ X
unfolding union
union-empty X p =
    same_set _ _ (set_of_proper _) p (λ s h. ⊎_elim (λ x. x) (λ e. absurd (empty_in e)) (union_in h)) (λ s h. in_union (inl h))

pub empty_proper : Proper empty
unfolding empty
empty_proper = set_of_proper _

-- ---- images

module _ (f : ℕ → Set) (X : Set) where
  pub in_image : (n : ℕ) {x s : ℕ} → x < n → In X x → In (f x) s → In (image n f X) s
  unfolding image
  in_image zero h i k = absurd (not-suc-le-zero h)
  in_image (suc n) {x} {s} h i k =
      by_cond (λ (Y : Set). In Y s) (member X n) _ _
      (λ e. in_union (⊎_elim (λ q. inr (subst (λ (y : ℕ). In (f y) s) q k)) (λ l. inl (in_image n l i k)) (below_suc h)))
      (λ e. ⊎_elim (λ q. absurd (clash (subst (λ (y : ℕ). In X y) q i).is e)) (λ l. in_image n l i k) (below_suc h))

  pub image_in : (n : ℕ) {s : ℕ} → In (image n f X) s → (x : ℕ) × (x < n) × In X x × In (f x) s
  unfolding image
  image_in zero = λ h. absurd (empty_in h)
  image_in (suc n) {s} =
      by_cond (λ (Y : Set). In Y s → (x : ℕ) × (x < suc n) × In X x × In (f x) s) (member X n) _ _
      (λ e h. ⊎_elim (λ l. more (image_in n l)) (λ r. (n, omega arith, record { is = e }, r)) (union_in h))
      (λ e h. more (image_in n h))
    where
      more : (x : ℕ) × (x < n) × In X x × In (f x) s → (x : ℕ) × (x < suc n) × In X x × In (f x) s
      more w = (w.0, omega (arith, w.1), w.2, w.3)
