-- Tests on sets, by their words and by each other.
--
--   same-tested                      equal word by word
--   joined_least, joined_none        words joined into one are at least each of them, and 0 where all are
--   joined_all                       so those of a set are 0 exactly if it has no state
--   subset-difference                inclusion: nothing in the difference
--   meets-meet                       a state in common: something in the meet
use Prim.Native.Nat.{ℕ, zero, suc, ◌≤◌, ◌<◌}
use native.Mathlib.Nat.{le_refl}
use native.Mathlib.Omega.{arith}
use mathlib.Core.Path.{◌≡◌, refl, sym, ap, ap₂, ◌∙◌, subst}
use mathlib.Core.Logic.{⊎_elim}
use mathlib.Core.Bool.{Bool, true, false, not, ◌&&◌}
use borrow.Author.Tests.{eqb-true, eq-eqb}
use lib.Bits.{bit_or, or_add_and, and_le_l, and_le_r}
use lib.Dec.{eqb}
use lib.ListN.{length, get_or}
use lib.Seq.{ext_get_or}
use mathlib.Core.List.{[], ◌∷◌}
use Rattle.std.specs.List.{fold}
use lib.Pointwise.{pointwise}
use Rattle.std.specs.Prelude.{nat_eq}
use Rattle.std.specs.Cmp.Lexicographic.{same_text}
use Rattle.std.proofs.lemmas.Cmp.{nat_list_eq_equiv}
use Rattle.model.specs.Sets.{WORDS, Set, empty, meet, difference, subset, same, meets}
use Rattle.basics.proofs.BoundLaws.{and_true, and_intro, not_true, is_false, same_test}
use Rattle.model.proofs.SetsMembers.{Proper, set_of_proper, in_or_out, empty_in, in_meet, meet_in, in_difference, difference_in, subset_in, in_subset, subset_not, ⊆-of-eq, same_set, in_meets, meets_in}
use Rattle.core_state_set.proofs.SetsBits.{bit_zero}
use Rattle.core_state_set.proofs.SetsWords.{word_is}

-- what the test of all words says
pub same-tested : (X Y : Set) {equal : Bool} → Proper X → Proper Y → equal ≡ pointwise nat_eq X Y → equal ≡ same X Y
unfolding same
same-tested X Y {equal} x y e =
    same_test equal (same X Y)
    (λ t.
    let reflexive : subset X X ≡ true = in_subset (λ s h. h) in
    subst (λ Z. (subset X Z && subset Z X) ≡ true) (same_text X Y (sym t ∙ e)) (and_intro (subset X X) (subset X X) reflexive reflexive))
    (λ t.
    let both = and_true (subset X Y) (subset Y X) t in
    e ∙ ap (pointwise nat_eq X) (sym (same_set X Y x y (subset_in both.0) (subset_in both.1))) ∙ nat_list_eq_equiv.refl X)

-- ---- no state

empty_word : (w : ℕ) → w < WORDS → get_or empty w 0 ≡ 0
unfolding empty
empty_word w h = sym (word_is (λ s. false) w h 0 (omega arith) (λ i l. bit_zero i))

-- words joined to z are at least it, and each of them, and 0 where all of that is 0
joined_most : (z : ℕ) (xs : Set) → z ≤ fold bit_or z xs
joined_most z [] = le_refl z
joined_most z (x ∷ xs) = omega (arith, joined_most (bit_or z x) xs, or_add_and z x, and_le_r z x)

pub joined_least : (z : ℕ) (xs : Set) → (v : ℕ) → get_or xs v 0 ≤ fold bit_or z xs
joined_least z [] v = omega arith
joined_least z (x ∷ xs) zero = omega (arith, joined_most (bit_or z x) xs, or_add_and z x, and_le_l z x)
joined_least z (x ∷ xs) (suc v) = joined_least (bit_or z x) xs v

pub joined_none : (z : ℕ) (xs : Set) → z ≡ 0 → ((v : ℕ) → v < length xs → get_or xs v 0 ≡ 0) → fold bit_or z xs ≡ 0
joined_none z [] e f = e
joined_none z (x ∷ xs) e f = joined_none (bit_or z x) xs (ap₂ bit_or e (f 0 (omega arith))) (λ v h. f (suc v) (omega arith))

pub joined_all : (X : Set) → Proper X → eqb (fold bit_or 0 X) 0 ≡ subset X empty
unfolding empty
joined_all X p =
    same_test (eqb (fold bit_or 0 X) 0) (subset X empty)
    (λ e.
    let zero : fold bit_or 0 X ≡ 0 = eqb-true (fold bit_or 0 X) 0 e in
    in_subset
    (⊆-of-eq
    (ext_get_or 0 X empty (p.long ∙ sym (set_of_proper _).long)
    (λ v h. is_zero v zero ∙ sym (empty_word v (omega (arith, p.long)))))))
    (λ e.
    let none = same_set X empty p (set_of_proper _) (subset_in e) (λ s h. absurd (empty_in h)) in
    eq-eqb (fold bit_or 0 X) 0 (joined_none 0 X refl (λ v h. ap (λ Z. get_or Z v 0) none ∙ empty_word v (omega (arith, p.long)))))
  where
    is_zero : (v : ℕ) → fold bit_or 0 X ≡ 0 → get_or X v 0 ≡ 0
    is_zero v e = omega (arith, joined_least 0 X v)

-- ---- inclusion and meeting, by a set made of both

pub subset-difference : (X Y : Set) → subset (difference X Y) empty ≡ subset X Y
subset-difference X Y =
    same_test (subset (difference X Y) empty) (subset X Y)
    (λ e. in_subset (λ s h. ⊎_elim (λ k. k) (λ out. absurd (empty_in (subset_in e s (in_difference h out)))) (in_or_out Y s)))
    (λ e. in_subset (λ s h. absurd ((difference_in h).1 (subset_in e s (difference_in h).0))))

pub meets-meet : (X Y : Set) → not (subset (meet X Y) empty) ≡ meets X Y
meets-meet X Y =
    same_test (not (subset (meet X Y) empty)) (meets X Y)
    (λ e.
    let w = subset_not (meet X Y) empty (not_true (subset (meet X Y) empty) e) in
    in_meets (meet_in w.1).0 (meet_in w.1).1)
    (λ e.
    let w = meets_in e in
    ap not (is_false (subset (meet X Y) empty) (λ k. empty_in (subset_in k w.0 (in_meet w.1 w.2)))))
