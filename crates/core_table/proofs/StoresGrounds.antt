-- Grounds 14 and 17 of a store, as the functions test them.
--
--   bad_many, bad_alone         too many states, or groups without one; not_bad: neither
--   beyond-is                   a set has a state from n up exactly if it is not inside the first n states
--   none-beyond, all-states     a set has none, nor has any, where n is the most that there can be
--   joined-none, -turn, -end    a loop that joins sets
--   joined-beyond               sets joined have a state from n up where one of them has
--   joined_words                sets joined have a state where one of their words in the store is not 0
--   or_none                     words joined are 0 just where each of them is
--   non_zero_hit                a word other than 0; non_zero_start, -turn, -end: a loop that joins words, to see whether there is one
--   non_zero_joined             the words of a stretch joined are other than 0 where one of them is
use Prim.Native.Nat.{ℕ, zero, suc, ◌+◌, ◌*◌, ◌-◌, ◌/◌, ◌^◌, ◌≤◌, ◌<◌}
use native.Mathlib.Nat.{not-suc-le-zero, le_antisymm}
use native.Mathlib.Numerals.{add-one}
use native.Mathlib.Omega.{arith}
use mathlib.Core.Path.{◌≡◌, refl, sym, ap, ap₂, ◌∙◌, subst}
use mathlib.Core.Logic.{inl, inr, ⊎_elim}
use mathlib.Core.Bool.{Bool, true, false, not, ◌&&◌, ◌||◌}
use mathlib.Core.List.{List}
use borrow.Author.Tests.{le-leb, leb-true, eqb-true, eq-eqb, ne_eqb, lt-leb, lt-ltb, le-ltb}
use lib.Bits.{bit_or, or_add_and, and_le_r}
use lib.Dec.{eqb, leb}
use lib.ListN.{length, get_or, take, drop, length-drop}
use lib.Seq.{length-take-le, get_or-take, get_or-drop}
use Rattle.std.specs.List.{fold}
use Rattle.basics.specs.Bounds.{any}
use Rattle.model.specs.Sets.{WORDS, max_states, Set, member, subset, first_states, empty, union}
use Rattle.model.specs.Stores.{set_at, beyond, non_zero, bad_states}
use Rattle.model.specs.RoundTrip.{Bounded}
use Rattle.basics.proofs.BoundLaws.{and_true, and_intro, or_intro, or_true as or_cases, is_false, same_test, lt_or_ge, below_suc, clash, decided, any_intro, any_find, no_any, not_true}
use Rattle.model.proofs.SetsMembers.{In, ◌⊆◌, in_bound, empty_in, in_first_states, first_states_in, in_union, union_in, union-empty, subset_in, in_subset, subset_not, ⊆-of-eq, same_set, empty_proper}
use Rattle.model.proofs.StoresTables.{set_at-empty, empty-set_at, set_at_proper, non_zero_zero, zero_non_zero}
use Rattle.core_state_set.proofs.SetsTests.{joined_least, joined_none}
use Rattle.core_table.specs.Joining.{union_of}

-- ---- ground 14

module _ (n g : ℕ) where
  pub bad_many : max_states < n → bad_states n g ≡ true
  unfolding bad_states
  bad_many h = rw (ne_eqb n 0 (λ e. omega arith)) (lt-ltb max_states n h)

  -- what `is_groups_alone` returns
  module _ {alone : Bool} (e : alone ≡ (eqb n 0 && not (eqb g 0))) where
    pub bad_alone : alone ≡ true → bad_states n g ≡ true
    unfolding bad_states
    bad_alone t = rw (sym e ∙ t)

    pub not_bad : n ≤ max_states → alone ≡ false → bad_states n g ≡ false
    unfolding bad_states
    not_bad h f = rw (sym e ∙ f) (le-ltb max_states n h)

-- ---- ground 17

beyond_in : (n : ℕ) (X : Set) → beyond n X ≡ true → (s : ℕ) × (n ≤ s) × In X s
unfolding beyond
beyond_in n X e =
    let w = any_find (λ s. leb n s && member X s) max_states e in
    let both = and_true (leb n w.0) (member X w.0) w.2 in
    (w.0, leb-true n w.0 both.0, record { is = both.1 })

in_beyond : (n : ℕ) (X : Set) {s : ℕ} → n ≤ s → In X s → beyond n X ≡ true
unfolding beyond
in_beyond n X {s} l h = any_intro (λ s. leb n s && member X s) max_states s (in_bound h) (and_intro (leb n s) (member X s) (le-leb n s l) h.is)

pub beyond-is : (n : ℕ) (X : Set) → not (subset X (first_states n)) ≡ beyond n X
beyond-is n X =
    same_test (not (subset X (first_states n))) (beyond n X)
    (λ e.
    let w = subset_not X (first_states n) (not_true (subset X (first_states n)) e) in
    in_beyond n X (⊎_elim (λ l. absurd (w.2 (in_first_states (in_bound w.1) l))) (λ l. l) (lt_or_ge w.0 n)) w.1)
    (λ e. let w = beyond_in n X e in ap not (is_false (subset X (first_states n)) (λ i. outside w.0 w.1 (subset_in i w.0 w.2))))
  where
    outside : (s : ℕ) → n ≤ s → In (first_states n) s → ⊥
    outside s h i = omega (arith, first_states_in i)

pub none-beyond : (n : ℕ) (X : Set) → max_states ≤ n → beyond n X ≡ false
none-beyond n X h = is_false (beyond n X) (λ e. let w = beyond_in n X e in omega (arith, in_bound w.2))

beyond-none : (n : ℕ) → beyond n empty ≡ false
beyond-none n = is_false (beyond n empty) (λ e. empty_in (beyond_in n empty e).2)

beyond-union : (n : ℕ) (X Y : Set) → beyond n (union X Y) ≡ (beyond n X || beyond n Y)
beyond-union n X Y =
    same_test (beyond n (union X Y)) (beyond n X || beyond n Y)
    (λ e.
    let w = beyond_in n (union X Y) e in
    or_intro (beyond n X) (beyond n Y) (⊎_elim (λ h. inl (in_beyond n X w.1 h)) (λ h. inr (in_beyond n Y w.1 h)) (union_in w.2)))
    (λ e.
    ⊎_elim (λ x. let w = beyond_in n X x in in_beyond n (union X Y) w.1 (in_union (inl w.2)))
    (λ y. let w = beyond_in n Y y in in_beyond n (union X Y) w.1 (in_union (inr w.2)))
    (or_cases (beyond n X) (beyond n Y) e))

-- the sets f 0, f 1, .. joined
module _ (f : ℕ → Set) where
  pub joined-none : empty ≡ union_of 0 f
  unfolding union_of
  joined-none = refl

  pub joined_turn : (j : ℕ) {out out' X : Set} → out ≡ union_of j f → X ≡ f j → out' ≡ union out X → out' ≡ union_of (j + 1) f
  unfolding union_of
  joined_turn j e x u = rw add-one (u ∙ ap₂ union e x)

  pub joined_end : (j count : ℕ) {out : Set} → j ≤ count → count ≤ j → out ≡ union_of j f → out ≡ union_of count f
  joined_end j count l h e = e ∙ ap (λ (k : ℕ). union_of k f) (le_antisymm l h)

  pub joined-beyond : (n count : ℕ) → beyond n (union_of count f) ≡ any count (λ i. beyond n (f i))
  unfolding union_of any
  joined-beyond n zero = beyond-none n
  joined-beyond n (suc count) = beyond-union n (union_of count f) (f count) ∙ ap (λ (b : Bool). b || beyond n (f count)) (joined-beyond n count)

  -- none has a state from n up where there are no such states
  pub all-states : (n count : ℕ) → max_states ≤ n → any count (λ i. beyond n (f i)) ≡ false
  all-states n count h = no_any _ count (λ k l. none-beyond n (f k) h)

  in_joined : (count j : ℕ) → j < count → f j ⊆ union_of count f
  unfolding union_of
  in_joined zero j h = absurd (not-suc-le-zero h)
  in_joined (suc count) j h = λ s i. in_union (⊎_elim (λ e. inr (subst (λ (k : ℕ). In (f k) s) e i)) (λ l. inl (in_joined count j l s i)) (below_suc h))

  joined-empty : (count : ℕ) → ((j : ℕ) → j < count → f j ≡ empty) → union_of count f ≡ empty
  unfolding union_of
  joined-empty zero e = refl
  joined-empty (suc count) e = ap₂ union (joined-empty count (λ j h. e j (omega arith))) (e count (omega arith)) ∙ union-empty empty empty_proper

-- the words of sets that lie one after the other in a store
module _ (xs : List ℕ) (at count : ℕ) (room : at + WORDS * count ≤ length xs) where
  abbrev set : ℕ → Set
  set j = set_at xs (at + WORDS * j)

  abbrev end : ℕ
  end = at + WORDS * count

  no_set : non_zero xs at end ≡ false → (j : ℕ) → j < count → set j ≡ empty
  no_set e j h = set_at-empty xs (at + WORDS * j) (omega arith) (λ w l. non_zero_zero xs at end e (at + WORDS * j + w) (omega arith) (omega arith))

  no_word : Bounded (2 ^ 64) xs → subset (union_of count set) empty ≡ true → (i : ℕ) → at ≤ i → i < end → get_or xs i 0 ≡ 0
  no_word fits e i l h =
      let j = (i - at) / WORDS in
      let proper = set_at_proper xs (at + WORDS * j) (omega arith) fits in
      let none = same_set (set j) empty proper empty_proper (λ s k. subset_in e s (in_joined set count j (omega arith) s k)) (λ s k. absurd (empty_in k)) in
      empty-set_at xs (at + WORDS * j) i none (omega arith) (omega arith)

  pub joined_words : Bounded (2 ^ 64) xs → not (subset (union_of count set) empty) ≡ non_zero xs at end
  joined_words fits =
      ⊎_elim
      (λ (p : non_zero xs at end ≡ true).
      ap not (is_false (subset (union_of count set) empty) (λ e. clash p (zero_non_zero xs at end (no_word fits e)))) ∙ sym p)
      (λ (p : non_zero xs at end ≡ false). ap not (in_subset (⊆-of-eq (joined-empty set count (no_set p)))) ∙ sym p)
      (decided (non_zero xs at end))

-- words joined are 0 just where each of them is
or_none : (a b : ℕ) → not (eqb (bit_or a b) 0) ≡ (not (eqb a 0) || not (eqb b 0))
or_none a b =
    ⊎_elim
    (λ (p : eqb a 0 ≡ true). rw (eqb-true a 0 p) refl)
    (λ (p : eqb a 0 ≡ false).
    let some : bit_or a b ≡ 0 → ⊥ = λ z. let n : a ≡ 0 → ⊥ = λ e. clash (eq-eqb a 0 e) p in n (omega (arith, or_add_and a b, and_le_r a b)) in
    rw (p, ne_eqb (bit_or a b) 0 some) refl)
    (decided (eqb a 0))

-- a loop that joins words, from `from` on
module _ (xs : List ℕ) (from : ℕ) where
  pub non_zero_start : non_zero xs from from ≡ false
  unfolding non_zero
  non_zero_start = no_any _ from (λ k l. rw (lt-leb from k l))

  pub non_zero_hit : (to i : ℕ) → from ≤ i → i < to → (get_or xs i 0 ≡ 0 → ⊥) → non_zero xs from to ≡ true
  unfolding non_zero
  non_zero_hit to i l h z = any_intro _ to i h (and_intro (leb from i) (not (eqb (get_or xs i 0) 0)) (le-leb from i l) (ap not (ne_eqb (get_or xs i 0) 0 z)))

  pub non_zero_turn : (i joined : ℕ) → from ≤ i → non_zero xs from i ≡ not (eqb joined 0) → non_zero xs from (i + 1) ≡ not (eqb (bit_or joined (get_or xs i 0)) 0)
  unfolding non_zero any
  non_zero_turn i joined l e =
      rw (add-one, le-leb from i l) (ap (λ (b : Bool). b || not (eqb (get_or xs i 0) 0)) e ∙ sym (or_none joined (get_or xs i 0)))

-- the words of a stretch, joined
module _ (xs : List ℕ) (from to : ℕ) (l : from ≤ to) (h : to ≤ length xs) where
  abbrev part : List ℕ
  part = take (to - from) (drop from xs)

  part_long : length part ≡ to - from
  part_long = length-take-le (to - from) (drop from xs) (omega (arith, length-drop from xs))

  part_word : (v : ℕ) → v < to - from → get_or part v 0 ≡ get_or xs (from + v) 0
  part_word v b = get_or-take (to - from) (drop from xs) v 0 b ∙ get_or-drop from xs v 0

  part_none : fold bit_or 0 part ≡ 0 → (i : ℕ) → from ≤ i → i < to → get_or xs i 0 ≡ 0
  part_none z i b e =
      let place : from + (i - from) ≡ i = omega arith in
      omega (arith, joined_least 0 part (i - from), part_word (i - from) (omega arith), ap (λ (j : ℕ). get_or xs j 0) place)

  pub non_zero_joined : not (eqb (fold bit_or 0 part) 0) ≡ non_zero xs from to
  non_zero_joined =
      ⊎_elim
      (λ (p : non_zero xs from to ≡ true).
      ap not (is_false (eqb (fold bit_or 0 part) 0) (λ z. clash p (zero_non_zero xs from to (part_none (eqb-true (fold bit_or 0 part) 0 z))))) ∙ sym p)
      (λ (p : non_zero xs from to ≡ false).
      ap not
      (eq-eqb (fold bit_or 0 part) 0
      (joined_none 0 part refl
      (λ v b.
      let inside : v < to - from = omega (arith, part_long) in
      part_word v inside ∙ non_zero_zero xs from to p (from + v) (omega arith) (omega arith))))
      ∙ sym p)
      (decided (non_zero xs from to))
