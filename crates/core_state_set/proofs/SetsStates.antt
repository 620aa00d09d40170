-- Loops that go through the states of a set, rising.
--
--   filter_or                         what one of two tests passes, where the numbers that pass the first come first
--   members-none, members_peel        the list of no states; the least state, and the rest
--   union-member                      membership in a union, by the two tests
--   one_word                          the set with one word is the states of that word
--   left_start, left_skip             what is left at the start is the whole set; a word of which nothing is left
--   left_none, left_take              nothing is left past the last word; the lowest one is the first state that is left
--   takes_of                          what is taken from a set is taken from an equal one
use Prim.Native.Nat.{ℕ, zero, suc, ◌+◌, ◌-◌, ◌*◌, ◌/◌, ◌%◌, ◌^◌, ◌≤◌, ◌<◌}
use native.Mathlib.Nat.{not-suc-le-zero}
use native.Mathlib.Omega.{arith}
use mathlib.Core.Path.{◌≡◌, refl, sym, ap, ◌∙◌, subst}
use mathlib.Core.Logic.{◌⊎◌, inl, inr, ⊎_elim}
use mathlib.Core.Bool.{Bool, true, false, cond, ◌||◌}
use mathlib.Core.List.{List, [], ◌∷◌, ◌++◌, append_assoc, append-nil}
use borrow.Author.Tests.{eqb-true, eqb-false, ltb-true, lt-ltb}
use lib.Bits.{bit_and}
use lib.Count.{count_trailing_zeros}
use lib.Dec.{eqb, ltb}
use lib.ListN.{get_or, set, length-set}
use lib.Seq.{get_or-set_same, get_or-set_other}
use Rattle.std.specs.Prelude.{Some}
use Rattle.basics.specs.Bounds.{filter}
use Rattle.model.specs.Sets.{WORDS, max_states, Set, bit, member, single, union, difference, empty, members}
use Rattle.basics.proofs.BoundLaws.{and_true, and_intro, is_false, decided, same_test, below_suc, lt_or_ge, or_intro, or_true, clash}
use Rattle.model.proofs.SetsCounted.{filter_none}
use Rattle.model.proofs.SetsMembers.{Proper, set_of_proper, union_proper, empty_proper, In, in_bound, in_set_of, set_of_in, in_single, single_in, empty_in, in_union, union_in, in_difference, difference_in, in_or_out, same_set}
use Rattle.core_state_set.specs.WordSets.{word_set, words_above, left_of, Takes}
use Rattle.core_state_set.proofs.SetsBits.{bit_zero}
use Rattle.core_state_set.proofs.SetsByWord.{in_word_set, word_set_in, word_member, low_lt, word_lowest, word_least, word_rest}

-- ---- numbers that pass a test

filter_one : (p : ℕ → Bool) (x n : ℕ) → x < n → p x ≡ true → ((k : ℕ) → p k ≡ true → k ≡ x) → filter n p ≡ x ∷ []
unfolding filter
filter_one p x zero h t only = absurd (not-suc-le-zero h)
filter_one p x (suc n) h t only =
    ⊎_elim
    (λ (e : x ≡ n).
    let none = filter_none p n (λ k l. is_false (p k) (λ q. let z : k ≡ x = only k q in omega arith)) in
    let here : p n ≡ true = subst (λ (y : ℕ). p y ≡ true) e t in
    rw (none, here) (ap (λ (y : ℕ). y ∷ []) (sym e)))
    (λ (l : x < n).
    let past : p n ≡ false = is_false (p n) (λ q. let z : n ≡ x = only n q in omega arith) in
    rw (filter_one p x n l t only, past))
    (below_suc h)

module _ (p q r : ℕ → Bool) (either : (k : ℕ) → r k ≡ (p k || q k)) where
  filter_or : ((k l : ℕ) → p k ≡ true → q l ≡ true → k < l) → (n : ℕ) → filter n r ≡ filter n p ++ filter n q
  unfolding filter
  filter_or first zero = refl
  filter_or first (suc n) =
      ⊎_elim
      (λ (t : p n ≡ true).
      let none = filter_none q n (λ k h. is_false (q k) (λ e. let l : n < k = first n k t e in omega arith)) in
      let out : q n ≡ false = is_false (q n) (λ e. let l : n < n = first n n t e in omega arith) in
      let here : r n ≡ true = either n ∙ ap (λ (b : Bool). b || q n) t in
      rw (filter_or first n, none, out, t, here) (ap (λ (xs : List ℕ). xs ++ (n ∷ [])) (append-nil (filter n p)) ∙ sym (append-nil (filter n p ++ (n ∷ [])))))
      (λ (f : p n ≡ false).
      let here : r n ≡ q n = either n ∙ ap (λ (b : Bool). b || q n) f in
      rw (filter_or first n, f, here)
      (append_assoc (filter n p) (filter n q) (cond (q n) (n ∷ []) []) ∙ ap (λ (xs : List ℕ). xs ++ (filter n q ++ cond (q n) (n ∷ []) [])) (sym (append-nil (filter n p)))))
      (decided (p n))

-- ---- the states of a set

pub members-none : {X : Set} → ((s : ℕ) → In X s → ⊥) → members X ≡ []
unfolding members
members-none {X} none = filter_none (member X) max_states (λ k h. is_false (member X k) (λ e. none k (record { is = e })))

pub union-member : (X Y : Set) (s : ℕ) → member (union X Y) s ≡ (member X s || member Y s)
union-member X Y s =
    same_test (member (union X Y) s) (member X s || member Y s)
    (λ e. or_intro (member X s) (member Y s) (⊎_elim (λ h. inl h.is) (λ h. inr h.is) (union_in {X = X} {Y = Y} (record { is = e }))))
    (λ e. (in_union {X = X} {Y = Y} (⊎_elim (λ h. inl (record { is = h })) (λ h. inr (record { is = h })) (or_true (member X s) (member Y s) e))).is)

-- a state and the rest
split_member : (X : Set) (x : ℕ) → In X x → (s : ℕ) → member X s ≡ (member (single x) s || member (difference X (single x)) s)
split_member X x h s =
    same_test (member X s) (member (single x) s || member (difference X (single x)) s)
    (λ e.
    or_intro (member (single x) s) (member (difference X (single x)) s)
    (⊎_elim (λ (i : In (single x) s). inl i.is) (λ o. inr (in_difference {X = X} {Y = single x} (record { is = e }) o).is) (in_or_out (single x) s)))
    (λ e.
    ⊎_elim (λ i. subst (λ (y : ℕ). member X y ≡ true) (sym (single_in {x = x} {s = s} (record { is = i }))) h.is)
    (λ d. (difference_in {X = X} {Y = single x} {s = s} (record { is = d })).0.is)
    (or_true (member (single x) s) (member (difference X (single x)) s) e))

members_peel : (X : Set) (x : ℕ) → In X x → ((s : ℕ) → In X s → x ≤ s) → members X ≡ x ∷ members (difference X (single x))
unfolding members
members_peel X x h least =
    filter_or (member (single x)) (member (difference X (single x))) (member X) (split_member X x h)
    (λ k l a b.
    let e : k ≡ x = single_in {x = x} {s = k} (record { is = a }) in
    let d = difference_in {X = X} {Y = single x} {s = l} (record { is = b }) in
    let other : l ≡ x → ⊥ = λ q. d.1 (subst (λ (y : ℕ). In (single x) y) (sym q) (in_single (in_bound h))) in
    before k l e (least l d.0) other)
    max_states
    ∙ ap (λ (xs : List ℕ). xs ++ members (difference X (single x))) (filter_one (member (single x)) x max_states (in_bound h) (in_single (in_bound h)).is (λ k e. single_in {x = x} {s = k} (record { is = e })))
  where
    before : (k l : ℕ) → k ≡ x → x ≤ l → (l ≡ x → ⊥) → k < l
    before k l e m o = omega arith

-- ---- one word

module _ (w x : ℕ) (word : w < WORDS) (fits : x < 2 ^ 64) where
  one_at : (v : ℕ) → (v ≡ w → get_or (set empty w x) v 0 ≡ x) × ((v ≡ w → ⊥) → get_or (set empty w x) v 0 ≡ get_or empty v 0)
  one_at v =
      (λ e. subst (λ (u : ℕ). get_or (set empty w x) u 0 ≡ x) (sym e) (get_or-set_same empty w x 0 (omega (arith, empty_proper.long))), λ o. get_or-set_other empty w v x 0 o)

  one_proper : Proper (set empty w x)
  one_proper =
      record {
        long = length-set empty w x ∙ empty_proper.long;
        fits = λ v h. ⊎_elim (λ e. let at = (one_at v).0 (eqb-true v w e) in omega (arith, at, fits)) (λ e. let at = (one_at v).1 (eqb-false v w e) in omega (arith, at, empty_proper.fits v h)) (decided (eqb v w));
      }

  pub one_word : set empty w x ≡ word_set w x
  unfolding word_set
  one_word =
      same_set _ _ one_proper (set_of_proper _)
      (λ s m.
      let bit_is = sym (word_member (set empty w x) (s / 64) s (omega (arith, in_bound m)) refl) ∙ m.is in
      ⊎_elim (λ e. let here = eqb-true (s / 64) w e in in_word_set w x (in_bound m) here (ap (λ (y : ℕ). bit y (s % 64)) (sym ((one_at (s / 64)).0 here)) ∙ bit_is))
      (λ e. let other = eqb-false (s / 64) w e in absurd (empty_in {s = s} (record { is = word_member empty (s / 64) s (omega (arith, in_bound m)) refl ∙ ap (λ (y : ℕ). bit y (s % 64)) (sym ((one_at (s / 64)).1 other)) ∙ bit_is })))
      (decided (eqb (s / 64) w)))
      (λ s m.
      let at = word_set_in w x m in
      record { is = word_member (set empty w x) (s / 64) s (omega (arith, in_bound m)) refl ∙ ap (λ (y : ℕ). bit y (s % 64)) ((one_at (s / 64)).0 at.0) ∙ at.1 })

-- ---- what is left

in_above : (w : ℕ) (X : Set) {s : ℕ} → w < s / 64 → In X s → In (words_above w X) s
unfolding words_above
in_above w X {s} l h = in_set_of _ (in_bound h) (and_intro (ltb w (s / 64)) (member X s) (lt-ltb w (s / 64) l) h.is)

above_in : (w : ℕ) (X : Set) {s : ℕ} → In (words_above w X) s → (w < s / 64) × In X s
unfolding words_above
above_in w X {s} h =
    let both = and_true (ltb w (s / 64)) (member X s) (set_of_in _ h) in
    (ltb-true w (s / 64) both.0, record { is = both.1 })

-- of the word that a state is in, or of a later one
abbrev Left : ℕ → ℕ → Set → ℕ → Type 0
Left w x X s = In (word_set w x) s ⊎ ((w < s / 64) × In X s)

in_left : (w x : ℕ) (X : Set) {s : ℕ} → Left w x X s → In (left_of w x X) s
in_left w x X h = in_union (⊎_elim inl (λ l. inr (in_above w X l.0 l.1)) h)

left_in : (w x : ℕ) (X : Set) {s : ℕ} → In (left_of w x X) s → Left w x X s
left_in w x X h = ⊎_elim inl (λ r. inr (above_in w X r)) (union_in h)

word_to_set : (w : ℕ) (X : Set) → w < WORDS → {s : ℕ} → In (word_set w (get_or X w 0)) s → In X s
word_to_set w X h {s} m =
    let at = word_set_in w (get_or X w 0) m in
    record { is = word_member X w s h at.0 ∙ at.1 }

set_to_word : (w : ℕ) (X : Set) → w < WORDS → {s : ℕ} → s / 64 ≡ w → In X s → In (word_set w (get_or X w 0)) s
set_to_word w X h {s} e m = in_word_set w (get_or X w 0) (in_bound m) e (sym (word_member X w s h e) ∙ m.is)

no_ones : (w : ℕ) {s : ℕ} → In (word_set w 0) s → ⊥
no_ones w {s} z = clash (word_set_in w 0 z).1 (bit_zero (s % 64))

-- a state of word w or of a later one, by whether it is of w
here_or_later : (w : ℕ) (X : Set) → w < WORDS → {s : ℕ} → w ≤ s / 64 → In X s → Left w (get_or X w 0) X s
here_or_later w X h {s} l m =
    ⊎_elim (λ (later : w < s / 64). inr (later, m))
    (λ (here : s / 64 ≤ w). let e : s / 64 ≡ w = omega arith in inl (set_to_word w X h e m))
    (lt_or_ge w (s / 64))

pub left_start : (X : Set) → Proper X → left_of 0 (get_or X 0 0) X ≡ X
left_start X p =
    same_set _ _ (union_proper _ _) p
    (λ s m. ⊎_elim (λ z. word_to_set 0 X (omega arith) z) (λ r. r.1) (left_in 0 (get_or X 0 0) X m))
    (λ s m. in_left 0 (get_or X 0 0) X (here_or_later 0 X (omega arith) (omega arith) m))

pub left_skip : (w : ℕ) (X : Set) → w + 1 < WORDS → left_of w 0 X ≡ left_of (w + 1) (get_or X (w + 1) 0) X
left_skip w X h =
    same_set _ _ (union_proper _ _) (union_proper _ _)
    (λ s m.
    in_left (w + 1) (get_or X (w + 1) 0) X
    (⊎_elim (λ z. absurd (no_ones w z)) (λ r. here_or_later (w + 1) X h (omega (arith, r.0)) r.1) (left_in w 0 X m)))
    (λ s m.
    in_left w 0 X
    (⊎_elim (λ z. inr (word_after s (word_set_in (w + 1) _ z).0, word_to_set (w + 1) X h z)) (λ r. inr (after s r.0, r.1))
    (left_in (w + 1) (get_or X (w + 1) 0) X m)))
  where
    word_after : (s : ℕ) → s / 64 ≡ w + 1 → w < s / 64
    word_after s e = omega arith

    after : (s : ℕ) → w + 1 < s / 64 → w < s / 64
    after s l = omega arith

pub left_none : (w : ℕ) (X : Set) → WORDS ≤ w + 1 → left_of w 0 X ≡ empty
unfolding empty
left_none w X h =
    same_set _ _ (union_proper _ _) (set_of_proper _)
    (λ s m. ⊎_elim (λ z. absurd (no_ones w z)) (λ r. absurd (past s h r.0 (in_bound r.1))) (left_in w 0 X m))
    (λ s m. absurd (empty_in m))
  where
    past : (s : ℕ) → WORDS ≤ w + 1 → w < s / 64 → s < max_states → ⊥
    past s h l b = omega arith

module _ (w x : ℕ) (X : Set) (word : w < WORDS) (fits : x < 2 ^ 64) (some : x ≡ 0 → ⊥) where
  later : {s : ℕ} → w < s / 64 → 64 * w + count_trailing_zeros 64 x < s
  later {s} l = omega (arith, low_lt w x word fits some)

  -- the lowest one is the least state that is left
  left_rest : difference (left_of w x X) (single (64 * w + count_trailing_zeros 64 x)) ≡ left_of w (bit_and x (x - 1)) X
  unfolding difference
  left_rest =
      same_set _ _ (set_of_proper _) (union_proper _ _)
      (λ s m.
      let d = difference_in m in
      in_left w (bit_and x (x - 1)) X
      (⊎_elim (λ z. inl (subst (λ (Y : Set). In Y s) (sym (word_rest w x word fits some)) (in_difference z d.1))) (λ r. inr r) (left_in w x X d.0)))
      (λ s m.
      ⊎_elim
      (λ z.
      let d = difference_in (subst (λ (Y : Set). In Y s) (word_rest w x word fits some) z) in
      in_difference (in_left w x X (inl d.0)) d.1)
      (λ r. in_difference (in_left w x X (inr r)) (λ k. apart s (later r.0) (single_in k)))
      (left_in w (bit_and x (x - 1)) X m))
    where
      apart : (s : ℕ) → 64 * w + count_trailing_zeros 64 x < s → s ≡ 64 * w + count_trailing_zeros 64 x → ⊥
      apart s l e = omega arith

  pub left_take : Takes (left_of w x X) (Some (64 * w + count_trailing_zeros 64 x)) (left_of w (bit_and x (x - 1)) X)
  left_take =
      let here = in_left w x X (inl (word_lowest w x word fits some)) in
      let first =
      members_peel (left_of w x X) (64 * w + count_trailing_zeros 64 x) here
      (λ s m. ⊎_elim (λ z. word_least w x word fits some z) (λ r. no_less s (later r.0)) (left_in w x X m)) in
      (here.is, sym left_rest, first ∙ ap (λ (Y : Set). (64 * w + count_trailing_zeros 64 x) ∷ members Y) left_rest)
    where
      no_less : (s : ℕ) → 64 * w + count_trailing_zeros 64 x < s → 64 * w + count_trailing_zeros 64 x ≤ s
      no_less s l = omega arith

pub takes_of : {Y Y' Z : Set} {s : ℕ} → Y ≡ Y' → Takes Y (Some s) Z → Takes Y' (Some s) Z
takes_of {Z = Z} {s = s} e h = subst (λ (Y : Set). Takes Y (Some s) Z) e h
