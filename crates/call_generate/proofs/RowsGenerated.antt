-- Laws of the successors of a state: numbers modulo n, as a set in a row.
--
--   remainder-state              what a divisor leaves is a state
--   remainders_wide              a set of WORDS words
--   Reducing xs n i old row      the first i numbers of xs, each modulo n, stand in a row that was old: a loop that puts them there
--   reducing_none, -more, -all   before its first turn; a turn; when it is done
--   numbers_inside               the numbers that state s takes are there
--   row_put                      the numbers that state s takes, so put where its row was lent
use Rattle.std.proofs.Common.{◌≡◌, ℕ, ◌+◌, ◌-◌, ◌*◌, ◌/◌, ◌%◌, ◌^◌, ◌<◌, ◌≤◌, Bool, ◌&&◌, eqb, List, length, get_or, take, drop, set, sym, refl, ap, ◌∙◌, ap₂, mod-lt, le_antisymm, add-one, arith, length-set, take-append-drop, get_or-take, drop-set-lt, lt-ltb, mul-le-mul_right, suc-mul}
use native.Mathlib.Nat.{add-sub_cancel_left}
use borrow.Rule.Slice.PartMut.{put_mid}
use lib.Bits.{bit_or}
use lib.Seq.{take-set-lt}
use Rattle.basics.specs.Bounds.{any}
use Rattle.model.specs.Sets.{WORDS, max_states, Set, set_of, empty, single, union, member}
use Rattle.model.specs.Stores.{row_at}
use Rattle.model.specs.Calls.{overwrite}
use Rattle.model.proofs.SetsMembers.{member-set_of, set_of_proper, set_of_cong, empty_proper}
use Rattle.core_state_set.proofs.SetsWords.{with_bit_lem}
use Rattle.core_table.specs.Writing.{overwrite_from}
use Rattle.core_table.proofs.StoresPut.{put_own, put_drop}
use Rattle.core_table.proofs.ListsOverwritten.{lent, lent_back}
use Rattle.call_generate.specs.Load.{long_lag, remainders, successors}
use Rattle.call_generate.specs.declared.Divisor.{Divisor}

pub remainder-state : (d : Divisor) (x : ℕ) {r t : ℕ} → t ≡ r → r ≡ x % d.n → t < max_states
remainder-state d x e r = omega (arith, e, r, mod-lt x d.some, d.small)

pub remainders_wide : (xs : List ℕ) (n : ℕ) → length (remainders xs n) ≡ WORDS
unfolding remainders
remainders_wide xs n = (set_of_proper _).long

-- ---- the first i numbers

unfoldable pub reduced : List ℕ → ℕ → ℕ → Set
reduced xs n i = set_of (λ t. any i (λ j. eqb t (get_or xs j 0 % n)))

-- a state that a set can hold is in a comprehension if it passes
passes : (p : ℕ → Bool) (s : ℕ) → s < max_states → member (set_of p) s ≡ p s
passes p s h = member-set_of p s ∙ ap (λ (b : Bool). b && p s) (lt-ltb s max_states h)

reduced_more : (xs : List ℕ) (n i : ℕ) → union (reduced xs n i) (single (get_or xs i 0 % n)) ≡ reduced xs n (i + 1)
unfolding reduced union single any
reduced_more xs n i =
    set_of_cong _ _ (λ t h. rw (passes (λ s. any i (λ j. eqb s (get_or xs j 0 % n))) t h, passes (λ s. eqb s (get_or xs i 0 % n)) t h, add-one i))

-- ---- a row

pub record Reducing (xs : List ℕ) (n i : ℕ) (old row : List ℕ) : Type 0 where
  pub long : length row ≡ length old
  pub front : take WORDS row ≡ reduced xs n i
  pub rest : drop WORDS row ≡ drop WORDS old

module _ (xs : List ℕ) (n : ℕ) where
  pub reducing_more : {i x t : ℕ} {old row : List ℕ} → Reducing xs n i old row → x ≡ get_or xs i 0 → t ≡ x % n → t < max_states
      → Reducing xs n (i + 1) old (set row (t / 64) (bit_or (get_or row (t / 64) 0) (1 * 2 ^ (t % 64) % 2 ^ 64)))
  unfolding reduced
  reducing_more {i} {x} {t} {old} {row} so e r h =
      let w = t / 64 in
      let word : w < WORDS = omega arith in
      let y = bit_or (get_or row w 0) (1 * 2 ^ (t % 64) % 2 ^ 64) in
      record {
        long = length-set row w y ∙ so.long;
        front =
            rw (take-set-lt WORDS row w y word, ← get_or-take WORDS row w 0 word, so.front)
            (with_bit_lem (reduced xs n i) t (set_of_proper _) word ∙ rw (r, e) (reduced_more xs n i));
        rest = drop-set-lt WORDS row w y word ∙ so.rest;
      }

  module _ (old start X : List ℕ) (room : WORDS ≤ length old) (e : X ≡ empty) (p : start ≡ overwrite_from 0 X old) where
    x_long : length X ≡ WORDS
    x_long = ap length e ∙ empty_proper.long

    pub reducing_none : Reducing xs n 0 start start
    unfolding reduced empty any
    reducing_none = record { long = refl; front = ap (take WORDS) p ∙ put_own 0 X old (omega (arith, x_long)) WORDS x_long ∙ e; rest = refl }

    pub reducing_all : {i : ℕ} {row : List ℕ} → Reducing xs n i start row → i ≤ length xs → length xs ≤ i → row ≡ overwrite (remainders xs n) old
    unfolding reduced remainders overwrite
    reducing_all {i} {row} so h l =
        sym (take-append-drop WORDS row)
        ∙ rw (so.front, le_antisymm h l, so.rest, p, put_drop 0 X old WORDS (omega (arith, x_long)) room, remainders_wide xs n)

-- ---- the row of a state

pub numbers_inside : (n f s : ℕ) {long : ℕ} → long_lag + n * f ≤ long → s < n → long_lag + s * f + f ≤ long
numbers_inside n f s h l = omega (arith, mul-le-mul_right f l, suc-mul s f)

pub row_put : (xs : List ℕ) (n f s : ℕ) (store rest : List ℕ) {from : ℕ} → from ≡ long_lag + s * f
    → rest ≡ overwrite (remainders (take (from + f - from) (drop from xs)) n) (lent (row_at s) store)
    → put_mid (row_at s) (length store - row_at s) store rest ≡ overwrite_from (row_at s) (successors xs n f s) store
unfolding successors
row_put xs n f s store rest {from} place e =
    lent_back (row_at s) store rest _ e
    ∙ ap₂ (λ (m p : ℕ). overwrite_from (row_at s) (remainders (take m (drop p xs)) n) store) (add-sub_cancel_left from f) place
