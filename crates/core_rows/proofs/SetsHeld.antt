-- The states of a word that are in hold, gathered bit by bit.
--
--   lowest_place, lowest_bit       the lowest bit of a number that is not 0: its place, and that it is one
--   Gathering                      the invariant: with what passes of the bits that are left, what is gathered is what passes of all
--   gather_start, gather_taken, gather_skipped     before the first bit; one more, which passes or does not
--   gather_end                     when no bit is left: the word of the states of a set that are in hold
use Prim.Native.Nat.{ℕ, ◌+◌, ◌-◌, ◌*◌, ◌%◌, ◌^◌, ◌<◌}
use native.Mathlib.Omega.{arith}
use mathlib.Core.Path.{◌≡◌, refl, sym, ap, ap₂, ◌∙◌, subst}
use mathlib.Core.Logic.{⊎_elim}
use mathlib.Core.Bool.{Bool, true, false, not, ◌&&◌, ◌||◌}
use mathlib.Core.List.{List}
use Rattle.std.specs.Prelude.{Some}
use borrow.Author.Tests.{eqb-true}
use lib.Dec.{eqb}
use lib.Bits.{bit_and, bit_or, or_lt}
use lib.Pow.{pow-lt}
use lib.Count.{count_trailing_zeros}
use lib.ListN.{get_or}
use mir.Syntax.{w64}
use mir.Val.{Fits}
use Rattle.model.specs.Sets.{WORDS, Set, bit, member, subset}
use Rattle.basics.proofs.BoundLaws.{decided, clash, first_passes}
use Rattle.model.proofs.SetsMembers.{Proper, set_of_proper, member_at}
use Rattle.core_state_set.proofs.SetsBits.{bit_of_or, bit_zero, bit_power, bit_lowest, one_shl, trailing_first, first_bit}
use Rattle.core_state_set.proofs.SetsWords.{word_is}
use Rattle.core_state_set.proofs.SetsByWord.{word_less}
use Rattle.core_rows.specs.Ones.{gives_lowest}
use Rattle.core_rows.specs.Rows.{row_in, meet_hold}

module _ (rest : ℕ) (fits : rest < 2 ^ 64) (some : rest ≡ 0 → ⊥) where
  pub lowest_place : count_trailing_zeros 64 rest < 64
  lowest_place = rw trailing_first (first_bit 64 rest fits some)

  lowest_bit : bit rest (count_trailing_zeros 64 rest) ≡ true
  lowest_bit = rw trailing_first (first_passes (bit rest) 64 (first_bit 64 rest fits some))

pub record Gathering (p : ℕ → Bool) (bits rest kept : ℕ) : Type 0 where
  pub fits : rest < 2 ^ 64
  pub small : kept < 2 ^ 64
  pub is : (i : ℕ) → (bit kept i || (bit rest i && p i)) ≡ (bit bits i && p i)

pub gather_start : (p : ℕ → Bool) (bits : ℕ) → Fits w64 bits → Gathering p bits bits 0
gather_start p bits f = record { fits = f.fits; small = omega arith; is = λ i. rw (bit_zero i) }

-- the lowest bit, e, leaves the rest r, and joins what is kept, k, where it passes
leave : (k r p e : Bool) → (e ≡ true → r ≡ true) → ((k || (e && p)) || ((r && not e) && p)) ≡ (k || (r && p))
leave true r p e h = refl
leave false true true true h = refl
leave false true false true h = refl
leave false false p true h = absurd (clash (h refl) refl)
leave false true p false h = refl
leave false false p false h = refl

or_zero : (a : Bool) {b : Bool} → b ≡ false → a ≡ (a || b)
or_zero true e = refl
or_zero false e = sym e

module _ {p : ℕ → Bool} {bits rest kept : ℕ} (so : Gathering p bits rest kept) where
  module _ (some : rest ≡ 0 → ⊥) where
    abbrev t : ℕ
    t = count_trailing_zeros 64 rest

    gather_turn : {kept' : ℕ} → kept' < 2 ^ 64 → ((i : ℕ) → bit kept' i ≡ (bit kept i || (eqb i t && p i))) → Gathering p bits (bit_and rest (rest - 1)) kept'
    gather_turn s e =
        record {
          fits = omega (arith, word_less rest some, so.fits);
          small = s;
          is = λ i.
              ap₂ (λ (a b : Bool). a || (b && p i)) (e i) (bit_lowest rest i (omega arith) so.fits)
              ∙ leave (bit kept i) (bit rest i) (p i) (eqb i t) (λ q. ap (bit rest) (eqb-true i t q) ∙ lowest_bit rest so.fits some)
              ∙ so.is i;
        }

    gather_take : {kept' : ℕ} → p t ≡ true → kept' ≡ bit_or kept (1 * 2 ^ t % 2 ^ 64) → Gathering p bits (bit_and rest (rest - 1)) kept'
    gather_take m e =
        let place = lowest_place rest so.fits some in
        let joined = e ∙ ap (bit_or kept) (one_shl t place) in
        gather_turn (rw joined (or_lt 64 kept (2 ^ t) so.small (pow-lt place)))
        (λ i.
        ap (λ (x : ℕ). bit x i) joined
        ∙ bit_of_or kept (2 ^ t) i
        ∙ ap (λ (b : Bool). bit kept i || b)
        (bit_power t i ∙ ⊎_elim (λ q. rw (ap p (eqb-true i t q) ∙ m) (rw q)) (λ q. rw q) (decided (eqb i t))))

    gather_skip : {kept' : ℕ} → p t ≡ false → kept' ≡ kept → Gathering p bits (bit_and rest (rest - 1)) kept'
    gather_skip m e =
        gather_turn (rw e so.small)
        (λ i. ap (λ (x : ℕ). bit x i) e ∙ or_zero (bit kept i) (⊎_elim (λ q. rw (ap p (eqb-true i t q) ∙ m) (rw q)) (λ q. rw q) (decided (eqb i t))))

  module _ {i rest' kept' : ℕ} (s : gives_lowest rest (Some i) rest') where
    next_is : Gathering p bits (bit_and rest (rest - 1)) kept' → Gathering p bits rest' kept'
    next_is = subst (λ (r : ℕ). Gathering p bits r kept') (sym s.3)

    pub gather_taken : p i ≡ true → kept' ≡ bit_or kept (1 * 2 ^ i % 2 ^ 64) → Gathering p bits rest' kept'
    gather_taken m e = next_is (gather_take s.1 (ap p (sym s.2) ∙ m) (e ∙ ap (λ (k : ℕ). bit_or kept (1 * 2 ^ k % 2 ^ 64)) s.2))

    pub gather_skipped : p i ≡ false → kept' ≡ kept → Gathering p bits rest' kept'
    gather_skipped m e = next_is (gather_skip s.1 (ap p (sym s.2) ∙ m) e)

-- word w of the states of X that are in hold(Y)
pub gather_end : (rows : List ℕ) (X Y : Set) (w : ℕ) {rest kept : ℕ} → w < WORDS → Gathering (λ i. subset (row_in rows (64 * w + i)) Y) (get_or X w 0) rest kept → rest ≡ 0
    → kept ≡ get_or (meet_hold rows X Y) w 0
unfolding meet_hold
gather_end rows X Y w {rest} {kept} h so z =
    word_is (λ s. member X s && subset (row_in rows s) Y) w h kept so.small
    (λ i l.
    or_zero (bit kept i) (ap (λ (x : ℕ). bit x i && subset (row_in rows (64 * w + i)) Y) z ∙ ap (λ (b : Bool). b && subset (row_in rows (64 * w + i)) Y) (bit_zero i))
    ∙ so.is i
    ∙ ap (λ (b : Bool). b && subset (row_in rows (64 * w + i)) Y) (sym (member_at X w i h l)))

pub meet_hold_proper : (rows : List ℕ) (X Y : Set) → Proper (meet_hold rows X Y)
unfolding meet_hold
meet_hold_proper rows X Y = set_of_proper _
