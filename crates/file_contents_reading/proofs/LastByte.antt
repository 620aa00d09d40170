-- Ground 17 of one set of the contents: its states from n up are in its last byte, above the lowest n − 8 (w − 1) bits.
--
--   bit_above               the bits of a number from a place up
--   none_above, some_above  a last byte that has none there, or one: so has the set no state from n up, or one
--   beyond_last             the test of the last byte is that of the set
use Prim.Native.Nat.{ℕ, ◌+◌, ◌*◌, ◌-◌, ◌/◌, ◌%◌, ◌^◌, ◌≤◌, ◌<◌}
use native.Mathlib.Omega.{arith}
use mathlib.Core.Path.{◌≡◌, sym, ap, ap₂, ◌∙◌, subst}
use mathlib.Core.Logic.{⊎_elim}
use mathlib.Core.Bool.{true, false, not}
use mathlib.Core.List.{List}
use borrow.Author.Tests.{eqb-true, eqb-false}
use lib.Dec.{eqb}
use lib.ListN.{get_or}
use lib.Pow.{shr-shr, shr_lt}
use Rattle.basics.specs.Bounds.{first}
use Rattle.model.specs.Sets.{max_states, Set, bit, member}
use Rattle.model.specs.Stores.{beyond}
use Rattle.model.specs.Contents.{set_width, header_bytes, set_in, set_number}
use Rattle.basics.proofs.BoundLaws.{clash, decided, first_passes, lt_or_ge}
use Rattle.model.proofs.SetsBytes.{member-set_in, set_in_below}
use Rattle.model.proofs.StoresTables.{beyond_below, below_beyond}
use Rattle.core_state_set.proofs.SetsBits.{bit_zero, first_bit}

bit_above : (x d i : ℕ) → bit (x / 2 ^ d) i ≡ bit x (d + i)
unfolding bit
bit_above x d i = ap (λ (y : ℕ). eqb (y % 2) 1) (shr-shr x d i)

module _ (bytes : List ℕ) (n w at x : ℕ) (some : 0 < n) (width : w ≡ set_width n) (narrow : 8 * w ≤ max_states) (last : x ≡ get_or bytes (at + (w - 1)) 0) where
  abbrev X : Set
  X = set_in bytes w at

  abbrev above : ℕ
  above = x / 2 ^ (n - 8 * (w - 1))

  member_above : (i : ℕ) → n + i < 8 * w → member X (n + i) ≡ bit above i
  member_above i h =
      let byte : (n + i) / 8 ≡ w - 1 = omega arith in
      let place : (n + i) % 8 ≡ n - 8 * (w - 1) + i = omega arith in
      member-set_in bytes w at (n + i) (omega arith) h
      ∙ ap₂ (λ (j m : ℕ). bit (get_or bytes (at + j) 0) m) byte place
      ∙ ap (λ (y : ℕ). bit y (n - 8 * (w - 1) + i)) (sym last)
      ∙ sym (bit_above x (n - 8 * (w - 1)) i)

  none_above : above ≡ 0 → beyond n X ≡ false
  none_above e =
      below_beyond n X
      (λ s h.
      ⊎_elim (λ l. l)
      (λ l.
      let from : n + (s - n) ≡ s = omega arith in
      let in-set : member X (n + (s - n)) ≡ true = ap (member X) from ∙ h.is in
      let inside : n + (s - n) < 8 * w = omega (arith, set_in_below bytes w at s h) in
      absurd (clash in-set (member_above (s - n) inside ∙ ap (λ (y : ℕ). bit y (s - n)) e ∙ bit_zero (s - n))))
      (lt_or_ge s n))

  some_above : x < 256 → (above ≡ 0 → ⊥) → beyond n X ≡ true
  some_above small ne =
      let d = n - 8 * (w - 1) in
      let eight : 8 - d + d ≡ 8 = omega arith in
      let low = first_bit (8 - d) above (shr_lt (8 - d) d (subst (λ (m : ℕ). x < 2 ^ m) (sym eight) small)) ne in
      let i = first (8 - d) (bit above) in
      let in-set : member X (n + i) ≡ true = member_above i (omega arith) ∙ first_passes (bit above) (8 - d) low in
      ⊎_elim (λ t. t)
      (λ f. absurd (let below = beyond_below n X f (n + i) (record { is = in-set }) in omega arith))
      (decided (beyond n X))

pub beyond_last : (bytes : List ℕ) (n w k x : ℕ) → 0 < n → w ≡ set_width n → 8 * w ≤ max_states → x ≡ get_or bytes (header_bytes + w * k + (w - 1)) 0 → x < 256
    → not (eqb (x / 2 ^ (n - 8 * (w - 1))) 0) ≡ beyond n (set_number bytes n k)
unfolding set_number
beyond_last bytes n w k x some width narrow last small =
    let at = header_bytes + w * k in
    let y = x / 2 ^ (n - 8 * (w - 1)) in
    ⊎_elim
    (λ t. ap not t ∙ sym (none_above bytes n w at x some width narrow last (eqb-true y 0 t)))
    (λ f. ap not f ∙ sym (some_above bytes n w at x some width narrow last small (eqb-false y 0 f)))
    (decided (eqb y 0))
    ∙ ap (λ (v : ℕ). beyond n (set_in bytes v (header_bytes + v * k))) width
