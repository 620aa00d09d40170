-- Bytes joined, to see whether there is one that is not 0.
--
--   joined_part          the bytes of a stretch joined are other than 0 where one of them is
--   non_zero_joined      all bytes likewise
--   non_zero_part        a stretch cut out has a byte that is not 0 where it has one in its place
use Prim.Native.Nat.{ℕ, zero, suc, ◌+◌, ◌-◌, ◌≤◌}
use native.Mathlib.Nat.{zero-add, add-zero, add-suc}
use native.Mathlib.Numerals.{add-one}
use native.Mathlib.Omega.{arith}
use mathlib.Core.Path.{◌≡◌, sym, ap, ◌∙◌}
use mathlib.Core.Bool.{not}
use mathlib.Core.List.{List}
use lib.Bits.{bit_or}
use lib.Dec.{eqb}
use lib.ListN.{length, get_or, take, drop, length-drop}
use lib.Seq.{get_or-drop, take-length}
use Rattle.std.specs.List.{fold}
use Rattle.std.proofs.lemmas.List.Sums.{fold_more}
use Rattle.model.specs.Stores.{non_zero}
use Rattle.core_table.proofs.StoresGrounds.{non_zero_start, non_zero_turn}

module _ (xs : List ℕ) (from : ℕ) where
  abbrev joined : ℕ → ℕ
  joined m = fold bit_or 0 (take m (drop from xs))

  first_joined : (m : ℕ) → from + m ≤ length xs → non_zero xs from (from + m) ≡ not (eqb (joined m) 0)
  first_joined zero h = ap (non_zero xs from) (add-zero from) ∙ non_zero_start xs from
  first_joined (suc m) h =
      let rest = drop from xs in
      let next : joined (m + 1) ≡ bit_or (joined m) (get_or xs (from + m) 0) =
      fold_more bit_or 0 rest m 0 (omega (arith, length-drop from xs)) ∙ ap (bit_or (joined m)) (get_or-drop from xs m 0) in
      ap (non_zero xs from) (add-suc from m ∙ sym (add-one (from + m)))
      ∙ non_zero_turn xs from (from + m) (joined m) (omega arith) (first_joined m (omega arith))
      ∙ ap (λ x. not (eqb x 0)) (sym next ∙ ap joined (add-one m))

  joined_part : (to : ℕ) → from ≤ to → to ≤ length xs → not (eqb (joined (to - from)) 0) ≡ non_zero xs from to
  joined_part to l h =
      let all : from + (to - from) ≡ to = omega arith in
      sym (first_joined (to - from) (omega arith)) ∙ ap (non_zero xs from) all

pub non_zero_joined : (xs : List ℕ) → not (eqb (fold bit_or 0 xs) 0) ≡ non_zero xs 0 (length xs)
non_zero_joined xs = ap (λ ys. not (eqb (fold bit_or 0 ys) 0)) (sym (take-length xs)) ∙ sym (first_joined xs 0 (length xs) (omega arith)) ∙ ap (non_zero xs 0) (zero-add (length xs))

pub non_zero_part : (xs : List ℕ) {from to : ℕ} → from ≤ to → to ≤ length xs → let part = take (to - from) (drop from xs) in non_zero part 0 (length part) ≡ non_zero xs from to
non_zero_part xs {from} {to} l h = sym (non_zero_joined (take (to - from) (drop from xs))) ∙ joined_part xs from to l h
