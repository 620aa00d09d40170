-- The list of a round: its first set, and the sets that are added to it.
--
--   not_forbidden-is              all states without the forbidden ones
--   covers-none, covers-add      the cover for no set; after a set is added
--   groups_last                  the last of some groups
--   group_added, added-all        the loop that adds the groups: after the last group left, and at its end
--   groups_cover                  with the groups added to no set, the cover is theirs
use Prim.Native.Nat.{ℕ, suc, ◌-◌, ◌*◌, ◌≤◌, ◌<◌}
use native.Mathlib.Omega.{arith}
use mathlib.Core.Path.{◌≡◌, refl, sym, ap, ◌∙◌, subst}
use mathlib.Core.List.{List, [], ◌∷◌, ◌++◌}
use lib.ListN.{replicate}
use Rattle.basics.specs.Bounds.{tabulate}
use Rattle.model.specs.Sets.{WORDS, max_states, Set, member, meet, difference, states, first_states}
use Rattle.model.specs.Tables.{cover_of, not_forbidden}
use Rattle.model.specs.Stores.{set_at}
use Rattle.basics.proofs.BoundLaws.{is_false, clash, tabulate_const}
use Rattle.model.proofs.SetsMembers.{set_of_proper, in_difference, difference_in, same_set}
use Rattle.model.proofs.CoverLaws.{in_not_forbidden, not_forbidden_in, not_forbidden-within}
use Rattle.core_rows.specs.Rows.{groups_in}
use Rattle.core_rows.proofs.RowsMapped.{map_at-tabulate}
use Rattle.core_fixpoints.specs.Steps.{covers}
use Rattle.core_rounds.specs.Adding.{narrowed, narrowed_by}

pub not_forbidden-is : (n : ℕ) (F : Set) → difference (first_states n) F ≡ not_forbidden n F
unfolding difference not_forbidden states
not_forbidden-is n F =
    same_set _ _ (set_of_proper _) (set_of_proper _)
    (λ s h. let both = difference_in h in in_not_forbidden n F both.0 (is_false (member F s) (λ e. both.1 (record { is = e }))))
    (λ s h. in_difference (not_forbidden-within n F s h) (λ k. clash k.is (not_forbidden_in n F h)))

-- ---- the cover

pub covers-add : (n : ℕ) (L : List Set) (Z : Set) → narrowed (covers n L) Z ≡ covers n (Z ∷ L)
unfolding narrowed covers cover_of
covers-add n L Z = map_at-tabulate (λ row. meet row Z) [] Z max_states (cover_of n L)

covers-none : (n : ℕ) {all : Set} → all ≡ first_states n → replicate max_states all ≡ covers n []
unfolding covers cover_of
covers-none n e = ap (replicate max_states) e ∙ tabulate_const max_states (first_states n)

-- ---- the groups

pub groups_last : (groups : List ℕ) (j : ℕ) → 0 < j → groups_in groups j ≡ groups_in groups (j - 1) ++ (set_at groups (WORDS * (j - 1)) ∷ [])
unfolding groups_in tabulate
groups_last groups j some = let k : suc (j - 1) ≡ j = omega arith in ap (groups_in groups) (sym k)

narrowed-last : (L : List Set) (X : Set) (cover : List Set) → narrowed_by (L ++ (X ∷ [])) cover ≡ narrowed_by L (narrowed cover X)
unfolding narrowed_by
narrowed-last [] X cover = refl
narrowed-last (Z ∷ L) X cover = ap (λ (C : List Set). narrowed C Z) (narrowed-last L X cover)

-- with the groups that are left added, all are
module _ (groups : List ℕ) {j : ℕ} {all : List Set} (before : List Set) (so : narrowed_by (groups_in groups j) before ≡ all) where
  pub group_added : {cover : List Set} → 0 < j → cover ≡ narrowed before (set_at groups (WORDS * (j - 1))) → narrowed_by (groups_in groups (j - 1)) cover ≡ all
  group_added some e =
      ap (narrowed_by (groups_in groups (j - 1))) e
      ∙ sym (narrowed-last (groups_in groups (j - 1)) (set_at groups (WORDS * (j - 1))) before)
      ∙ ap (λ (L : List Set). narrowed_by L before) (sym (groups_last groups j some))
      ∙ so

  pub added-all : j ≤ 0 → before ≡ all
  unfolding narrowed_by groups_in tabulate
  added-all none = let z : j ≡ 0 = omega arith in subst (λ (k : ℕ). narrowed_by (groups_in groups k) before ≡ all) z so

covers-list : (n : ℕ) (L : List Set) → narrowed_by L (covers n []) ≡ covers n L
unfolding narrowed_by
covers-list n [] = refl
covers-list n (Z ∷ L) = ap (λ (C : List Set). narrowed C Z) (covers-list n L) ∙ covers-add n L Z

pub groups_cover : (n : ℕ) (L : List Set) {all : Set} {cover : List Set} → all ≡ first_states n → cover ≡ narrowed_by L (replicate max_states all) → cover ≡ covers n L
groups_cover n L e c = c ∙ ap (narrowed_by L) (covers-none n e) ∙ covers-list n L
