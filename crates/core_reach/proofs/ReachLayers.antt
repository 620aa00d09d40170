-- The search by layers from a set X, over the rows f that are lent or over those transposed: what is found after k turns, and the layer that is new.
--
--   step_by f X Y                     X and what the rows of the states in Y hold; step_by_mono, -proper: it grows with Y, and is a proper set
--   before f X k                     the states that fewer than k steps lead to from X; before_grows, before_mono: more with k
--   Layered f X k found layer        after k turns: what at most k steps lead to, and what no fewer do
--   layered_start, layered_turn      where it starts, and a turn
--   layered_less, layered_below      a layer with a state makes more found, so there are fewer layers than states
--   layered_expanded                 what was looked at already
--   layered_still, layered_end       with an empty layer no step finds more, and what is found is the least solution
use Prim.Native.Nat.{ℕ, suc, ◌≤◌, ◌<◌, zero-le}
use native.Mathlib.Decide.{le_ind}
use native.Mathlib.Omega.{arith}
use mathlib.Core.Path.{◌≡◌, sym, ap, ◌∙◌, subst}
use mathlib.Core.Logic.{◌⊎◌, inl, inr, ⊎_elim}
use mathlib.Core.Bool.{true, false}
use Rattle.model.specs.Sets.{max_states, Set, empty, union, difference, subset, size, image}
use Rattle.model.specs.Rounds.{iterate}
use Rattle.model.specs.Promises.{IsLeast}
use Rattle.basics.proofs.BoundLaws.{lt_or_ge}
use Rattle.model.proofs.SetsMembers.{Proper, set_of_proper, In, in_bound, in_first_states, in_or_out, empty_in, in_union, union_in, in_difference, difference_in, ◌⊆◌, ⊆-of-eq, subset_in, in_subset, subset_not, same_set, union_assoc, union-empty}
use Rattle.model.proofs.SetsCounted.{size_lt, size-most}
use Rattle.model.proofs.Fixpoints.{iterate_suc, iterate_has, iterate-still, from_below}
use Rattle.model.proofs.SetsImages.{image_mono, image-none, image-union}

union-rest : (X Y : Set) → union X (difference Y X) ≡ union X Y
unfolding union
union-rest X Y =
    same_set _ _ (set_of_proper _) (set_of_proper _) (λ s h. in_union (⊎_elim inl (λ i. inr (difference_in i).0) (union_in h)))
    (λ s h. in_union (⊎_elim inl (λ i. ⊎_elim inl (λ o. inr (in_difference i o)) (in_or_out X s)) (union_in h)))

module _ (f : ℕ → Set) (X : Set) where
  abbrev pub step_by : Set → Set
  step_by Y = union X (image max_states f Y)

  step_by_mono : (Y Z : Set) → Y ⊆ Z → step_by Y ⊆ step_by Z
  step_by_mono Y Z i s h = in_union (⊎_elim inl (λ b. inr (image_mono max_states f Y Z i s b)) (union_in h))

  pub step_by_proper : (Y : Set) → Proper (step_by Y)
  unfolding union
  step_by_proper Y = set_of_proper _

  abbrev pub before : ℕ → Set
  before k = iterate step_by empty k

  before_proper : (k : ℕ) → Proper (before k)
  unfolding empty
  before_proper = iterate_has Proper step_by empty (set_of_proper _) (λ Y h. step_by_proper Y)

  pub before_grows : (k : ℕ) → before k ⊆ before (suc k)
  unfolding iterate
  before_grows = iterate_has (λ Y. Y ⊆ step_by Y) step_by empty (λ s h. absurd (empty_in h)) (λ Y i. step_by_mono Y (step_by Y) i)

  pub before_mono : (j k : ℕ) → j ≤ k → before j ⊆ before k
  before_mono j = le_ind (λ k. before j ⊆ before k) (λ s h. h) (λ k l i s h. before_grows k s (i s h))

pub record Layered (f : ℕ → Set) (X : Set) (k : ℕ) (found layer : Set) : Type 0 where
  pub found-is : found ≡ before f X (suc k)
  pub proper : Proper layer
  pub new : (s : ℕ) → In layer s → In (before f X (suc k)) s × (In (before f X k) s → ⊥)
  pub all : (s : ℕ) → In (before f X (suc k)) s → In (before f X k) s ⊎ In layer s
  pub counted : k ≤ size (before f X k)
  pub bounded : k ≤ max_states

module _ (f : ℕ → Set) (X : Set) where
  pub layered_start : Proper X → Layered f X 0 X X
  unfolding iterate
  layered_start p =
      let first = sym (union-empty X p) ∙ ap (union X) (sym (image-none max_states f empty (in_subset (λ s h. h)))) in
      record {
        found-is = first;
        proper = p;
        new = λ s h. (⊆-of-eq first s h, empty_in);
        all = λ s h. inr (⊆-of-eq (sym first) s h);
        counted = zero-le;
        bounded = zero-le;
      }

  module _ {k : ℕ} {found layer : Set} (so : Layered f X k found layer) where
    whole : union (before f X k) layer ≡ before f X (suc k)
    unfolding union
    whole =
        same_set _ _ (set_of_proper _) (before_proper f X (suc k))
        (λ s h. ⊎_elim (before_grows f X k s) (λ i. (so.new s i).0) (union_in h)) (λ s h. in_union (so.all s h))

    pub layered_expanded : difference found layer ≡ before f X k
    unfolding difference
    layered_expanded =
        same_set _ _ (set_of_proper _) (before_proper f X k)
        (λ s h. let both = difference_in h in ⊎_elim (λ i. i) (λ i. absurd (both.1 i)) (so.all s (⊆-of-eq so.found-is s both.0)))
        (λ s h. in_difference (⊆-of-eq (sym so.found-is) s (before_grows f X k s h)) (λ i. (so.new s i).1 h))

    module _ (some : subset layer empty ≡ false) where
      pub layered_less : size (before f X k) < size (before f X (suc k))
      layered_less =
          let w = subset_not layer empty some in
          let new = so.new w.0 w.1 in
          size_lt (before_grows f X k) new.0 new.1

      pub layered_below : k < max_states
      layered_below = omega (arith, so.counted, layered_less, size-most (before f X (suc k)))

      pub layered_turn : {found' layer' : Set} → layer' ≡ difference (image max_states f layer) found → found' ≡ union found layer'
          → Layered f X (suc k) found' layer'
      unfolding iterate difference
      layered_turn {found'} {layer'} p q =
          let grown =
          ap (union found) p
          ∙ union-rest found (image max_states f layer)
          ∙ ap (λ (Y : Set). union Y (image max_states f layer)) so.found-is
          ∙ sym (union_assoc X (image max_states f (before f X k)) (image max_states f layer))
          ∙ ap (union X) (sym (image-union max_states f (before f X k) layer) ∙ ap (image max_states f) whole) in
          record {
            found-is = q ∙ grown;
            proper = subst Proper (sym p) (set_of_proper _);
            new = λ s h. (⊆-of-eq grown s (in_union (inr h)), (λ i. (difference_in (⊆-of-eq p s h)).1 (⊆-of-eq (sym so.found-is) s i)));
            all = λ s h. ⊎_elim (λ i. inl (⊆-of-eq so.found-is s i)) inr (union_in (⊆-of-eq (sym grown) s h));
            counted = omega (arith, so.counted, layered_less);
            bounded = layered_below;
          }

    module _ (none : subset layer empty ≡ true) where
      still : before f X (suc k) ≡ before f X k
      still =
          same_set _ _ (before_proper f X (suc k)) (before_proper f X k)
          (λ s h. ⊎_elim (λ i. i) (λ i. absurd (empty_in (subset_in none s i))) (so.all s h))
          (before_grows f X k)

      -- and so from here on
      end : (j : ℕ) → k ≤ j → before f X j ≡ before f X k
      end j = iterate-still (step_by f X) empty k j (sym (iterate_suc (step_by f X) empty k) ∙ still)

      pub layered_still : (j : ℕ) → before f X j ⊆ before f X k
      layered_still j = ⊎_elim (λ l. before_mono f X j k (omega arith)) (λ l. ⊆-of-eq (end j l)) (lt_or_ge j k)

      pub layered_end : IsLeast (step_by f X) found
      layered_end =
          subst (IsLeast (step_by f X)) (end max_states so.bounded ∙ sym still ∙ sym so.found-is)
          (from_below (step_by f X) max_states (step_by_mono f X) (step_by_proper f X) (λ Y s h. in_first_states (in_bound h) (in_bound h)))
