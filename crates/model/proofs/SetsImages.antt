-- Laws of images for loops that take a set apart, one state after the other.
--
--   image_mono          an image grows with the set; image_inside: it is where all of its parts are
--   image_proper        it is a proper set
--   image-none          the image of a set without states is empty
--   image-union         the image of a union
--   image_peel          the image of a set is what one of its states gives, joined to the image of the rest
--   image_bound         the image of a set of states below n does not depend on the bound, from n up
--   image_cong          the image reads f at the set's states only
--   Joining, join_turn, join_end        a loop that joins an image: what is joined so far, with the image of what is left, is the goal
use Prim.Native.Nat.{ℕ, ◌<◌, zero, suc}
use mathlib.Core.Path.{◌≡◌, sym, ap, ap₂, ◌∙◌, subst}
use mathlib.Core.Logic.{inl, inr, ⊎_elim}
use mathlib.Core.Bool.{true}
use Rattle.model.specs.Sets.{max_states, Set, empty, single, union, difference, subset, first_states, image, member}
use Rattle.model.proofs.SetsMembers.{Proper, set_of_proper, In, in_bound, in_or_out, empty_in, single_in, first_states_in, in_union, union_in, in_difference, difference_in, ◌⊆◌, subset_in, in_subset, same_set, in_image, image_in, union_assoc, union-empty}
use Rattle.basics.proofs.BoundLaws.{by_cond}

-- ---- images

module _ (n : ℕ) (f : ℕ → Set) where
  pub image_mono : (X Y : Set) → X ⊆ Y → image n f X ⊆ image n f Y
  image_mono X Y i s h =
      let w = image_in f X n h in
      in_image f Y n w.1 (i w.0 w.2) w.3

  pub image_inside : (X Y : Set) → ((x : ℕ) → In X x → f x ⊆ Y) → image n f X ⊆ Y
  image_inside X Y i s h =
      let w = image_in f X n h in
      i w.0 w.2 s w.3

pub image_proper : (n : ℕ) (f : ℕ → Set) (X : Set) → Proper (image n f X)
unfolding image empty union
image_proper zero f X = set_of_proper _
image_proper (suc n) f X = by_cond Proper (member X n) _ _ (λ e. set_of_proper _) (λ e. image_proper n f X)

module _ (n : ℕ) (f : ℕ → Set) where
  pub image-none : (X : Set) → subset X empty ≡ true → image n f X ≡ empty
  unfolding empty
  image-none X e =
      same_set (image n f X) empty (image_proper n f X) (set_of_proper _)
      (λ s h. absurd (empty_in (subset_in e (image_in f X n h).0 (image_in f X n h).2)))
      (λ s h. absurd (empty_in h))

  pub image_peel : (X : Set) (x : ℕ) → In X x → x < n → image n f X ≡ union (f x) (image n f (difference X (single x)))
  unfolding union
  image_peel X x i l =
      same_set _ _ (image_proper n f X) (set_of_proper _) (λ s h. apart s (image_in f X n h))
      (λ s h. ⊎_elim (λ k. in_image f X n l i k) (λ k. together s (image_in f _ n k)) (union_in h))
    where
      apart : (s : ℕ) → (y : ℕ) × (y < n) × In X y × In (f y) s → In (union (f x) (image n f (difference X (single x)))) s
      apart s w =
          ⊎_elim
          (λ e. in_union (inl (subst (λ (y : ℕ). In (f y) s) (single_in e) w.3)))
          (λ o. in_union (inr (in_image f (difference X (single x)) n w.1 (in_difference w.2 o) w.3)))
          (in_or_out (single x) w.0)

      together : (s : ℕ) → (y : ℕ) × (y < n) × In (difference X (single x)) y × In (f y) s → In (image n f X) s
      together s w = in_image f X n w.1 (difference_in w.2).0 w.3

  pub image-union : (X Y : Set) → image n f (union X Y) ≡ union (image n f X) (image n f Y)
  unfolding union
  image-union X Y =
      same_set _ _ (image_proper n f (union X Y)) (set_of_proper _)
      (λ s h.
      let w = image_in f (union X Y) n h in
      in_union (⊎_elim (λ x. inl (in_image f X n w.1 x w.3)) (λ y. inr (in_image f Y n w.1 y w.3)) (union_in w.2)))
      (λ s h.
      ⊎_elim
      (λ x. let w = image_in f X n x in in_image f (union X Y) n w.1 (in_union (inl w.2)) w.3)
      (λ y. let w = image_in f Y n y in in_image f (union X Y) n w.1 (in_union (inr w.2)) w.3)
      (union_in h))

  pub image_cong : (g : ℕ → Set) (X : Set) → ((x : ℕ) → x < n → In X x → f x ≡ g x) → image n f X ≡ image n g X
  image_cong g X e =
      same_set _ _ (image_proper n f X) (image_proper n g X)
      (λ s h. let w = image_in f X n h in in_image g X n w.1 w.2 (subst (λ (Y : Set). In Y s) (e w.0 w.1 w.2) w.3))
      (λ s h. let w = image_in g X n h in in_image f X n w.1 w.2 (subst (λ (Y : Set). In Y s) (sym (e w.0 w.1 w.2)) w.3))

  pub image_bound : (X : Set) → X ⊆ first_states n → image max_states f X ≡ image n f X
  image_bound X i =
      same_set _ _ (image_proper max_states f X) (image_proper n f X)
      (λ s h. let w = image_in f X max_states h in in_image f X n (first_states_in (i w.0 w.2)) w.2 w.3)
      (λ s h. let w = image_in f X n h in in_image f X max_states (in_bound w.2) w.2 w.3)

-- ---- a loop that joins an image

-- what is joined so far, `out`, with the image of what is left, is the goal
pub record Joining (f : ℕ → Set) (goal out rest : Set) : Type 0 where
  pub proper : Proper out
  pub whole : union out (image max_states f rest) ≡ goal

module _ (f : ℕ → Set) (goal : Set) where
  pub join_turn : {out rest out' rest' : Set} {x : ℕ} → In rest x → out' ≡ union out (f x) → rest' ≡ difference rest (single x)
      → Joining f goal out rest → Joining f goal out' rest'
  unfolding union
  join_turn {out} {rest} {x = x} i p q so =
      record {
        proper = subst Proper (sym p) (set_of_proper _);
        whole =
            ap₂ (λ (Y Z : Set). union Y (image max_states f Z)) p q
            ∙ sym (union_assoc out (f x) (image max_states f (difference rest (single x))))
            ∙ ap (union out) (sym (image_peel max_states f rest x i (in_bound i)))
            ∙ so.whole;
      }

  pub join_end : {out rest : Set} → rest ≡ empty → Joining f goal out rest → out ≡ goal
  join_end {out} e so =
      sym (union-empty out so.proper) ∙ ap (union out) (sym (ap (image max_states f) e ∙ image-none max_states f empty (in_subset (λ s h. h)))) ∙ so.whole
