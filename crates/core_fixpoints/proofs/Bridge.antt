-- From the code's steps, over rows and a cover, to the model's, over lists and tables.
--
--   covers-read                  a row is the cover of its state
--   in_meet_hold, meet_hold_in     membership
--   cover_by-is, successors_by-is, meet_hold-is      for sets of the table's states, the model's cover, post, and meet with hold
--   forward_by_proper, backward_by_proper     what the steps give is a proper set
--   cover_by_mono, -within, -closed, -extends, -again     the cover is a closure (monotone, extensive, idempotent) in the states of the table
--   cover_by-rest                 the cover of a set by the row of one of its states, and the cover of what that row does not have
--   forward-least, backward-greatest        n steps reach the least and the greatest solution; forward-closed: R is its own cover
--   iterate_cong                 steps that agree on a kind of set that they keep iterate alike
--   forward-is, backward-is      R and S; least-is: the least solution is R
use Prim.Native.Nat.{ℕ, zero, suc, ◌<◌}
use mathlib.Core.Path.{◌≡◌, refl, sym, ap, ◌∙◌, subst}
use mathlib.Core.Logic.{inl, inr, ⊎_elim}
use mathlib.Core.List.{List, []}
use lib.ListN.{get_or}
use Rattle.model.specs.Sets.{max_states, Set, member, empty, union, meet, difference, first_states}
use Rattle.model.specs.Tables.{Table, post, hold, cover_of, cover}
use Rattle.model.specs.Rounds.{iterate, forward_step, forward, backward_step, backward}
use Rattle.basics.proofs.BoundLaws.{and_true, and_intro, get_or-tabulate}
use Rattle.model.proofs.SetsMembers.{Proper, set_of_proper, In, in_bound, in_set_of, set_of_in, in_or_out, in_union, union_in, in_meet, meet_in, in_difference, difference_in, first_states_in, ◌⊆◌, subset_in, in_subset, ⊆-of-eq, same_set, empty_in, in_image, image_in}
use Rattle.model.specs.Promises.{IsLeast, IsGreatest}
use Rattle.model.proofs.Fixpoints.{iterate_has, from_below, from_above, least_unique}
use Rattle.model.proofs.SetsImages.{image_mono, image_proper, image_bound, image_cong}
use Rattle.model.proofs.CoverLaws.{cover_of-within, cover_of_self, cover_of_trans, in_hold, hold_in, forward_step-within, backward_step-within}
use Rattle.core_rows.specs.Rows.{row_in, successors_by, meet_hold}
use Rattle.core_rows.proofs.RowsLent.{HasRows}
use Rattle.core_fixpoints.specs.Steps.{covers, cover_by, forward_by, backward_by, IsCover}

-- ---- the cover

pub covers-read : (n : ℕ) (L : List Set) (s : ℕ) → s < max_states → get_or (covers n L) s [] ≡ cover_of n L s
unfolding covers
covers-read n L s h = get_or-tabulate (cover_of n L) max_states s [] h

-- ---- sets of the table's states

module _ (rows : List ℕ) (X Y : Set) {s : ℕ} where
  pub in_meet_hold : In X s → row_in rows s ⊆ Y → In (meet_hold rows X Y) s
  unfolding meet_hold
  in_meet_hold h r = in_set_of _ (in_bound h) (and_intro (member X s) _ h.is (in_subset r))

  pub meet_hold_in : In (meet_hold rows X Y) s → In X s × (row_in rows s ⊆ Y)
  unfolding meet_hold
  meet_hold_in h = let both = and_true (member X s) _ (set_of_in _ h) in (record { is = both.0 }, subset_in both.1)

pub cover_by-is : (n : ℕ) (L : List Set) (X : Set) → X ⊆ first_states n → cover_by (covers n L) X ≡ cover n L X
unfolding cover_by cover
cover_by-is n L X i = image_cong max_states _ (cover_of n L) X (λ s h m. covers-read n L s h) ∙ image_bound n (cover_of n L) X i

module _ (t : Table) (rows : List ℕ) (has : HasRows t rows) where
  pub successors_by-is : (X : Set) → X ⊆ first_states t.n → successors_by rows X ≡ post t.n t.row X
  unfolding successors_by post
  successors_by-is X i = image_bound t.n _ X i ∙ image_cong t.n _ _ X (λ s h m. sym (has s h))

  pub meet_hold-is : (X Y : Set) → X ⊆ first_states t.n → meet_hold rows X Y ≡ meet X (hold t.n t.row Y)
  unfolding meet_hold meet
  meet_hold-is X Y i =
      same_set _ _ (set_of_proper _) (set_of_proper _)
      (λ s h. let m = meet_hold_in rows X Y h in in_meet m.0 (in_hold t.n _ (i s m.0) (subst (λ (R : Set). R ⊆ Y) (sym (row_at_lem s m.0)) m.1)))
      (λ s h. let m = meet_in h in in_meet_hold rows X Y m.0 (subst (λ (R : Set). R ⊆ Y) (row_at_lem s m.0) (hold_in t.n _ m.1)))
    where
      row_at_lem : (s : ℕ) → In X s → t.row s ≡ row_in rows s
      row_at_lem s m = has s (first_states_in (i s m))

-- ---- R and S

module _ (rows : List ℕ) (cover : List Set) where
  pub forward_by_proper : (initial Z X : Set) → Proper (forward_by rows cover initial Z X)
  unfolding forward_by cover_by
  forward_by_proper initial Z X = image_proper max_states _ _

  pub backward_by_proper : (R X : Set) → Proper (backward_by rows cover R X)
  unfolding backward_by cover_by
  backward_by_proper R X = image_proper max_states _ _

pub cover_by_mono : (cover : List Set) (X Y : Set) → X ⊆ Y → cover_by cover X ⊆ cover_by cover Y
unfolding cover_by
cover_by_mono cover = image_mono max_states _

module _ (cover : List Set) (is-cover : IsCover cover) where
  abbrev n : ℕ
  n = is-cover.n

  row_read : (s : ℕ) → s < max_states → get_or cover s [] ≡ cover_of n is-cover.list s
  row_read s h = ap (λ (R : List Set). get_or R s []) is-cover.is ∙ covers-read n is-cover.list s h

  -- the cover of a state of a row lies in that row
  row-closed : {u t : ℕ} → u < max_states → In (get_or cover u []) t → get_or cover t [] ⊆ get_or cover u []
  row-closed {u} {t} h i s k =
      let t-in = subst (λ (Y : Set). In Y t) (row_read u h) i in
      let s-in = subst (λ (Y : Set). In Y s) (row_read t (in_bound i)) k in
      subst (λ (Y : Set). In Y s) (sym (row_read u h)) (cover_of_trans n is-cover.list u t-in s s-in)

  pub cover_by-within : (X : Set) → cover_by cover X ⊆ first_states n
  unfolding cover_by
  cover_by-within X s h =
      let w = image_in _ X max_states h in
      cover_of-within n is-cover.list w.0 s (subst (λ (Y : Set). In Y s) (row_read w.0 w.1) w.3)

  -- the cover of a state of a cover lies in it
  pub cover_by-closed : (X : Set) {t : ℕ} → In (cover_by cover X) t → get_or cover t [] ⊆ cover_by cover X
  unfolding cover_by
  cover_by-closed X h s i =
      let w = image_in _ X max_states h in
      in_image _ X max_states w.1 w.2 (row-closed w.1 w.3 s i)

  -- of X only what a row does not have is still to be looked at, beside that row
  pub cover_by-rest : (X : Set) {u : ℕ} {row : Set} → In X u → row ≡ get_or cover u [] → union row (cover_by cover (difference X row)) ≡ cover_by cover X
  unfolding cover_by union
  cover_by-rest X {u} {row} m e =
      same_set _ _ (set_of_proper _) (image_proper max_states _ _)
      (λ s h.
      ⊎_elim (λ i. in_image _ X max_states (in_bound m) m (⊆-of-eq e s i)) (cover_by_mono cover _ X (λ x i. (difference_in i).0) s) (union_in h))
      (λ s h.
      let w = image_in _ X max_states h in
      in_union
      (⊎_elim (λ i. inl (⊆-of-eq (sym e) s (row-closed (in_bound m) (⊆-of-eq e w.0 i) s w.3)))
      (λ o. inr (in_image _ (difference X row) max_states w.1 (in_difference w.2 o) w.3)) (in_or_out row w.0)))

  pub cover_by_extends : (X : Set) → X ⊆ first_states n → X ⊆ cover_by cover X
  unfolding cover_by
  cover_by_extends X f s h =
      in_image _ X max_states (in_bound h) h (subst (λ (Y : Set). In Y s) (sym (row_read s (in_bound h))) (cover_of_self n is-cover.list (f s h)))

  pub cover_by_again : (X : Set) → cover_by cover (cover_by cover X) ≡ cover_by cover X
  unfolding cover_by
  cover_by_again X =
      same_set _ _ (image_proper max_states _ _) (image_proper max_states _ _)
      (λ s h. let w = image_in _ (cover_by cover X) max_states h in cover_by-closed X w.2 s w.3)
      (cover_by_extends (cover_by cover X) (cover_by-within X))

module _ (rows : List ℕ) (cover : List Set) (is-cover : IsCover cover) where
  -- n steps from the empty set, and n from all n states, reach the least and the greatest solution
  pub forward-least : (initial Z : Set) → IsLeast (forward_by rows cover initial Z) (iterate (forward_by rows cover initial Z) empty is-cover.n)
  unfolding forward_by successors_by
  forward-least initial Z =
      from_below _ is-cover.n
      (λ X Y i. cover_by_mono cover _ _ (λ s h. let both = meet_in h in in_meet both.0 (⊎_elim (λ a. in_union (inl a)) (λ b. in_union (inr (image_mono max_states _ X Y i s b))) (union_in both.1))))
      (forward_by_proper rows cover initial Z) (λ X. cover_by-within cover is-cover _)

  -- R is its own cover
  pub forward-closed : (initial Z : Set) {R : Set} → IsLeast (forward_by rows cover initial Z) R → cover_by cover R ≡ R
  unfolding forward_by
  forward-closed initial Z e = ap (cover_by cover) e.solves ∙ cover_by_again cover is-cover _ ∙ sym e.solves

  pub backward-greatest : (R : Set) → IsGreatest (backward_by rows cover R) (iterate (backward_by rows cover R) (first_states is-cover.n) is-cover.n)
  unfolding backward_by meet_hold
  backward-greatest R =
      from_above _ is-cover.n
      (λ X Y i.
      cover_by_mono cover _ _ (λ s h. let m = meet_hold_in rows R X h in in_meet_hold rows R Y m.0 (λ u r. i u (m.1 u r))))
      (backward_by_proper rows cover R) (λ X. cover_by-within cover is-cover _)

pub iterate_cong : (P : Set → Type 0) (f g : Set → Set) (x : Set) → P x → ((X : Set) → P X → f X ≡ g X) → ((X : Set) → P (g X)) → (k : ℕ)
    → iterate f x k ≡ iterate g x k
unfolding iterate
iterate_cong P f g x h e keep zero = refl
iterate_cong P f g x h e keep (suc k) =
    ap f (iterate_cong P f g x h e keep k) ∙ e _ (iterate_has P g x h (λ X p. keep X) k)

module _ (t : Table) (rows : List ℕ) (has : HasRows t rows) (L : List Set) where
  forward-is : (Z : Set) → Z ⊆ first_states t.n → iterate (forward_by rows (covers t.n L) t.initial Z) empty t.n ≡ forward t L Z
  unfolding forward forward_by forward_step
  forward-is Z i =
      iterate_cong (λ X. X ⊆ first_states t.n) _ (forward_step t L Z) empty (λ s h. absurd (empty_in h))
      (λ X j.
      ap (λ (Y : Set). cover_by (covers t.n L) (meet Z (union t.initial Y))) (successors_by-is t rows has X j)
      ∙ cover_by-is t.n L _ (λ s h. i s (meet_in h).0))
      (λ X. forward_step-within t L Z X) t.n

  pub least-is : (Z : Set) → Z ⊆ first_states t.n → {R : Set} → IsLeast (forward_by rows (covers t.n L) t.initial Z) R → R ≡ forward t L Z
  least-is Z i e =
      least_unique _ (forward_by_proper rows _ t.initial Z) e (forward-least rows _ (record { n = t.n; list = L; is = refl }) t.initial Z)
      ∙ forward-is Z i

  pub backward-is : (R : Set) → R ⊆ first_states t.n → iterate (backward_by rows (covers t.n L) R) (first_states t.n) t.n ≡ backward t L R
  unfolding backward backward_by backward_step
  backward-is R i =
      iterate_cong (λ X. X ⊆ first_states t.n) _ (backward_step t L R) (first_states t.n) (λ s h. h)
      (λ X j. ap (cover_by (covers t.n L)) (meet_hold-is t rows has R X i) ∙ cover_by-is t.n L _ (λ s h. i s (meet_in h).0))
      (λ X. backward_step-within t L R X) t.n
