-- The loop of `backward`: a state that once stepped out of S stays out.
--
--   Staying            the invariant: S is the cover of the states of R that stay, which every state with all its successors in S is one of
--   staying-*          where it starts, a turn, why it ends, and what it gives at the end
use Prim.Native.Nat.{ℕ, ◌<◌}
use mathlib.Core.Path.{◌≡◌, sym, ap, ◌∙◌, subst}
use mathlib.Core.Logic.{⊎_elim}
use mathlib.Core.Bool.{true, false}
use mathlib.Core.List.{List}
use Rattle.model.specs.Sets.{max_states, Set, subset, same, size, first_states}
use Rattle.model.specs.Promises.{IsGreatest}
use Rattle.basics.proofs.BoundLaws.{and_intro, clash}
use Rattle.model.proofs.SetsMembers.{Proper, set_of_proper, In, ◌⊆◌, in_subset, ⊆-of-eq, same_set, same_eq}
use Rattle.model.proofs.SetsCounted.{all_or_fewer}
use Rattle.model.proofs.SetsImages.{image_proper}
use Rattle.core_rows.specs.Rows.{row_in, meet_hold}
use Rattle.core_fixpoints.specs.Steps.{cover_by, backward_by, IsCover}
use Rattle.core_fixpoints.proofs.Bridge.{in_meet_hold, meet_hold_in, cover_by_mono, cover_by-within, cover_by_extends}

pub record Staying (rows : List ℕ) (cover : List Set) (R staying S : Set) : Type 0 where
  pub proper : Proper staying
  pub inside : staying ⊆ R
  pub cover-is : S ≡ cover_by cover staying
  pub holds : meet_hold rows R S ⊆ staying
  pub solutions : (Y : Set) → Y ≡ backward_by rows cover R Y → meet_hold rows R Y ⊆ staying

module _ (rows : List ℕ) (cover : List Set) (R : Set) where
  cover_proper : (X : Set) {Y : Set} → Y ≡ cover_by cover X → Proper Y
  unfolding cover_by
  cover_proper X e = subst Proper (sym e) (image_proper max_states _ _)

  pub staying_start : Proper R → cover_by cover R ≡ R → Staying rows cover R R R
  staying_start p closed =
      record { proper = p; inside = λ s h. h; cover-is = sym closed; holds = λ s h. (meet_hold_in rows _ _ h).0; solutions = λ Y e s h. (meet_hold_in rows _ _ h).0 }

  -- in the loop the rows are those at the start
  module _ {now : List ℕ} {staying S : Set} (so : Staying rows cover R staying S × (now ≡ rows)) where
    -- every solution lies inside S
    above : (Y : Set) → Y ≡ backward_by rows cover R Y → Y ⊆ S
    unfolding backward_by
    above Y e s h = ⊆-of-eq (sym so.0.cover-is) s (cover_by_mono cover _ _ (so.0.solutions Y e) s (⊆-of-eq e s h))

    module _ {still S' : Set} (k : still ≡ meet_hold now staying S) (c : S' ≡ cover_by cover still) where
      still-is : still ≡ meet_hold rows staying S
      still-is = k ∙ ap (λ (held : List ℕ). meet_hold held staying S) so.1

      still_inside : still ⊆ staying
      still_inside s h = (meet_hold_in rows _ _ (⊆-of-eq still-is s h)).0

      smaller : S' ⊆ S
      smaller s h = ⊆-of-eq (sym so.0.cover-is) s (cover_by_mono cover _ _ still_inside s (⊆-of-eq c s h))

      pub staying_less : same S' S ≡ false → size S' < size S
      unfolding same
      staying_less f =
          ⊎_elim (λ back. absurd (clash (and_intro (subset S' S) _ (in_subset smaller) (in_subset back)) f)) (λ l. l) (all_or_fewer smaller)

      pub staying_turn : Staying rows cover R still S'
      unfolding meet_hold
      staying_turn =
          record {
            proper = subst Proper (sym still-is) (set_of_proper _);
            inside = λ s h. so.0.inside s (still_inside s h);
            cover-is = c;
            holds = λ s h.
                let m = meet_hold_in rows _ _ h in
                let wide : row_in rows s ⊆ S = λ u r. smaller u (m.1 u r) in
                ⊆-of-eq (sym still-is) s (in_meet_hold rows _ _ (so.0.holds s (in_meet_hold rows _ _ m.0 wide)) wide);
            solutions = λ Y e s h. ⊆-of-eq (sym still-is) s (in_meet_hold rows _ _ (so.0.solutions Y e s h) (λ u r. above Y e u ((meet_hold_in rows _ _ h).1 u r)));
          }

      module _ (closed : cover_by cover R ≡ R) (e : same S' S ≡ true) where
        -- S has not changed, so the states that stay, which were looked at with it, step to no state outside
        end : Staying rows cover R still S
        end = subst (Staying rows cover R still) (same_eq (cover_proper _ c) (cover_proper _ so.0.cover-is) e) staying_turn

        steps : (s : ℕ) → In still s → row_in rows s ⊆ S
        steps s h = (meet_hold_in rows _ _ (⊆-of-eq still-is s h)).1

        kept : meet_hold rows R S ≡ still
        unfolding meet_hold
        kept = same_set _ _ (set_of_proper _) end.proper end.holds (λ s h. in_meet_hold rows _ _ (end.inside s h) (steps s h))

        pub staying_greatest : IsGreatest (backward_by rows cover R) S
        unfolding backward_by
        staying_greatest =
            record {
              solves = end.cover-is ∙ ap (cover_by cover) (sym kept);
              greatest = λ Y y. in_subset (above Y y);
            }

        pub staying_next : IsCover cover → still ≡ meet_hold rows S S
        unfolding meet_hold
        staying_next is-cover =
            same_set _ _ end.proper (set_of_proper _)
            (λ s h.
            let within : still ⊆ first_states is-cover.n = λ u i. cover_by-within cover is-cover R u (⊆-of-eq (sym closed) u (end.inside u i)) in
            in_meet_hold rows _ _ (⊆-of-eq (sym end.cover-is) s (cover_by_extends cover is-cover still within s h)) (steps s h))
            (λ s h.
            let m = meet_hold_in rows _ _ h in
            let in-R = ⊆-of-eq closed s (cover_by_mono cover _ _ end.inside s (⊆-of-eq end.cover-is s m.0)) in
            end.holds s (in_meet_hold rows _ _ in-R m.1))
