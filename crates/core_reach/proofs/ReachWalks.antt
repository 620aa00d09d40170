-- What a set reaches: the least solution, as the ends of walks, and as the code works it out over the rows that are lent.
--
--   reach_step_mono, -proper, -within     the step grows with the set, and gives a proper set of states of the table
--   in_step, iterate-within              a step out of a state; k steps give states of the table only
--   walks_more, end_more                 a walk with one step more
--   reachable-is                         specs/Reached: n steps from below give the least solution, which has the ends of the walks from X
--   reach_by-is, reached-is               for states of the table the rows give the step, so the least solution is the same
--   reaching                             specs/Reached
use Prim.Native.Nat.{ℕ}
use mathlib.Core.Path.{◌≡◌, refl, sym, ap, ◌∙◌, subst}
use mathlib.Core.Logic.{inl, inr, ⊎_elim}
use mathlib.Core.Bool.{true}
use mathlib.Core.List.{List, [], ◌∷◌, ◌++◌}
use Rattle.model.specs.Sets.{Set, member, empty, union, first_states}
use Rattle.model.specs.Tables.{Table, post}
use Rattle.model.specs.Rounds.{iterate}
use Rattle.model.specs.Stores.{table_of}
use Rattle.model.specs.Promises.{IsLeast}
use Rattle.basics.proofs.BoundLaws.{and_true, and_intro}
use Rattle.model.proofs.SetsMembers.{Proper, set_of_proper, In, empty_in, in_union, union_in, first_states_in, ◌⊆◌, ⊆-of-eq, subset_in, in_subset, same_set}
use Rattle.model.specs.WellFormed.{WellFormed}
use Rattle.model.proofs.StoresAccepted.{accepted_store, well_formed}
use Rattle.model.proofs.Fixpoints.{iterate_has, from_below}
use Rattle.model.proofs.CoverLaws.{in_post, post_in, post_mono}
use Rattle.model.proofs.SetsImages.{image_bound, image_cong}
use Rattle.core_rows.specs.Rows.{rows_of, row_in, successors_by}
use Rattle.core_rows.proofs.RowsLent.{HasRows, store_rows}
use Rattle.core_reach.specs.Reached.{reach_step, reachable, walks, end, ReachableIs, reach_by, Reaching}
use Rattle.core_reach.proofs.ReachLayers.{step_by_proper}

-- ---- walks

walks_more : (t : Table) (x : ℕ) (xs : List ℕ) {s : ℕ} → walks t x xs ≡ true → In (t.row (end x xs)) s → walks t x (xs ++ (s ∷ [])) ≡ true
unfolding walks end
walks_more t x [] {s} e h = and_intro (member (t.row x) s) true h.is refl
walks_more t x (y ∷ ys) e h =
    let both = and_true (member (t.row x) y) (walks t y ys) e in
    and_intro (member (t.row x) y) _ both.0 (walks_more t y ys both.1 h)

end_more : (x : ℕ) (xs : List ℕ) (s : ℕ) → end x (xs ++ (s ∷ [])) ≡ s
unfolding end
end_more x [] s = refl
end_more x (y ∷ ys) s = end_more y ys s

-- ---- the least solution

module _ (t : Table) (X : Set) where
  pub in_step : {Y : Set} {s u : ℕ} → In (first_states t.n) s → In Y s → In (t.row s) u → In (reach_step t X Y) u
  unfolding reach_step
  in_step h i r = in_union (inr (in_post t.n t.row (first_states_in h) i r))

  reach_step_mono : (Y Z : Set) → Y ⊆ Z → reach_step t X Y ⊆ reach_step t X Z
  unfolding reach_step
  reach_step_mono Y Z i s h = in_union (⊎_elim (λ a. inl a) (λ b. inr (post_mono t.n t.row Y Z i s b)) (union_in h))

  reach_step_proper : (Y : Set) → Proper (reach_step t X Y)
  unfolding reach_step union
  reach_step_proper Y = set_of_proper _

  module _ (ok : WellFormed t) (within : X ⊆ first_states t.n) where
    reach_step-within : (Y : Set) → reach_step t X Y ⊆ first_states t.n
    unfolding reach_step
    reach_step-within Y s h =
        ⊎_elim (λ i. within s i) (λ i. let w = post_in t.n t.row i in ok.rows w.0 w.1 s w.3) (union_in h)

    pub iterate-within : (k : ℕ) → iterate (reach_step t X) empty k ⊆ first_states t.n
    iterate-within =
        iterate_has (λ Y. Y ⊆ first_states t.n) (reach_step t X) empty (λ s h. absurd (empty_in h)) (λ Y h. reach_step-within Y)

    least : IsLeast (reach_step t X) (reachable t X)
    unfolding reachable
    least = from_below (reach_step t X) t.n reach_step_mono reach_step_proper reach_step-within

    -- some walk from X ends in s
    abbrev WalkTo : ℕ → Type 0
    WalkTo s = (x : ℕ) × (xs : List ℕ) × (member X x ≡ true) × (walks t x xs ≡ true) × (end x xs ≡ s)

    walked : (s : ℕ) → In (reachable t X) s → WalkTo s
    unfolding reachable reach_step walks end
    walked =
        iterate_has (λ Y. (s : ℕ) → In Y s → WalkTo s) (reach_step t X) empty (λ s h. absurd (empty_in h))
        (λ Y f s h.
        ⊎_elim
        (λ i. (s, [], i.is, refl, refl))
        (λ i.
        let p = post_in t.n t.row i in
        let w = f p.0 p.2 in
        (w.0, w.1 ++ (s ∷ []), w.2, walks_more t w.0 w.1 w.3 (rw w.4 p.3), end_more w.0 w.1 s))
        (union_in h))
        t.n

    -- what is reached has each step out of it
    reached-end : (x : ℕ) (xs : List ℕ) → In (reachable t X) x → walks t x xs ≡ true → In (reachable t X) (end x xs)
    unfolding walks end reachable
    reached-end x [] h e = h
    reached-end x (y ∷ ys) h e =
        let both = and_true (member (t.row x) y) (walks t y ys) e in
        reached-end y ys (⊆-of-eq (sym least.solves) y (in_step (iterate-within t.n x h) h (record { is = both.0 }))) both.1

    pub reachable-is : ReachableIs t X
    unfolding reach_step
    reachable-is =
        record {
          least = least;
          members = λ s. (
            (λ e. walked s (record { is = e })),
            (λ w. rw w.4 at (reached-end w.0 w.1 (⊆-of-eq (sym least.solves) w.0 (in_union (inl (record { is = w.2 })))) w.3).is),
          );
        }

-- ---- over the rows that are lent

module _ (t : Table) (rows : List ℕ) (r : HasRows t rows) (X : Set) where
  reach_by-is : (Y : Set) → Y ⊆ first_states t.n → reach_by rows X Y ≡ reach_step t X Y
  unfolding reach_by successors_by reach_step post
  reach_by-is Y i = ap (union X) (image_bound t.n _ Y i ∙ image_cong t.n _ _ Y (λ s h m. sym (r s h)))

  module _ (ok : WellFormed t) (within : X ⊆ first_states t.n) where
    pub reached-is : {Y : Set} → IsLeast (reach_by rows X) Y → Y ≡ reachable t X
    unfolding reach_by successors_by reachable
    reached-is {Y} y =
        let z = least t X ok within in
        let inside = iterate-within t X ok within t.n in
        let small = subset_in (y.least (reachable t X) (z.solves ∙ sym (reach_by-is (reachable t X) inside))) in
        same_set _ _ (subst Proper (sym y.solves) (step_by_proper (row_in rows) X Y)) (subst Proper (sym z.solves) (reach_step_proper t X _)) small
        (subset_in (z.least Y (y.solves ∙ reach_by-is Y (λ s h. inside s (small s h)))))

pub reaching : Reaching
unfolding table_of
reaching =
    record {
      reachable-is = λ t X ok within. reachable-is t X ok (subset_in within);
      reached-is = λ store n g X Y ok within y. reached-is (table_of store n g) (rows_of store) (store_rows store n g) X ok (subset_in within) y;
      accepted = λ store n g e. let ok = well_formed store n g (accepted_store store n g [] e).0 in (ok, in_subset ok.initial);
    }
