-- Laws of what steps into a set, by the rows that are lent.
--
--   in_stepping, stepping_in          the states that step into a set, by their members
--   stepping_is                       as the code gathers them: those not in hold of all other states
use Prim.Native.Nat.{ℕ}
use mathlib.Core.Path.{◌≡◌}
use mathlib.Core.Logic.{⊎_elim}
use mathlib.Core.List.{List}
use Rattle.model.specs.Sets.{max_states, Set, member, difference, first_states}
use Rattle.basics.proofs.BoundLaws.{and_true, and_intro, is_false}
use Rattle.model.proofs.SetsMembers.{set_of_proper, In, in_bound, in_or_out, in_set_of, set_of_in, in_difference, difference_in, in_first_states, subset_in, subset_not, same_set, in_meets, meets_in}
use Rattle.core_rows.specs.Rows.{row_in, meet_hold}
use Rattle.call_paths.specs.Search.{stepping_into}

module _ (rows : List ℕ) {X Y : Set} {s : ℕ} where
  pub in_stepping : {u : ℕ} → In X s → In (row_in rows s) u → In Y u → In (stepping_into rows X Y) s
  unfolding stepping_into
  in_stepping h r y = in_set_of _ (in_bound h) (and_intro (member X s) _ h.is (in_meets r y))

  pub stepping_in : In (stepping_into rows X Y) s → In X s × (u : ℕ) × In (row_in rows s) u × In Y u
  unfolding stepping_into
  stepping_in h = let both = and_true (member X s) _ (set_of_in _ h) in let w = meets_in both.1 in (record { is = both.0 }, w.0, w.1, w.2)

-- those that do not are in hold of all other states
pub stepping_is : (rows : List ℕ) (X Y : Set)
    → difference X (meet_hold rows X (difference (first_states max_states) Y)) ≡ stepping_into rows X Y
unfolding difference meet_hold stepping_into
stepping_is rows X Y =
    same_set _ _ (set_of_proper _) (set_of_proper _)
    (λ s h.
    let both = difference_in h in
    let out = subset_not (row_in rows s) _ (is_false _ (λ e. both.1 (in_set_of _ (in_bound h) (and_intro (member X s) _ both.0.is e)))) in
    let u = in_bound out.1 in
    in_stepping rows both.0 out.1 (⊎_elim (λ y. y) (λ o. absurd (out.2 (in_difference (in_first_states u u) o))) (in_or_out Y out.0)))
    (λ s h.
    let w = stepping_in rows h in
    in_difference w.0
    (λ i. (difference_in {X = first_states max_states} {Y = Y} (subset_in (and_true (member X s) _ (set_of_in _ i)).1 w.1 w.2)).1 w.3))
