-- Outward from the initial states and outward from the forbidden ones, the same paths are met.
--
--   outward rows t i               the states that at most i steps lead to from an initial one; out_within, out_step
--   crossing                       those meet "at most j steps from a forbidden state" exactly if an initial state is within i + j
--   first_found                    so the first layer with a forbidden state is that of a shortest path
--   found_within                   which tells whether there is a path of at most k steps
use Prim.Native.Nat.{ℕ, zero, suc, ◌+◌, ◌≤◌, ◌<◌}
use native.Mathlib.Omega.{arith}
use mathlib.Core.Path.{◌≡◌, sym, ◌∙◌}
use mathlib.Core.Logic.{inl, inr, ⊎_elim}
use mathlib.Core.Bool.{true, false}
use mathlib.Core.List.{List}
use Rattle.std.specs.Prelude.{Option}
use borrow.Author.Tests.{ltb-true, lt-ltb, leb-true, le-leb}
use Rattle.model.specs.Sets.{max_states, Set, empty, meets, first_states}
use Rattle.model.specs.Tables.{Table}
use Rattle.model.specs.Rounds.{iterate}
use Rattle.model.specs.Paths.{reaching, shortest, has_path}
use Rattle.basics.proofs.BoundLaws.{is_false, clash, decided, by_cond, same_test, first-is, first-none}
use Rattle.model.proofs.SetsMembers.{In, in_bound, empty_in, in_union, union_in, first_states_in, ◌⊆◌, ⊆-of-eq, in_image, image_in, in_meets, meets_in}
use Rattle.model.specs.WellFormed.{WellFormed}
use Rattle.model.proofs.Fixpoints.{iterate_has}
use Rattle.model.proofs.PathLaws.{in_reaching, reaching_in, reaching_suc, shortest-nearest}
use Rattle.core_rows.specs.Rows.{row_in, successors_by}
use Rattle.core_rows.proofs.RowsLent.{HasRows}
use Rattle.core_reach.specs.Reached.{reach_by}
use Rattle.core_reach.proofs.ReachLayers.{before, before_grows}
use Rattle.call_paths.specs.Search.{met_within, first_layer, steps_within}
use Rattle.call_paths.specs.PathAnswers.{found_in}
use Rattle.call_paths.specs.Within.{is_within}
use Rattle.call_paths.proofs.Nearness.{met_path, within-shortest}

abbrev pub outward : List ℕ → Table → ℕ → Set
outward rows t i = before (row_in rows) t.initial (suc i)

module _ {t : Table} (ok : WellFormed t) (rows : List ℕ) (r : HasRows t rows) where
  pub out_within : (i : ℕ) → outward rows t i ⊆ first_states t.n
  out_within i =
      iterate_has (λ Y. Y ⊆ first_states t.n) _ empty (λ s h. absurd (empty_in h))
      (λ Y inside s h.
      ⊎_elim (ok.initial s)
      (λ m.
      let w = image_in _ Y max_states m in
      let l = first_states_in (inside w.0 w.2) in
      ok.rows w.0 l s (⊆-of-eq (sym (r w.0 l)) s w.3))
      (union_in h))
      (suc i)

  pub out_step : (i : ℕ) {s u : ℕ} → In (outward rows t i) s → In (t.row s) u → In (outward rows t (suc i)) u
  unfolding iterate
  out_step i {s} {u} a h =
      in_union (inr (in_image _ _ max_states (in_bound a) a (⊆-of-eq (r s (first_states_in (out_within i s a))) u h)))

  step : (i j : ℕ) → meets (outward rows t (suc i)) (reaching t j) ≡ meets (outward rows t i) (reaching t (suc j))
  unfolding iterate
  step i j =
      same_test _ _
      (λ m.
      let w = meets_in m in
      ⊎_elim
      (λ h. in_meets (in_union (inl h)) (reaching_suc t j w.0 w.2))
      (λ h.
      let p = image_in _ _ max_states h in
      let inside = out_within i p.0 p.2 in
      in_meets p.2 (in_reaching t j inside (⊆-of-eq (sym (r p.0 (first_states_in inside))) w.0 p.3) w.2))
      (union_in w.1))
      (λ m.
      let w = meets_in m in
      ⊎_elim (λ c. in_meets (before_grows _ _ (suc i) w.0 w.1) c) (λ c. in_meets (out_step i w.1 c.2) c.3) (reaching_in t j w.2))

  pub crossing : (i j k : ℕ) → i + j ≡ k → meets (outward rows t i) (reaching t j) ≡ meets t.initial (reaching t k)
  unfolding iterate
  crossing zero j k e =
      let q : j ≡ k = omega arith in
      rw q
      (same_test _ _
      (λ m. let w = meets_in m in in_meets (⊎_elim (λ i. i) (λ i. absurd (empty_in (image_in _ empty max_states i).2)) (union_in w.1)) w.2)
      (λ m. let w = meets_in m in in_meets (in_union (inl w.1)) w.2))
  crossing (suc i) j k e = step i j ∙ crossing i (suc j) k (omega arith)

  met_is : (k : ℕ) → met_within rows t.initial t.forbidden k ≡ meets t.initial (reaching t k)
  unfolding met_within reach_by successors_by reaching
  met_is k = crossing k 0 k (omega arith)

  module _ (small : t.n ≤ max_states) where
    pub shortest_below : has_path t ≡ true → shortest t < max_states
    unfolding has_path
    shortest_below e = omega (arith, ltb-true (shortest t) t.n e, small)

    pub first_found : first_layer rows t.initial t.forbidden ≡ found_in t
    unfolding first_layer found_in
    first_found =
        let met = met_within rows t.initial t.forbidden in
        ⊎_elim
        (λ (e : has_path t ≡ true).
        let near = shortest-nearest t e in
        let d = first-is met max_states (shortest t) (shortest_below e) (met_is (shortest t) ∙ near.within) (λ j l. met_is j ∙ near.no_closer j l) in
        rw (d, e, lt-ltb (shortest t) max_states (shortest_below e)))
        (λ (e : has_path t ≡ false).
        let d = first-none met max_states (λ j l. is_false (met j) (λ m. clash (met_path ok small j (sym (met_is j) ∙ m)).0 e)) in
        rw (d, e))
        (decided (has_path t))

    pub found_within : (k : ℕ) → steps_within (found_in t) k ≡ is_within t k
    unfolding found_in
    found_within k =
        let is = within-shortest ok small k in
        by_cond (λ (f : Option ℕ). steps_within f k ≡ is_within t k) (has_path t) _ _
        (λ e. same_test _ _ (λ l. is.1 (e, leb-true _ k l)) (λ y. le-leb _ k (is.0 y).1))
        (λ e. sym (is_false _ (λ y. clash (is.0 y).0 e)))
