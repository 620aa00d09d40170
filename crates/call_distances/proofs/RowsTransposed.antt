-- Laws of the rows transposed (specs/Transposing), and of what steps into a set by them.
--
--   stepping_new                      the states not found yet that step into a set, as the rows transposed give them
--   states_suc                        one place more adds that state, if it passes
--   transposed_start, -turn           the loop that joins each state to the predecessors of its successors: no row joined, and one more
--   transposed_image                  what the rows transposed hold of a set
use Prim.Native.Nat.{ℕ, suc, ◌+◌, ◌<◌}
use native.Mathlib.Numerals.{add-one}
use native.Mathlib.Omega.{arith}
use mathlib.Core.Path.{◌≡◌, refl, ap, ◌∙◌, subst}
use mathlib.Core.Logic.{◌⊎◌, inl, inr, ⊎_elim}
use mathlib.Core.Bool.{Bool, true, cond}
use mathlib.Core.List.{List, []}
use lib.ListN.{get_or, replicate}
use Rattle.basics.specs.Bounds.{tabulate}
use Rattle.model.specs.Sets.{WORDS, max_states, Set, number, set_of, member, single, union, difference, states, first_states, image}
use Rattle.basics.proofs.BoundLaws.{clash, by_cond, below_suc, get_or-tabulate, tabulate_cong}
use Rattle.model.proofs.SetsMembers.{set_of_proper, In, in_bound, in_single, single_in, in_union, union_in, in_difference, difference_in, in_states, states_in_lem, in_first_states, first_states_in, same_set, in_image, image_in}
use Rattle.model.proofs.SetsImages.{image_cong}
use Rattle.core_state_set.proofs.SetsWords.{with_bit_lem}
use Rattle.core_rows.specs.Rows.{row_in, map_at}
use Rattle.core_rows.proofs.RowsMapped.{map_at-tabulate}
use Rattle.call_paths.specs.Search.{stepping_into}
use Rattle.call_paths.proofs.RowsStepping.{in_stepping, stepping_in}
use Rattle.call_distances.specs.Transposing.{with_bit, predecessors_in, predecessor_rows}

pub stepping_new : (rows : List ℕ) (n : ℕ) (layer found : Set)
    → stepping_into rows (difference (first_states n) found) layer ≡ difference (image max_states (predecessors_in rows n) layer) found
unfolding stepping_into predecessors_in difference
stepping_new rows n layer found =
    same_set _ _ (set_of_proper _) (set_of_proper _)
    (λ s h.
    let w = stepping_in rows h in
    let rest = difference_in w.0 in
    in_difference (in_image _ layer max_states (in_bound w.3) w.3 (in_states n _ (in_bound h) (first_states_in rest.0) w.2.is)) rest.1)
    (λ s h.
    let both = difference_in h in
    let w = image_in _ layer max_states both.0 in
    let step = states_in_lem n _ w.3 in
    in_stepping rows (in_difference (in_first_states (in_bound h) step.0) both.1) (record { is = step.1 }) w.2)

-- ---- the rows transposed

module _ (p : ℕ → Bool) (k : ℕ) where
  widened : {s : ℕ} → In (states k p) s → In (states (suc k) p) s
  widened h = let both = states_in_lem k p h in in_states (suc k) p (in_bound h) (omega (arith, both.0)) both.1

  -- a state below suc k that passes is k, or is below k
  narrowed : {s : ℕ} → In (states (suc k) p) s → ((s ≡ k) × (p k ≡ true)) ⊎ In (states k p) s
  narrowed {s} h =
      let both = states_in_lem (suc k) p h in
      ⊎_elim (λ e. inl (e, rw e at both.1)) (λ l. inr (in_states k p (in_bound h) l both.1)) (below_suc both.0)

  states_suc : k < max_states → cond (p k) (with_bit k (states k p)) (states k p) ≡ states (suc k) p
  unfolding states union
  states_suc l =
      by_cond (λ (Y : Set). Y ≡ states (suc k) p) (p k) _ _
      (λ e.
      with_bit_lem (states k p) k (set_of_proper _) (omega arith)
      ∙ same_set _ _ (set_of_proper _) (set_of_proper _)
      (λ s h. ⊎_elim widened (λ i. in_states (suc k) p (in_bound h) (omega (arith, single_in i)) (ap p (single_in i) ∙ e)) (union_in h))
      (λ s h. ⊎_elim (λ q. in_union (inr (subst (λ (j : ℕ). In (single j) s) q.0 (in_single (in_bound h))))) (λ i. in_union (inl i)) (narrowed h)))
      (λ e.
      same_set _ _ (set_of_proper _) (set_of_proper _) (λ s h. widened h)
      (λ s h. ⊎_elim (λ q. absurd (clash q.1 e)) (λ i. i) (narrowed h)))

module _ (rows : List ℕ) where
  pub transposed_start : replicate max_states (replicate WORDS 0) ≡ predecessor_rows rows 0
  unfolding predecessor_rows predecessors_in tabulate states set_of number
  transposed_start = refl

  pub transposed_turn : {before before' : List Set} {X : Set} (s : ℕ) → s < max_states → X ≡ row_in rows s → before' ≡ map_at X (with_bit s) [] before
      → before ≡ predecessor_rows rows s → before' ≡ predecessor_rows rows (s + 1)
  unfolding predecessor_rows predecessors_in
  transposed_turn s l x j e =
      rw (j, x, e, add-one)
      (map_at-tabulate _ [] _ max_states _ ∙ tabulate_cong _ _ max_states (λ u m. states_suc (λ k. member (row_in rows k) u) s l))

  pub transposed_image : (n : ℕ) {before : List Set} → before ≡ predecessor_rows rows n → (X : Set)
      → image max_states (λ u. get_or before u []) X ≡ image max_states (predecessors_in rows n) X
  unfolding predecessor_rows
  transposed_image n e X =
      image_cong max_states _ _ X (λ u l h. ap (λ (xs : List Set). get_or xs u []) e ∙ get_or-tabulate _ max_states u [] l)
