-- Laws of the sweep outward from the forbidden states: the search by layers (core_reach, ReachLayers) over the rows transposed.
--
--   near_before, before_near         the states that fewer than k + 1 steps back lead to are those within k steps of a forbidden one
--   Swept rows t d                   the sweep as far as layer d: what is found, and the distances of the states before the layer
--   layer_distance                   so the states of layer d are at distance d
--   swept_start, -turn, -end         where it starts; a turn; when the layer is empty
--   swept_full                       which it is after as many turns as a set has states
use Prim.Native.Nat.{ℕ, zero, suc, ◌+◌, ◌≤◌, zero-le}
use native.Mathlib.Numerals.{add-one}
use native.Mathlib.Omega.{arith}
use mathlib.Core.Path.{◌≡◌, refl, sym, ap, ◌∙◌}
use mathlib.Core.Logic.{inl, inr, ⊎_elim}
use mathlib.Core.Bool.{Bool, true, false, cond}
use mathlib.Core.List.{List}
use lib.ListN.{replicate}
use Rattle.basics.specs.Bounds.{tabulate}
use Rattle.model.specs.Sets.{max_states, Set, member, empty, union, difference, subset, image}
use Rattle.model.specs.Tables.{Table}
use Rattle.model.specs.Rounds.{iterate}
use Rattle.model.specs.Paths.{reaching, unreachable, distance}
use Rattle.basics.proofs.BoundLaws.{is_false, clash, decided, by_cond, same_test, tabulate_cong, tabulate_const}
use Rattle.model.proofs.SetsMembers.{Proper, In, in_bound, empty_in, in_union, union_in, in_states, states_in_lem, in_first_states, first_states_in, ⊆-of-eq, in_image, image_in}
use Rattle.model.specs.WellFormed.{WellFormed}
use Rattle.model.proofs.PathLaws.{At, in_reaching, reaching_in, reaching_mono, at_lt, distance_is, distance-unreachable}
use Rattle.core_rows.specs.Rows.{map_at}
use Rattle.core_rows.proofs.RowsLent.{HasRows}
use Rattle.core_rows.proofs.RowsMapped.{map_at-tabulate}
use Rattle.core_reach.proofs.ReachLayers.{before, before_grows, before_mono, Layered, layered_start, layered_turn, layered_below, layered_still}
use Rattle.call_distances.specs.Transposing.{predecessors_in}

-- the states that fewer than d steps back lead to from the forbidden ones
abbrev pub nearer : List ℕ → Table → ℕ → Set
nearer rows t d = before (predecessors_in rows t.n) t.forbidden d

pub record Swept (rows : List ℕ) (t : Table) (d : ℕ) (distances : List ℕ) (found layer : Set) : Type 0 where
  pub layered : Layered (predecessors_in rows t.n) t.forbidden d found layer
  pub known : distances ≡ tabulate max_states (λ s. cond (member (nearer rows t d) s) (distance t s) unreachable)

module _ (rows : List ℕ) {t : Table} (r : HasRows t rows) (ok : WellFormed t) where
  near_before : (k : ℕ) {s : ℕ} → In (reaching t k) s → In (nearer rows t (suc k)) s
  unfolding iterate reaching predecessors_in
  near_before zero h = in_union (inl h)
  near_before (suc k) {s} h =
      ⊎_elim
      (λ c. before_grows _ _ (suc k) s (near_before k c))
      (λ w.
      let l = first_states_in w.1 in
      in_union (inr (in_image _ _ max_states (in_bound w.2) (near_before k {s = w.0} w.3) (in_states t.n _ (in_bound h) l (⊆-of-eq (r s l) w.0 w.2).is))))
      (reaching_in t k h)

  before_near : (k : ℕ) {s : ℕ} → In (nearer rows t (suc k)) s → In (reaching t k) s
  unfolding iterate reaching predecessors_in
  before_near zero h = ⊎_elim (λ i. i) (λ i. absurd (empty_in (image_in _ empty max_states i).2)) (union_in h)
  before_near (suc k) {s} h =
      ⊎_elim (reaching_mono t 0 (suc k) zero-le s)
      (λ i.
      let w = image_in _ _ max_states i in
      let step = states_in_lem t.n _ w.3 in
      in_reaching t k (in_first_states (in_bound h) step.0) (⊆-of-eq (sym (r s step.0)) w.0 (record { is = step.1 })) (before_near k {s = w.0} w.2))
      (union_in h)

  pub swept_start : Proper t.forbidden → Swept rows t 0 (replicate max_states unreachable) t.forbidden t.forbidden
  unfolding iterate
  swept_start p =
      record {
        layered = layered_start _ _ p;
        known =
            tabulate_const max_states unreachable
            ∙ tabulate_cong _ _ max_states (λ s l. rw (is_false (member empty s) (λ m. empty_in (record { is = m }))));
      }

  module _ {distances : List ℕ} {found layer : Set} {d : ℕ} (so : Swept rows t d distances found layer) where
    layer_distance : {s : ℕ} → In layer s → distance t s ≡ d
    layer_distance {s} h =
        let new = so.layered.new s h in
        let a : At t s d =
        record {
          within = before_near d new.0;
          no_closer = λ j l i. new.1 (before_mono _ _ (suc j) d l s (near_before j i));
        } in
        distance_is t s d (at_lt ok d a) a

    pub swept_turn : {distances' : List ℕ} {found' layer' : Set} → subset layer empty ≡ false → distances' ≡ map_at layer (λ _. d) 0 distances
        → layer' ≡ difference (image max_states (predecessors_in rows t.n) layer) found → found' ≡ union found layer'
        → Swept rows t (d + 1) distances' found' layer'
    swept_turn some m p q =
        rw add-one record {
          layered = layered_turn _ _ so.layered some p q;
          known = m ∙ ap (map_at layer (λ _. d) 0) so.known ∙ map_at-tabulate _ 0 layer max_states _ ∙ tabulate_cong _ _ max_states (λ s l. marked s);
        }
      where
        marked : (s : ℕ)
            → cond (member layer s) d (cond (member (nearer rows t d) s) (distance t s) unreachable)
            ≡ cond (member (nearer rows t (suc d)) s) (distance t s) unreachable
        marked s =
            by_cond (λ (x : ℕ). x ≡ cond (member (nearer rows t (suc d)) s) (distance t s) unreachable) (member layer s) _ _
            (λ e. let h : In layer s = record { is = e } in rw ((so.layered.new s h).0.is, layer_distance h))
            (λ e.
            ap (λ (b : Bool). cond b (distance t s) unreachable)
            (same_test _ _ (λ i. (before_grows _ _ d s (record { is = i })).is)
            (λ i. ⊎_elim (λ h. h.is) (λ h. absurd (clash h.is e)) (so.layered.all s (record { is = i })))))

    pub swept_end : subset layer empty ≡ true → distances ≡ tabulate max_states (distance t)
    swept_end none =
        so.known
        ∙ tabulate_cong _ _ max_states
        (λ s l.
        by_cond (λ (x : ℕ). x ≡ distance t s) (member (nearer rows t d) s) _ _ (λ e. refl)
        (λ e. sym (distance-unreachable t s (λ k m h. clash (layered_still _ _ so.layered none (suc k) s (near_before k h)).is e))))

    pub swept_full : max_states ≤ d → distances ≡ tabulate max_states (distance t)
    swept_full l = ⊎_elim swept_end (λ some. absurd (omega (arith, layered_below _ _ so.layered some))) (decided (subset layer empty))
