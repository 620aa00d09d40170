-- Back through the layers: what is left of each is the states of the shortest paths, and the walk through those is the model's.
--
--   placed rows t d i                   the states at place i of a path of d steps: at most i steps from an initial state, and at most d − i from a
--                                  forbidden one
--   narrowed_turn, narrowed-end    the loop back: one row more; when none is left
--   placed_step                    where no path is shorter than d: of each layer before d those are placed that step to a placed one of the next
--   narrowed-is                    so narrowed_back leaves the placed states of each
--   walk_by-is                      and walk_by through them is the model's walk
use Prim.Native.Nat.{ℕ, zero, suc, ◌+◌, ◌-◌, ◌≤◌, ◌<◌}
use native.Mathlib.Nat.{not-suc-le-zero}
use native.Mathlib.Numerals.{add-one}
use native.Mathlib.Omega.{arith}
use mathlib.Core.Path.{◌≡◌, refl, sym, ap, ap₂, ◌∙◌}
use mathlib.Core.Logic.{⊎_elim}
use mathlib.Core.List.{List, [], ◌∷◌}
use lib.ListN.{length, get_or, set, length-set}
use lib.Seq.{get_or-set_same, get_or-set_other}
use Rattle.model.specs.Sets.{max_states, Set, meet, smallest}
use Rattle.model.specs.Tables.{Table}
use Rattle.model.specs.Rounds.{iterate}
use Rattle.model.specs.Paths.{reaching, walk}
use Rattle.basics.proofs.BoundLaws.{clash, lt_or_ge}
use Rattle.model.proofs.SetsMembers.{set_of_proper, In, empty_in, in_meet, meet_in, in_difference, difference_in, first_states_in, ◌⊆◌, ⊆-of-eq, same_set, in_meets}
use Rattle.model.specs.WellFormed.{WellFormed}
use Rattle.model.proofs.PathLaws.{Nearest, pick, pick_at, at_row, in_reaching, reaching_in}
use Rattle.core_rows.specs.Rows.{successors_by}
use Rattle.core_rows.proofs.RowsLent.{HasRows}
use Rattle.core_reach.specs.Reached.{reach_by}
use Rattle.call_paths.specs.Search.{layer_of, stepping_into, narrowed_back, smallest_in, walk_by}
use Rattle.call_paths.proofs.RowsStepping.{in_stepping, stepping_in}
use Rattle.call_paths.proofs.Duality.{outward, out_within, out_step, crossing}

-- ---- row by row

module _ (rows : List ℕ) (layers : List Set) where
  pub narrowed_turn : (i : ℕ) {A B Y : Set} → 0 < i → Y ≡ stepping_into rows A B → A ≡ get_or layers (i - 1) [] → B ≡ get_or layers (i - 1 + 1) []
      → narrowed_back rows (i - 1) (set layers (i - 1) Y) ≡ narrowed_back rows i layers
  unfolding narrowed_back
  narrowed_turn zero l p q r = absurd (not-suc-le-zero l)
  narrowed_turn (suc i) l p q r = let e : suc i - 1 ≡ i = omega arith in rw (p, q, r, e, add-one)

  pub narrowed-end : (i : ℕ) → i ≤ 0 → narrowed_back rows i layers ≡ layers
  unfolding narrowed_back
  narrowed-end zero l = refl
  narrowed-end (suc i) l = absurd (not-suc-le-zero l)

-- ---- the states of the shortest paths

abbrev pub placed : List ℕ → Table → ℕ → ℕ → Set
placed rows t d i = meet (layer_of rows t.initial i) (reaching t (d - i))

module _ (t : Table) (rows : List ℕ) (r : HasRows t rows) (ok : WellFormed t) (d : ℕ) (near : Nearest t t.initial d) where
  abbrev layer : ℕ → Set
  layer = layer_of rows t.initial

  -- no path is shorter
  apart : (i j : ℕ) {s : ℕ} → i + j < d → In (outward rows t i) s → In (reaching t j) s → ⊥
  apart i j l a b = clash (sym (crossing ok rows r i j (i + j) refl) ∙ in_meets a b) (near.no_closer (i + j) l)

  layer_out : (i : ℕ) {s : ℕ} → In (layer i) s → In (outward rows t i) s
  unfolding layer_of reach_by successors_by
  layer_out i h = (difference_in h).0

  out_layer : (i : ℕ) {s : ℕ} → i ≤ d → In (outward rows t i) s → In (reaching t (d - i)) s → In (layer i) s
  unfolding layer_of iterate reach_by successors_by
  out_layer zero l a b = in_difference a empty_in
  out_layer (suc i) l a b = in_difference a (λ c. apart i (d - suc i) (omega arith) c b)

  placed_step : (i : ℕ) → i < d → stepping_into rows (layer i) (placed rows t d (suc i)) ≡ placed rows t d i
  unfolding stepping_into meet
  placed_step i l =
      let one : suc (d - suc i) ≡ d - i = omega arith in
      same_set _ _ (set_of_proper _) (set_of_proper _)
      (λ s h.
      let w = stepping_in rows h in
      let inside = out_within ok rows r i s (layer_out i w.0) in
      in_meet w.0 (rw one at (in_reaching t (d - suc i) inside (⊆-of-eq (sym (r s (first_states_in inside))) w.1 w.2) (meet_in w.3).1)))
      (λ s h.
      let both = meet_in h in
      let out = layer_out i both.0 in
      ⊎_elim
      (λ c. absurd (apart i (d - suc i) (omega arith) out c))
      (λ m.
      in_stepping rows both.0 (⊆-of-eq (r s (first_states_in m.1)) m.0 m.2)
      (in_meet (out_layer (suc i) l (out_step ok rows r i out m.2) m.3) m.3))
      (reaching_in t (d - suc i) (rw (← one) at both.1)))

  pub narrowed-is : d < max_states → (j : ℕ) (layers : List Set) → j ≤ d → length layers ≡ max_states → ((i : ℕ) → i < j → get_or layers i [] ≡ layer i)
      → ((i : ℕ) → j ≤ i → i ≤ d → get_or layers i [] ≡ placed rows t d i) → (i : ℕ) → i ≤ d → get_or (narrowed_back rows j layers) i [] ≡ placed rows t d i
  unfolding narrowed_back
  narrowed-is b zero layers l long whole done i m = done i (omega arith) m
  narrowed-is b (suc j) layers l long whole done i m =
      let Y = stepping_into rows (get_or layers j []) (get_or layers (suc j) []) in
      narrowed-is b j (set layers j Y) (omega arith) (length-set layers j Y ∙ long)
      (λ v o. get_or-set_other layers j v Y [] (λ e. omega arith) ∙ whole v (omega arith))
      (λ v o k.
      ⊎_elim
      (λ a. get_or-set_other layers j v Y [] (λ e. omega arith) ∙ done v a k)
      (λ a.
      let e : v ≡ j = omega arith in
      rw e (get_or-set_same layers j Y [] (omega arith) ∙ ap₂ (stepping_into rows) (whole j (omega arith)) (done (suc j) (omega arith) l) ∙ placed_step j l))
      (lt_or_ge j v))
      i m

  -- ---- the walk

  module _ (layers : List Set) (kept : (i : ℕ) → i ≤ d → get_or layers i [] ≡ placed rows t d i) where
    picked : (e at : ℕ) (Y : Set) → at + e ≡ d → Y ⊆ outward rows t at → smallest_in layers at Y ≡ pick t e Y
    unfolding meet
    picked e at Y q inside =
        let left : d - at ≡ e = omega arith in
        ap smallest
        (ap (meet Y) (kept at (omega arith))
        ∙ same_set _ _ (set_of_proper _) (set_of_proper _)
        (λ s h. let both = meet_in h in in_meet both.0 (rw left at (meet_in both.1).1))
        (λ s h.
        let both = meet_in h in
        let near = rw (← left) at both.1 in
        in_meet both.0 (in_meet (out_layer at (omega arith) (inside s both.0) near) near)))

    pub walk_by-is : (e at : ℕ) {Y : Set} → at + e ≡ d → Y ⊆ outward rows t at → Nearest t Y e → walk_by rows layers at e (smallest_in layers at Y) ≡ walk t e Y
    unfolding walk_by walk
    walk_by-is zero at {Y} q inside w = rw (picked zero at Y q inside)
    walk_by-is (suc e) at {Y} q inside w =
        let first = pick_at t w in
        let here = inside (pick t (suc e) Y) first.0 in
        rw (picked (suc e) at Y q inside, ← r _ (first_states_in (out_within ok rows r at _ here)))
        (ap (λ (xs : List ℕ). pick t (suc e) Y ∷ xs) (walk_by-is e (suc at) (omega arith) (λ u h. out_step ok rows r at here h) (at_row t first.1)))
