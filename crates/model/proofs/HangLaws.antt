-- Laws of hangs, and the proof of specs/Resting.
--
--   dead_none, none_dead       a dead end has no successor, and back
--   in_hangs, hangs_in         hangs by their members; hangs-within: they are states of the table
--   rested_inside              what is forbidden where some states rest is forbidden where others do, if the same dead ends rest
--   forbidden-is               specs/Resting
use Prim.Native.Nat.{ℕ, ◌<◌}
use native.Mathlib.Nat.{not-le_of_lt}
use mathlib.Core.Path.{◌≡◌, sym, ap, ◌∙◌}
use mathlib.Core.Logic.{inl, inr, ⊎_elim}
use mathlib.Core.Bool.{true, false, not}
use Rattle.basics.specs.Bounds.{any}
use Rattle.model.specs.Sets.{max_states, Set, member, single, union, first_states}
use Rattle.model.specs.Tables.{Dialogue, is_dead_end, is_hang, hangs, table_from}
use Rattle.model.specs.Resting.{Dead, rested, ForbiddenIs}
use Rattle.basics.proofs.BoundLaws.{and_true, and_intro, not_true, is_false, clash, decided, same_test, any_intro, no_any}
use Rattle.model.proofs.SetsMembers.{In, in_bound, single_in, in_union, union_in, in_states, states_in_lem, states-within, same_set, ◌⊆◌, union_proper}

-- ---- dead ends and hangs

module _ (row : ℕ → Set) (s : ℕ) where
  pub dead_none : is_dead_end row s ≡ true → (u : ℕ) → member (row s) u ≡ false
  unfolding is_dead_end
  dead_none e u =
      is_false (member (row s) u)
      (λ h. clash (any_intro (member (row s)) max_states u (in_bound {X = row s} (record { is = h })) h) (not_true (any max_states (member (row s))) e))

  pub none_dead : ((u : ℕ) → member (row s) u ≡ false) → is_dead_end row s ≡ true
  unfolding is_dead_end
  none_dead f = ap not (no_any (member (row s)) max_states (λ u l. f u))

module _ (n : ℕ) (row : ℕ → Set) (resting : Set) where
  pub hangs-within : hangs n row resting ⊆ first_states n
  unfolding hangs
  hangs-within = states-within n _

  pub in_hangs : {s : ℕ} → s < max_states → s < n → is_dead_end row s ≡ true → member resting s ≡ false → In (hangs n row resting) s
  unfolding hangs is_hang
  in_hangs h l e r = let rests_not = ap not r in in_states n _ h l (search (e, rests_not, and_intro))

  pub hangs_in : {s : ℕ} → In (hangs n row resting) s → (s < n) × (is_dead_end row s ≡ true) × (member resting s ≡ false)
  unfolding hangs is_hang
  hangs_in {s} h =
      let parts = states_in_lem n _ h in
      let both = and_true (is_dead_end row s) (not (member resting s)) parts.1 in
      (parts.0, both.0, not_true (member resting s) both.1)

-- ---- the forbidden states of a dialogue's table

module _ (d : Dialogue) where
  abbrev forbidden_with : Set → Set
  forbidden_with X = union d.marked (hangs d.n d.row X)

  -- the same dead ends rest, as far as they are not marked
  abbrev Agree : Set → Set → Type 0
  Agree X Y = (s : ℕ) → s < d.n → Dead d s → member d.marked s ≡ false → member X s ≡ member Y s

  rested_inside : (X Y : Set) → Agree X Y → forbidden_with X ⊆ forbidden_with Y
  rested_inside X Y agree s h =
      in_union
      (⊎_elim inl
      (λ hang.
      let w = hangs_in d.n d.row X hang in
      ⊎_elim
      (λ (e : member d.marked s ≡ true). inl (record { is = e }))
      (λ (e : member d.marked s ≡ false).
      inr (in_hangs d.n d.row Y (in_bound h) w.0 w.1 (sym (agree s w.0 (dead_none d.row s w.1) e) ∙ w.2)))
      (decided (member d.marked s)))
      (union_in h))

  rested-same : (X : Set) → Agree X d.resting → table_from (rested d X) ≡ table_from d
  unfolding table_from rested
  rested-same X agree =
      let same =
      same_set (forbidden_with X) (forbidden_with d.resting) (union_proper _ _) (union_proper _ _) (rested_inside X d.resting agree)
      (rested_inside d.resting X (λ s l dead e. sym (agree s l dead e))) in
      λ i. record { n = d.n; initial = d.initial; forbidden = same i; groups = d.groups; row = d.row }

  -- one state more
  one_more : (X : Set) (x s : ℕ) → (s ≡ x → ⊥) → member (union X (single x)) s ≡ member X s
  one_more X x s f =
      same_test (member (union X (single x)) s) (member X s)
      (λ e. ⊎_elim (λ h. h.is) (λ h. absurd (f (single_in h))) (union_in {X = X} {Y = single x} (record { is = e })))
      (λ e. (in_union {X = X} {Y = single x} (inl (record { is = e }))).is)

  pub forbidden-is : ForbiddenIs d
  unfolding table_from
  forbidden-is =
      let marked-in : (s : ℕ) → member d.marked s ≡ true → In (forbidden_with d.resting) s = λ s e. in_union (inl (record { is = e })) in
      record {
        forbidden = λ s l. (
          λ e. ⊎_elim (λ h. inl h.is)
              (λ h. let w = hangs_in d.n d.row d.resting h in inr (w.0, dead_none d.row s w.1, w.2))
              (union_in (record { is = e })),
          ⊎_elim (λ e. (marked-in s e).is)
              (λ w. (in_union (inr (in_hangs d.n d.row d.resting l w.0 (none_dead d.row s w.1) w.2))).is),
        );
        marked_wins = λ s e. (marked-in s e).is;
        states_only = λ s l.
            same_test _ (member d.marked s)
            (λ e.
            ⊎_elim (λ h. h.is) (λ h. absurd (not-le_of_lt (hangs_in d.n d.row d.resting h).0 l)) (union_in (record { is = e })))
            (λ e. (marked-in s e).is);
        resting_matters = rested-same;
        with_successor = λ s u step.
            rested-same (union d.resting (single s))
            (λ r l dead e. one_more d.resting s r (λ q. clash step (dead_at s r q dead u)));
      }
    where
      dead_at : (s r : ℕ) → r ≡ s → Dead d r → Dead d s
      dead_at s r q dead u = ap (λ (x : ℕ). member (d.row x) u) (sym q) ∙ dead u
