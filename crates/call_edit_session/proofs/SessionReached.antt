-- What is reached when a step is added.
--
--   reachable_proper                 what is reached is a proper set; reachable-within: of states of the table
--   reachable_has, reachable_step    it holds what it starts from, and each step out of it
--   reachable-into                   and lies in every set that does
--   StepAdded t t' a b               t' is t with the step a → b
--   unreached-same                   added from a state that was not reached, nothing more is reached
--   reached_joins                    added from one that was, all that the target reaches is reached too, and no more
--   target-same                      what the target reaches is the same in either table
use Prim.Native.Nat.{ℕ, ◌<◌}
use mathlib.Core.Path.{◌≡◌, sym, subst}
use mathlib.Core.Logic.{◌⊎◌, inl, inr, ⊎_elim}
use Rattle.model.specs.Sets.{Set, empty, single, union, first_states}
use Rattle.model.specs.Tables.{Table}
use Rattle.model.proofs.SetsMembers.{Proper, set_of_proper, In, in_bound, empty_in, in_single, single_in, in_union, union_in, first_states_in, ◌⊆◌, ⊆-of-eq, same_set}
use Rattle.model.specs.WellFormed.{WellFormed}
use Rattle.model.proofs.Fixpoints.{iterate_has}
use Rattle.model.proofs.CoverLaws.{in_post, post_in}
use Rattle.core_reach.specs.Reached.{reach_step, reachable}
use Rattle.core_reach.proofs.ReachWalks.{reachable-is, iterate-within}

module _ (t : Table) (X : Set) where
  pub reachable_proper : Proper (reachable t X)
  unfolding reachable reach_step union empty
  reachable_proper = iterate_has Proper (reach_step t X) empty (set_of_proper _) (λ Y h. set_of_proper _) t.n

  pub reachable-into : (Y : Set) → X ⊆ Y → ((s u : ℕ) → s < t.n → In Y s → In (t.row s) u → In Y u) → reachable t X ⊆ Y
  unfolding reachable reach_step
  reachable-into Y from steps =
      iterate_has (λ Z. Z ⊆ Y) (reach_step t X) empty (λ s h. absurd (empty_in h))
      (λ Z i s h.
      ⊎_elim (λ k. from s k) (λ k. let w = post_in t.n t.row k in steps w.0 s w.1 (i w.0 w.2) w.3) (union_in h))
      t.n

  module _ (ok : WellFormed t) (within : X ⊆ first_states t.n) where
    pub reachable-within : reachable t X ⊆ first_states t.n
    unfolding reachable
    reachable-within = iterate-within t X ok within t.n

    again : reach_step t X (reachable t X) ⊆ reachable t X
    again = ⊆-of-eq (sym (reachable-is t X ok within).least.solves)

    pub reachable_has : X ⊆ reachable t X
    unfolding reach_step
    reachable_has s h = again s (in_union (inl h))

    pub reachable_step : (s u : ℕ) → In (reachable t X) s → In (t.row s) u → In (reachable t X) u
    unfolding reach_step
    reachable_step s u h r = again u (in_union (inr (in_post t.n t.row (first_states_in (reachable-within s h)) h r)))

pub record StepAdded (t t' : Table) (a b : ℕ) : Type 0 where
  pub states : t'.n ≡ t.n
  pub source : a < t.n
  pub target : In (first_states t.n) b
  pub step : In (t'.row a) b
  pub kept : (s : ℕ) → s < t.n → t.row s ⊆ t'.row s
  pub only : (s u : ℕ) → s < t.n → In (t'.row s) u → In (t.row s) u ⊎ ((s ≡ a) × (u ≡ b))

module _ {t t' : Table} {a b : ℕ} (d : StepAdded t t' a b) (ok : WellFormed t) (ok' : WellFormed t') where
  in_both : (X : Set) → X ⊆ first_states t.n → X ⊆ first_states t'.n
  in_both X i = subst (λ (m : ℕ). X ⊆ first_states m) (sym d.states) i

  -- what was reached still is
  grows : (X Y : Set) → X ⊆ first_states t.n → Y ⊆ first_states t.n → X ⊆ reachable t' Y → reachable t X ⊆ reachable t' Y
  grows X Y i j from =
      reachable-into t X (reachable t' Y) from (λ s u l h r. reachable_step t' Y ok' (in_both Y j) s u h (d.kept s l u r))

  -- a set that has the steps of the table has the one added too, if it has the target wherever it has the source
  closes : (X Y : Set) → X ⊆ Y → ((s u : ℕ) → s < t.n → In Y s → In (t.row s) u → In Y u) → (In Y a → In Y b) → reachable t' X ⊆ Y
  closes X Y from steps new =
      reachable-into t' X Y from
      (λ s u l h r.
      let bound : s < t.n = subst (λ (m : ℕ). s < m) d.states l in
      ⊎_elim (λ k. steps s u bound h k)
      (λ e. subst (λ (v : ℕ). In Y v) (sym e.1) (new (subst (λ (v : ℕ). In Y v) e.0 h)))
      (d.only s u bound r))

  one : single b ⊆ first_states t.n
  one s h = subst (λ (v : ℕ). In (first_states t.n) v) (sym (single_in h)) d.target

  b_in : In (single b) b
  b_in = in_single (in_bound d.target)

  module _ (X : Set) (within : X ⊆ first_states t.n) where
    steps_of : (s u : ℕ) → s < t.n → In (reachable t X) s → In (t.row s) u → In (reachable t X) u
    steps_of s u l = reachable_step t X ok within s u

    pub unreached-same : (In (reachable t X) a → ⊥) → reachable t' X ≡ reachable t X
    unreached-same out =
        same_set _ _ (reachable_proper t' X) (reachable_proper t X)
        (closes X (reachable t X) (reachable_has t X ok within) steps_of (λ h. absurd (out h)))
        (grows X X within within (reachable_has t' X ok' (in_both X within)))

    pub reached_joins : In (reachable t X) a → reachable t' X ≡ union (reachable t X) (reachable t' (single b))
    unfolding union
    reached_joins h =
        let more = grows X X within within (reachable_has t' X ok' (in_both X within)) in
        let ends = reachable_has t' (single b) ok' (in_both (single b) one) in
        same_set _ _ (reachable_proper t' X) (set_of_proper _)
        (closes X _ (λ s i. in_union (inl (reachable_has t X ok within s i)))
        (λ s u l i r.
        in_union
        (⊎_elim (λ k. inl (steps_of s u l k r)) (λ k. inr (reachable_step t' (single b) ok' (in_both (single b) one) s u k (d.kept s l u r))) (union_in i)))
        (λ i. in_union (inr (ends b b_in))))
        (λ s i.
        ⊎_elim (λ k. more s k)
        (λ k.
        reachable-into t' (single b) (reachable t' X)
        (λ u j. subst (λ (v : ℕ). In (reachable t' X) v) (sym (single_in j)) (reachable_step t' X ok' (in_both X within) a b (more a h) d.step))
        (λ u v l. reachable_step t' X ok' (in_both X within) u v) s k)
        (union_in i))

  pub target-same : reachable t' (single b) ≡ reachable t (single b)
  target-same =
      same_set _ _ (reachable_proper t' (single b)) (reachable_proper t (single b))
      (closes (single b) _ (reachable_has t (single b) ok one) (steps_of (single b) one) (λ h. reachable_has t (single b) ok one b b_in))
      (grows (single b) (single b) one one (reachable_has t' (single b) ok' (in_both (single b) one)))
