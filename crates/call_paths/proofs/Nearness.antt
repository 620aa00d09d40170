-- How near a state is, by its distance, and what `is_within` says of that.
--
--   within-some, some-within             is_within, by the state that it is about
--   reach_near, near_distance            a state is within its distance unless that is `unreachable`; one within k steps is at distance at most k
--   within-reaching, within-shortest     is_within says whether an initial state is within k steps, and whether a shortest path has at most k
--   met_path                             where an initial state is within k steps, there is a path, of at most k
use Prim.Native.Nat.{ℕ, ◌≤◌}
use native.Mathlib.Omega.{arith}
use mathlib.Core.Path.{◌≡◌, sym, ap, ◌∙◌}
use mathlib.Core.Logic.{⊎_elim, ◌↔◌}
use mathlib.Core.Bool.{true, not}
use borrow.Author.Tests.{eqb-false, ne_eqb, leb-true, le-leb, lt-ltb}
use Rattle.model.specs.Sets.{max_states, member, meets}
use Rattle.model.specs.Tables.{Table}
use Rattle.model.specs.Paths.{reaching, unreachable, distance, shortest, has_path}
use Rattle.basics.proofs.BoundLaws.{and_true, and_intro, not_true, same_test, any_intro, any_find, lt_or_ge}
use Rattle.model.proofs.SetsMembers.{In, in_bound, in_meets, meets_in}
use Rattle.model.specs.WellFormed.{WellFormed}
use Rattle.model.proofs.PathLaws.{at_lt, reaching_at, reaching_mono, distance_is, distance-unreachable, distance-reaching, reaching-distance, shortest_le, shortest-nearest}
use Rattle.call_paths.specs.Within.{can_reach, is_within}

module _ (t : Table) (k : ℕ) where
  -- an initial state that can reach a forbidden one, at distance at most k
  abbrev Some : Type 0
  Some = (s : ℕ) × In t.initial s × (distance t s ≡ unreachable → ⊥) × (distance t s ≤ k)

  pub within-some : is_within t k ≡ true → Some
  unfolding is_within can_reach
  within-some e =
      let w = any_find _ max_states e in
      let both = and_true (member t.initial w.0) _ w.2 in
      let near = and_true (can_reach t w.0) _ both.1 in
      (w.0, record { is = both.0 }, eqb-false (distance t w.0) unreachable (not_true _ near.0), leb-true _ k near.1)

  pub some-within : Some → is_within t k ≡ true
  unfolding is_within can_reach
  some-within w =
      any_intro _ max_states w.0 (in_bound w.1)
      (and_intro (member t.initial w.0) _ w.1.is
      (and_intro (can_reach t w.0) _ (ap not (ne_eqb (distance t w.0) unreachable w.2)) (le-leb _ k w.3)))

module _ {t : Table} (ok : WellFormed t) (small : t.n ≤ max_states) where
  -- a distance below n is that of a state so near; none is from n up
  pub reach_near : (s : ℕ) → (distance t s ≡ unreachable → ⊥) → In (reaching t (distance t s)) s
  reach_near s f =
      ⊎_elim
      (λ b. distance-reaching t s (distance t s) b small (omega arith))
      (λ b. absurd (f (distance-unreachable t s (λ j c h. omega (arith, reaching-distance t s j c h)))))
      (lt_or_ge (distance t s) t.n)

  pub near_distance : (s k : ℕ) → In (reaching t k) s → (distance t s ≤ k) × (distance t s ≡ unreachable → ⊥)
  near_distance s k h =
      let a = reaching_at t k h in
      let below = at_lt ok a.0 a.2 in
      let e = distance_is t s a.0 below a.2 in
      (omega (arith, a.1), (λ none. omega arith))

  pub within-reaching : (k : ℕ) → is_within t k ≡ meets t.initial (reaching t k)
  within-reaching k =
      same_test _ _
      (λ e. let w = within-some t k e in in_meets w.1 (reaching_mono t (distance t w.0) k w.3 w.0 (reach_near w.0 w.2)))
      (λ e. let w = meets_in e in let near = near_distance w.0 k w.2 in some-within t k (w.0, w.1, near.1, near.0))

  -- where any number of steps lead to a forbidden state, fewer than n do
  pub met_path : (k : ℕ) → meets t.initial (reaching t k) ≡ true → (has_path t ≡ true) × (shortest t ≤ k)
  unfolding has_path
  met_path k e =
      let w = meets_in e in
      let a = reaching_at t k w.2 in
      (lt-ltb (shortest t) t.n (omega (arith, shortest_le t a.0 w.1 a.2.within, at_lt ok a.0 a.2)), shortest_le t k w.1 w.2)

  pub within-shortest : (k : ℕ) → (is_within t k ≡ true) ↔ ((has_path t ≡ true) × (shortest t ≤ k))
  within-shortest k = (
    (λ e. met_path k (sym (within-reaching k) ∙ e)),
    (λ p.
        let w = meets_in (shortest-nearest t p.0).within in
        within-reaching k ∙ in_meets w.1 (reaching_mono t (shortest t) k p.1 w.0 w.2)),
  )
