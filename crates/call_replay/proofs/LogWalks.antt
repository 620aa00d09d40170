-- What holds of every walk through a well_formed table.
--
--   divided                      the division with remainder
--   reachable-closed             the states that can be reached have each step out of them
--   followed-is                  the followed entries are the longest front that obeys
--   seen-is                      the states that they hold
--   walk_is                      WalkIs, the coverage by `divided`
use Prim.Native.Nat.{ℕ, ◌*◌, ◌/◌, ◌≤◌, ◌<◌}
use native.Mathlib.Nat.{mod-lt, div-add-mod', div-lt_iff_lt-mul}
use native.Mathlib.Omega.{arith}
use mathlib.Core.Path.{◌≡◌, refl, sym, ◌∙◌, subst}
use mathlib.Core.Logic.{inl, ⊎_elim}
use mathlib.Core.Bool.{true, false}
use mathlib.Core.List.{List}
use borrow.Author.Tests.{eqb-false, eq-eqb, ne_eqb}
use lib.Dec.{eqb}
use lib.ListN.{length, take}
use Rattle.model.specs.Sets.{member, size}
use Rattle.model.specs.Tables.{Table}
use Rattle.basics.proofs.BoundLaws.{not_true, clash, by_cond, lt_or_ge, first_le, first_passes}
use Rattle.model.proofs.SetsMembers.{In, in_bound, in_union, first_states_in, ◌⊆◌, ⊆-of-eq, in_subset}
use Rattle.model.proofs.SetsCounted.{size_bound, size_le}
use Rattle.model.specs.WellFormed.{WellFormed}
use Rattle.core_reach.specs.Reached.{reach_step, reachable, ReachableIs}
use Rattle.core_reach.proofs.ReachWalks.{reaching, in_step, iterate-within}
use Rattle.call_replay.specs.Logs.{entry_count, entry, may_hold, followed, seen, percent_of, remainder_of, reachable_count, walk_through}
use Rattle.call_replay.specs.ReplayPromises.{entries, obeys, FollowedIs, SeenIs, CoverageIs, WalkIs}
use Rattle.call_replay.proofs.LogEntries.{breaks, followed_in, followed-states, Closed, followed-closed, seen_in, in_seen}
use Rattle.call_replay.proofs.LogFronts.{entries-long, obeys-held, held-obeys, front_length, front_may}

-- ---- coverage

divided : (states reached : ℕ) → states ≤ reached → CoverageIs states reached (percent_of states reached) (remainder_of states reached)
unfolding percent_of remainder_of
divided states reached h =
    record {
      within = h;
      none = λ z. let q = eq-eqb reached 0 z in (rw q, rw q);
      exact = λ some.
          let q = ne_eqb reached 0 (λ z. omega arith) in
          (rw q (sym (div-add-mod' (100 * states) reached)), rw q (mod-lt (100 * states) some));
      most =
          by_cond (λ (p : ℕ). p ≤ 100) (eqb reached 0) 0 (100 * states / reached) (λ q. omega arith)
          (λ q.
          let some : 0 < reached = omega (arith, eqb-false reached 0 q) in
          let few : 100 * states / reached < 101 = (div-lt_iff_lt-mul {k = reached} {x = 100 * states} {y = 101} some).1 (omega arith) in
          omega arith);
    }

-- ---- what is followed

module _ (t : Table) (ok : WellFormed t) (log : List ℕ) where
  reachable-is : ReachableIs t t.initial
  reachable-is = reaching.reachable-is t t.initial ok (in_subset ok.initial)

  reachable-closed : Closed t (reachable t t.initial)
  unfolding reach_step reachable
  reachable-closed =
      let solves = ⊆-of-eq (sym reachable-is.least.solves) in
      record {
        initial = λ s h. solves s (in_union (inl h));
        steps = λ s u h r. solves u (in_step t t.initial (iterate-within t t.initial ok ok.initial t.n s h) h r);
      }

  reachable-few : reachable_count t ≤ t.n
  unfolding reachable
  reachable-few = size_bound (iterate-within t t.initial ok ok.initial t.n)

  pub within : followed t log ≤ length (entries log)
  unfolding followed
  within = omega (arith, entries-long log, first_le (breaks t log) (entry_count log))

  -- where an entry is left, it breaks the walk
  broken : followed t log < entry_count log → member (may_hold t log (followed t log)) (entry log (followed t log)) ≡ false
  unfolding followed
  broken l = not_true _ (first_passes (breaks t log) (entry_count log) l)

  longest : (j : ℕ) → j ≤ length (entries log) → obeys t (take j (entries log)) ≡ true → j ≤ followed t log
  longest j l e =
      ⊎_elim
      (λ more.
      absurd (clash
      (sym (front_may log j l t (followed t log) more)
      ∙ held-obeys t (take j (entries log)) e (followed t log) (subst (λ (m : ℕ). followed t log < m) (sym (front_length log j l)) more))
      (broken (omega (arith, entries-long log)))))
      (λ few. few)
      (lt_or_ge (followed t log) j)

  followed-is : FollowedIs t log (followed t log)
  followed-is =
      record {
        within = within;
        obeying =
            obeys-held t _
            (λ i h.
            let l : i < followed t log = subst (λ (m : ℕ). i < m) (front_length log (followed t log) within) h in
            front_may log (followed t log) within t i l ∙ (followed_in t log i l).is);
        longest = longest;
        states = λ i h. first_states_in (followed-states t log ok i h);
        reached = λ i h. (followed-closed log reachable-closed i h).is;
      }

  seen-is : SeenIs log (followed t log) (size (seen log (followed t log)))
  seen-is =
      record {
        counted = refl;
        members = λ s. (
          λ e. seen_in log (followed t log) (record { is = e }),
          λ w.
              let i = w.0 in
              subst (λ (r : ℕ). member (seen log (followed t log)) r ≡ true) w.2
              (in_seen log (followed t log) i w.1 (in_bound (followed-states t log ok i w.1))).is,
        );
      }

  seen-reachable : seen log (followed t log) ⊆ reachable t t.initial
  seen-reachable s h =
      let w = seen_in log (followed t log) h in
      subst (In (reachable t t.initial)) w.2 (followed-closed log reachable-closed w.0 w.1)

  pub walk_is : WalkIs t log (walk_through t log)
  unfolding walk_through
  walk_is =
      record {
        followed = followed-is;
        seen = seen-is;
        coverage = divided (size (seen log (followed t log))) (reachable_count t) (size_le seen-reachable);
        reachable-is = reachable-is;
        reachable-few = reachable-few;
      }
