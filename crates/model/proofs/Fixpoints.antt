-- Chains of sets that only grow or only shrink, the solutions of X = f X that they reach, and backward elimination.
--
--   chain-still                      a measure that rises until the chain is still, and is at most n: how soon it is still
--   iterate_suc, iterate_has         one step more; induction: what x has and f keeps
--   iterate-still                    a step that stands still stays still
--   growing_done, shrinking_done     an iteration that only grows, or only shrinks, among n states is still after n steps
--   least_pre, greatest-post         n steps from the empty set stay inside each prefixpoint, n from all n states around each postfixpoint
--   from_below, from_above           they reach the least and the greatest solution; least_unique, greatest_unique: of which there is one
--   eliminated_shrinks, eliminated_mono     W only shrinks; eliminated_proper, eliminated-within: it is a set of states of the table
--   backward-is                             the backward number is what the specification says
use Prim.Native.Nat.{ℕ, zero, suc, ◌+◌, ◌-◌, ◌≤◌, ◌<◌}
use native.Mathlib.Decide.{le_ind}
use native.Mathlib.Omega.{arith}
use mathlib.Core.Path.{◌≡◌, refl, sym, ap, ◌∙◌, subst}
use mathlib.Core.Logic.{◌⊎◌, inl, inr, ⊎_elim}
use mathlib.Core.Bool.{Bool}
use Rattle.model.specs.Sets.{Set, empty, meet, same, states, first_states, size}
use Rattle.model.specs.Tables.{Table, not_forbidden}
use Rattle.model.specs.Rounds.{iterate, elimination_step, eliminated, backward_number}
use Rattle.model.specs.Promises.{IsLeast, IsGreatest, BackwardIs}
use Rattle.basics.proofs.BoundLaws.{first_found, first-before, first_le}
use Rattle.model.proofs.SetsMembers.{Proper, set_of_proper, empty_in, meet_in, ◌⊆◌, subset_in, in_subset, same_set, same_eq, eq_same, ⊆-of-eq, states-within}
use Rattle.model.proofs.SetsCounted.{size_bound, all_or_fewer}

-- ---- chains

-- A measure m that rises at each step until the chain is still, and is at most n: the chain is still once m 0 and the steps taken come
-- to n. So after n steps in any case, and after n − 1 where m starts at 1.
module _ (Still : ℕ → Type 0) (m : ℕ → ℕ) (n : ℕ)
    (stays : (k : ℕ) → Still k → Still (suc k))
    (rises : (k : ℕ) → Still k ⊎ (m k < m (suc k)))
    (bounded : (k : ℕ) → m k ≤ n) where
  chain_rises : (k : ℕ) → Still k ⊎ (m 0 + k < m (suc k))
  chain_rises zero = ⊎_elim (λ s. inl s) (λ l. inr (omega arith)) (rises zero)
  chain_rises (suc k) =
      ⊎_elim (λ s. inl (stays k s)) (λ l. ⊎_elim (λ s. inl s) (λ r. inr (omega arith)) (rises (suc k))) (chain_rises k)

  pub chain-still : (k : ℕ) → n ≤ m 0 + k → Still k
  chain-still k h = ⊎_elim (λ s. s) (λ l. absurd (omega (arith, bounded (suc k)))) (chain_rises k)

-- ---- iteration

pub iterate_suc : (f : Set → Set) (x : Set) (k : ℕ) → iterate f x (suc k) ≡ f (iterate f x k)
unfolding iterate
iterate_suc f x k = refl

pub iterate_has : (P : Set → Type 0) (f : Set → Set) (x : Set) → P x → ((X : Set) → P X → P (f X)) → (k : ℕ) → P (iterate f x k)
unfolding iterate
iterate_has P f x h g zero = h
iterate_has P f x h g (suc k) = g (iterate f x k) (iterate_has P f x h g k)

-- for a loop that stops early
pub iterate-still : (f : Set → Set) (x : Set) (k m : ℕ) → f (iterate f x k) ≡ iterate f x k → k ≤ m → iterate f x m ≡ iterate f x k
unfolding iterate
iterate-still f x k m e = le_ind (λ j. iterate f x j ≡ iterate f x k) refl (λ j l i. ap f i ∙ e) m

module _ (f : Set → Set) (x : Set) (n : ℕ)
    (proper : (k : ℕ) → Proper (iterate f x k))
    (within : (k : ℕ) → iterate f x k ⊆ first_states n) where
  pub growing_done : ((k : ℕ) → iterate f x k ⊆ f (iterate f x k)) → f (iterate f x n) ≡ iterate f x n
  unfolding iterate
  growing_done grows =
      chain-still (λ k. f (iterate f x k) ≡ iterate f x k) (λ k. size (iterate f x k)) n (λ k e. ap f e)
      (λ k. ⊎_elim (λ h. inl (same_set _ _ (proper (suc k)) (proper k) h (grows k))) (λ l. inr l) (all_or_fewer (grows k)))
      (λ k. size_bound (within k)) n (omega arith)

  -- what it has lost rises
  pub shrinking_done : ((k : ℕ) → f (iterate f x k) ⊆ iterate f x k) → f (iterate f x n) ≡ iterate f x n
  unfolding iterate
  shrinking_done shrinks =
      chain-still (λ k. f (iterate f x k) ≡ iterate f x k) (λ k. n - size (iterate f x k)) n (λ k e. ap f e)
      (λ k.
      ⊎_elim (λ h. inl (same_set _ _ (proper (suc k)) (proper k) (shrinks k) h)) (λ l. inr (omega (arith, size_bound (within k))))
      (all_or_fewer (shrinks k)))
      (λ k. omega arith) n (omega arith)

-- ---- least and greatest solutions

module _ (f : Set → Set) (n : ℕ)
    (mono : (X Y : Set) → X ⊆ Y → f X ⊆ f Y)
    (proper : (X : Set) → Proper (f X))
    (within : (X : Set) → f X ⊆ first_states n) where
  pub least_pre : (Y : Set) → f Y ⊆ Y → iterate f empty n ⊆ Y
  least_pre Y p = iterate_has (λ X. X ⊆ Y) f empty (λ s h. absurd (empty_in h)) (λ X i s h. p s (mono X Y i s h)) n

  pub greatest-post : (Y : Set) → Y ⊆ f Y → Y ⊆ iterate f (first_states n) n
  greatest-post Y p = iterate_has (λ X. Y ⊆ X) f (first_states n) (λ s h. within Y s (p s h)) (λ X i s h. mono Y X i s (p s h)) n

  pub from_below : IsLeast f (iterate f empty n)
  unfolding empty
  from_below =
      record {
        solves =
            sym
            (growing_done f empty n
            (iterate_has Proper f empty (set_of_proper _) (λ X h. proper X))
            (iterate_has (λ X. X ⊆ first_states n) f empty (λ s h. absurd (empty_in h)) (λ X h. within X))
            (iterate_has (λ X. X ⊆ f X) f empty (λ s h. absurd (empty_in h)) (λ X h. mono X (f X) h)));
        least = λ Y e. in_subset (least_pre Y (⊆-of-eq (sym e)));
      }

  pub from_above : IsGreatest f (iterate f (first_states n) n)
  unfolding first_states states
  from_above =
      record {
        solves =
            sym
            (shrinking_done f (first_states n) n
            (iterate_has Proper f (first_states n) (set_of_proper _) (λ X h. proper X))
            (iterate_has (λ X. X ⊆ first_states n) f (first_states n) (λ s h. h) (λ X h. within X))
            (iterate_has (λ X. f X ⊆ X) f (first_states n) (within (first_states n)) (λ X h. mono (f X) X h)));
        greatest = λ Y e. in_subset (greatest-post Y (⊆-of-eq e));
      }

-- there is one of each
module _ (f : Set → Set) (proper : (X : Set) → Proper (f X)) where
  solution_proper : {X : Set} → X ≡ f X → Proper X
  solution_proper {X} e = subst Proper (sym e) (proper X)

  pub least_unique : {X Y : Set} → IsLeast f X → IsLeast f Y → X ≡ Y
  least_unique {X} {Y} x y =
      same_set X Y (solution_proper x.solves) (solution_proper y.solves) (subset_in (x.least Y y.solves)) (subset_in (y.least X x.solves))

  pub greatest_unique : {X Y : Set} → IsGreatest f X → IsGreatest f Y → X ≡ Y
  greatest_unique {X} {Y} x y =
      same_set X Y (solution_proper x.solves) (solution_proper y.solves)
      (subset_in (y.greatest X x.solves)) (subset_in (x.greatest Y y.solves))

-- ---- backward elimination

-- the test by which the backward number is found
abbrev unchanged : Table → ℕ → Bool
unchanged t j = same (eliminated t j) (eliminated t (suc j))

module _ (t : Table) where
  pub eliminated_shrinks : (j : ℕ) → eliminated t (suc j) ⊆ eliminated t j
  unfolding eliminated iterate elimination_step
  eliminated_shrinks j s h = (meet_in h).0

  pub eliminated_mono : (i j : ℕ) → i ≤ j → eliminated t j ⊆ eliminated t i
  eliminated_mono i = le_ind (λ j. eliminated t j ⊆ eliminated t i) (λ s h. h) (λ j l f s h. f s (eliminated_shrinks j s h))

  pub eliminated_proper : (j : ℕ) → Proper (eliminated t j)
  unfolding eliminated elimination_step not_forbidden states meet
  eliminated_proper = iterate_has Proper (elimination_step t) _ (set_of_proper _) (λ X h. set_of_proper _)

  pub eliminated-within : (j : ℕ) → eliminated t j ⊆ first_states t.n
  unfolding eliminated elimination_step not_forbidden
  eliminated-within =
      iterate_has (λ X. X ⊆ first_states t.n) (elimination_step t) _ (states-within t.n _) (λ X f s h. f s (meet_in h).0)

  eliminated_done : eliminated t t.n ≡ eliminated t (suc t.n)
  unfolding eliminated iterate
  eliminated_done = sym (shrinking_done (elimination_step t) _ t.n eliminated_proper eliminated-within eliminated_shrinks)

  pub backward-is : BackwardIs t (backward_number t)
  unfolding backward_number eliminated iterate elimination_step
  backward-is =
      record {
        first = refl;
        next = λ j. refl;
        still = same_eq (eliminated_proper (backward_number t)) (eliminated_proper (suc (backward_number t))) (first_found (unchanged t) t.n (eq_same eliminated_done));
        least = λ j e. first-before (unchanged t) t.n j (eq_same e);
        bounded = first_le (unchanged t) t.n;
        no_groups = λ groups. refl;
      }
