-- Laws of counting: the length of a list of picked numbers, and the number of states in a set.
--
--   filter_le, filter_lt           where what passes p passes q, p picks at most as many as q; fewer, if a number passes q alone
--   filter_bound                   where only numbers below n pass, at most n are picked
--   filter_none                    where none passes, none is picked
--   size_lt                        a set strictly inside another has fewer states; size_le: one inside another has no more
--   size-empty                     the empty set has none
--   all_or_fewer                   a set inside another is all of it, or has fewer members
--   size_bound, size_pos           a set of n states has at most n members; one with a member has at least one; size-most: any set
use Prim.Native.Nat.{ℕ, zero, suc, ◌+◌, ◌≤◌, ◌<◌}
use native.Mathlib.Nat.{not-suc-le-zero}
use native.Mathlib.Omega.{arith}
use mathlib.Core.Path.{◌≡◌, refl, sym, ap, ◌∙◌}
use mathlib.Core.Logic.{◌⊎◌, inl, inr, ⊎_elim}
use mathlib.Core.Bool.{Bool, true, false, cond}
use mathlib.Core.List.{[], ◌∷◌}
use lib.ListN.{length, length-append}
use Rattle.basics.specs.Bounds.{filter}
use Rattle.model.specs.Sets.{max_states, Set, member, empty, subset, first_states, members, size}
use Rattle.basics.proofs.BoundLaws.{is_false, decided, below_suc}
use Rattle.model.proofs.SetsMembers.{In, in_bound, empty_in, states_in_lem, ◌⊆◌, subset_in, subset_not}

-- ---- picked numbers

-- what a test adds to a count
abbrev digit : Bool → ℕ
digit true = 1
digit false = 0

digit_le : (a b : Bool) → (a ≡ true → b ≡ true) → digit a ≤ digit b
digit_le true b f = rw (f refl) (omega arith)
digit_le false b f = omega arith

-- one place more adds one number, if it passes
length-filter : (p : ℕ → Bool) (n : ℕ) → length (filter (suc n) p) ≡ length (filter n p) + digit (p n)
unfolding filter
length-filter p n = length-append (filter n p) _ ∙ ap (λ (m : ℕ). length (filter n p) + m) (go (p n))
  where
    go : (b : Bool) → length (cond b (n ∷ []) []) ≡ digit b
    go true = refl
    go false = refl

module _ (p q : ℕ → Bool) (f : (k : ℕ) → p k ≡ true → q k ≡ true) where
  pub filter_le : (n : ℕ) → length (filter n p) ≤ length (filter n q)
  unfolding filter
  filter_le zero = omega arith
  filter_le (suc n) = omega (arith, filter_le n, digit_le (p n) (q n) (f n), length-filter p n, length-filter q n)

  pub filter_lt : (n k : ℕ) → k < n → q k ≡ true → p k ≡ false → length (filter n p) < length (filter n q)
  filter_lt zero k h i o = absurd (not-suc-le-zero h)
  filter_lt (suc n) k h i o =
      ⊎_elim
      (λ e. omega (arith, filter_le n, ap digit (sym (ap p e) ∙ o), ap digit (sym (ap q e) ∙ i), length-filter p n, length-filter q n))
      (λ l. omega (arith, filter_lt n k l i o, digit_le (p n) (q n) (f n), length-filter p n, length-filter q n))
      (below_suc h)

-- of the numbers below m at most m pass, and at most n if all that pass are below n
pub filter_bound : (p : ℕ → Bool) (n : ℕ) → ((k : ℕ) → p k ≡ true → k < n)
    → (m : ℕ) → (length (filter m p) ≤ m) × (length (filter m p) ≤ n)
unfolding filter
filter_bound p n f zero = omega arith
filter_bound p n f (suc m) =
    ⊎_elim
    (λ e. omega (arith, f m e, ap digit e, filter_bound p n f m, length-filter p m))
    (λ e. omega (arith, ap digit e, filter_bound p n f m, length-filter p m))
    (decided (p m))

pub filter_none : (p : ℕ → Bool) (n : ℕ) → ((k : ℕ) → k < n → p k ≡ false) → filter n p ≡ []
unfolding filter
filter_none p zero f = refl
filter_none p (suc n) f = rw (filter_none p n (λ k h. f k (omega arith)), f n (omega arith))

-- ---- the size of a set

pub size_lt : {X Y : Set} {s : ℕ} → X ⊆ Y → In Y s → (In X s → ⊥) → size X < size Y
unfolding size members
size_lt {X} {Y} {s} f h g =
    filter_lt (member X) (member Y) (λ k e. (f k (record { is = e })).is) max_states s (in_bound h) h.is
    (is_false (member X s) (λ e. g (record { is = e })))

pub all_or_fewer : {X Y : Set} → X ⊆ Y → (Y ⊆ X) ⊎ (size X < size Y)
all_or_fewer {X} {Y} f =
    ⊎_elim (λ e. inl (subset_in e)) (λ e. let w = subset_not Y X e in inr (size_lt f w.1 w.2)) (decided (subset Y X))

pub size_bound : {X : Set} {n : ℕ} → X ⊆ first_states n → size X ≤ n
unfolding size members first_states
size_bound {X} {n} f = (filter_bound (member X) n (λ k e. (states_in_lem n _ (f k (record { is = e }))).0) max_states).1

pub size_pos : {X : Set} {s : ℕ} → In X s → 0 < size X
size_pos {X} {s} h = let l : size empty < size X = size_lt (λ k e. absurd (empty_in e)) h (λ e. empty_in e) in omega arith

pub size-most : (X : Set) → size X ≤ max_states
unfolding size members
size-most X = (filter_bound (member X) max_states (λ k e. in_bound (record { is = e })) max_states).0

pub size_le : {X Y : Set} → X ⊆ Y → size X ≤ size Y
unfolding size members
size_le {X} {Y} f = filter_le (member X) (member Y) (λ s e. (f s (record { is = e })).is) max_states

pub size-empty : size empty ≡ 0
unfolding size members
size-empty = ap length (filter_none (member empty) max_states (λ s l. is_false (member empty s) (λ e. empty_in (record { is = e }))))
