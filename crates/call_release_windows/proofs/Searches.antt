-- Laws of the searches: `some` through a list, and `first` below a bound.
--
--   some_mem, mem_some                 some passes exactly when a member does; some-none: else each fails; mem_at: an element is a member
--   some_next                          the next element passes, or one after it
--   Sought, sought_turn, sought_end    a loop that looks for one that passes, and looks at all of them
--   first_or                           the first that passes one test or the other
use Prim.Native.Nat.{ℕ, zero, suc, ◌+◌, ◌≤◌, ◌<◌}
use native.Mathlib.Nat.{le_of_suc-le-suc, not-suc-le-zero}
use native.Mathlib.Numerals.{add-one}
use native.Mathlib.Omega.{arith}
use mathlib.Core.Path.{◌≡◌, refl, sym, ap, ◌∙◌}
use mathlib.Core.Logic.{inl, inr, ⊎_elim}
use mathlib.Core.Bool.{Bool, true, false, ◌||◌, cond, or_assoc, or-false, false≢true}
use mathlib.Core.List.Memᴰ
use mathlib.Core.List.{List, [], ◌∷◌, Memᴰ}
use lib.ListN.{length, get_or, drop, drop_of_length-le}
use lib.Seq.{drop-cons}
use Rattle.basics.specs.Bounds.{first}
use Rattle.basics.proofs.BoundLaws.{or_true, or_intro, is_false, clash}
use Rattle.call_release_windows.specs.Windows.{some}

-- ---- through a list

pub mem_at : (xs : List ℕ) (i : ℕ) → i < length xs → Memᴰ (get_or xs i 0) xs
mem_at [] i h = absurd (not-suc-le-zero h)
mem_at (x ∷ xs) zero h = Memᴰ.head refl
mem_at (x ∷ xs) (suc i) h = Memᴰ.tail (mem_at xs i (le_of_suc-le-suc h))

module _ (p : ℕ → Bool) where
  pub some_mem : (xs : List ℕ) → some p xs ≡ true → (x : ℕ) × Memᴰ x xs × (p x ≡ true)
  unfolding some
  some_mem [] e = absurd (false≢true e)
  some_mem (y ∷ ys) e =
      ⊎_elim (λ h. (y, Memᴰ.head refl, h)) (λ h. let it = some_mem ys h in (it.0, Memᴰ.tail it.1, it.2))
      (or_true (p y) (some p ys) e)

  pub mem_some : (xs : List ℕ) (x : ℕ) → Memᴰ x xs → p x ≡ true → some p xs ≡ true
  unfolding some
  mem_some [] x m e = absurd (Memᴰ.not-nil m)
  mem_some (y ∷ ys) x m e =
      or_intro (p y) (some p ys) (⊎_elim (λ q. inl (ap p (sym q) ∙ e)) (λ n. inr (mem_some ys x n e)) (Memᴰ.cases_cons m))

  pub some-none : (xs : List ℕ) (x : ℕ) → some p xs ≡ false → Memᴰ x xs → p x ≡ false
  some-none xs x e m = is_false (p x) (λ h. clash (mem_some xs x m h) e)

  pub some_next : (xs : List ℕ) {i : ℕ} → i < length xs → some p (drop i xs) ≡ (p (get_or xs i 0) || some p (drop (i + 1) xs))
  unfolding some
  some_next xs {i} h = rw (add-one, drop-cons xs i 0)

-- One passes if it was found before place i, or is among those left.
pub record Sought (p : ℕ → Bool) (xs : List ℕ) (found : Bool) (i : ℕ) : Type 0 where
  pub within : i ≤ length xs
  pub rest : (found || some p (drop i xs)) ≡ some p xs

module _ {p : ℕ → Bool} {xs : List ℕ} {found : Bool} {i : ℕ} (so : Sought p xs found i) where
  pub sought_turn : {b : Bool} → i < length xs → b ≡ p (get_or xs i 0) → Sought p xs (found || b) (i + 1)
  sought_turn {b} h e = record { within = omega (arith, h); rest = or_assoc found b _ ∙ rw (e, ← some_next p xs h) so.rest }

  pub sought_end : length xs ≤ i → found ≡ some p xs
  unfolding some
  sought_end h = sym (or-false found) ∙ rw (drop_of_length-le xs h) at so.rest

-- ---- below a bound

pub first_or : (p q : ℕ → Bool) (n : ℕ) → first n (λ k. p k || q k) ≡ first (first n p) q
unfolding first
first_or p q zero = refl
first_or p q (suc n) = step (p zero) q _ (first_or (λ k. p (suc k)) (λ k. q (suc k)) n)
  where
    step : (b : Bool) (q : ℕ → Bool) (m : ℕ) {r : ℕ} → r ≡ first m (λ k. q (suc k)) → cond (b || q zero) zero (suc r) ≡ first (cond b zero (suc m)) q
    step true q m e = refl
    step false q m e = ap (λ (r : ℕ). cond (q zero) zero (suc r)) e
