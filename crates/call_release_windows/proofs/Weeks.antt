-- Windows from week to week, and why there is an open minute within 65 weeks: one minute of a window in each, on 65 different days, at most
-- 64 of which are closed.
--
--   in_held, held_in     a minute is in a window exactly when the window holds it in some week
--   soon_in              within a week a minute is in the window; weekly: and so is the minute a number of weeks later
--   without              a list without one occurrence of a number
--   spare_day            of more days, seven apart, than are closed, one is not closed (pigeonhole)
--   soon_open            within the span a minute is open
use Prim.Native.Nat.{ℕ, zero, suc, ◌+◌, ◌-◌, ◌*◌, ◌/◌, ◌%◌, ◌≤◌, ◌<◌}
use native.Mathlib.Nat.{not-suc-le-zero}
use native.Mathlib.Omega.{arith}
use mathlib.Core.Path.{◌≡◌, refl, sym, ap, ◌∙◌}
use mathlib.Core.Logic.{inl, inr, ⊎_elim}
use mathlib.Core.Bool.{true, false, cond, false≢true}
use mathlib.Core.List.{List, [], ◌∷◌}
use borrow.Author.Tests.{lt-ltb, ltb-true, eqb-true}
use lib.Dec.{eqb}
use lib.ListN.{length}
use Rattle.basics.proofs.BoundLaws.{or_true, or_intro, is_false, clash, decided, by_cond, first-before}
use Rattle.call_release_windows.specs.Windows.{day, week, start_of, length_of, some, in_window, in_some, is_open}
use Rattle.call_release_windows.specs.WindowAnswers.{span, max_days, waiting}
use Rattle.call_release_windows.specs.WindowPromises.{Held}
use Rattle.call_release_windows.proofs.Waits.{InRange}
use Rattle.call_release_windows.proofs.Jumps.{open_where}

-- ---- one window

module _ {w : ℕ} (so : InRange w) (m : ℕ) where
  pub in_held : in_window m w ≡ true → (k : ℕ) × Held w k m
  unfolding in_window
  in_held e =
      let l = ltb-true ((m + week - start_of w) % week) (length_of w) e in
      ((m + week - start_of w) / week, record { begun = omega (arith, so.start); not_over = omega (arith, so.start, l) })

  pub held_in : (k : ℕ) → Held w k m → in_window m w ≡ true
  unfolding in_window
  held_in k h = lt-ltb ((m + week - start_of w) % week) (length_of w) (omega (arith, so.start, so.a_week, h.begun, h.not_over))

  soon_in : (k : ℕ) × (k < week) × (in_window (m + k) w ≡ true)
  unfolding in_window
  soon_in =
      let k = (start_of w + week - m % week) % week in
      (k, omega arith, lt-ltb ((m + k + week - start_of w) % week) (length_of w) (omega (arith, so.start, so.some_minutes)))

  weekly : (i : ℕ) → in_window m w ≡ true → in_window (m + week * i) w ≡ true
  unfolding in_window
  weekly i e =
      let l = ltb-true ((m + week - start_of w) % week) (length_of w) e in
      lt-ltb ((m + week * i + week - start_of w) % week) (length_of w) (omega (arith, so.start, l))

-- ---- days

without : ℕ → List ℕ → List ℕ
without x [] = []
without x (y ∷ ys) = cond (eqb x y) ys (y ∷ without x ys)

without-length : (x : ℕ) (ys : List ℕ) → some (eqb x) ys ≡ true → suc (length (without x ys)) ≡ length ys
unfolding without some
without-length x [] e = absurd (false≢true e)
without-length x (y ∷ ys) e =
    by_cond (λ (l : List ℕ). suc (length l) ≡ suc (length ys)) (eqb x y) ys (y ∷ without x ys) (λ t. refl)
    (λ t. ap suc (without-length x ys (rw t at e)))

-- every other number is still there
without_other : (x u : ℕ) (ys : List ℕ) → (u ≡ x → ⊥) → some (eqb u) ys ≡ true → some (eqb u) (without x ys) ≡ true
unfolding without some
without_other x u [] f e = e
without_other x u (y ∷ ys) f e =
    by_cond (λ (l : List ℕ). some (eqb u) l ≡ true) (eqb x y) ys (y ∷ without x ys)
    (λ t. ⊎_elim (λ h. absurd (f (eqb-true u y h ∙ sym (eqb-true x y t)))) (λ h. h) (or_true (eqb u y) (some (eqb u) ys) e))
    (λ t.
    or_intro (eqb u y) (some (eqb u) (without x ys))
    (⊎_elim (λ h. inl h) (λ h. inr (without_other x u ys f h)) (or_true (eqb u y) (some (eqb u) ys) e)))

spare_day : (d n : ℕ) (days : List ℕ) → length days < n → (i : ℕ) × (i < n) × (some (eqb (d + 7 * i)) days ≡ false)
spare_day d zero days h = absurd (not-suc-le-zero h)
spare_day d (suc n) days h =
    let last = d + 7 * n in
    ⊎_elim
    (λ e.
    let it = spare_day d n (without last days) (omega (arith, without-length last days e, h)) in
    let i = it.0 in
    (i, omega (arith, it.1), is_false _ (λ t. clash (without_other last (d + 7 * i) days (λ q. omega (arith, q, it.1)) t) it.2)))
    (λ f. (n, omega arith, f))
    (decided (some (eqb last) days))

-- ---- an open minute

pub soon_open : (time : ℕ) (w : ℕ) (others days : List ℕ) → InRange w → length days ≤ max_days → waiting time (w ∷ others) days < span
unfolding waiting in_some some
soon_open time w others days so few =
    let entry = soon_in so time in
    let m = time + entry.0 in
    let spare = spare_day (m / day) (max_days + 1) days (omega (arith, few)) in
    let i = spare.0 in
    let k = entry.0 + week * i in
    let there : m + week * i ≡ time + k = omega arith in
    let date : m / day + 7 * i ≡ (time + k) / day = omega arith in
    let entered : in_window (time + k) w ≡ true = ap (λ (x : ℕ). in_window x w) (sym there) ∙ weekly so m i entry.2 in
    let open-then : is_open (w ∷ others) days (time + k) ≡ true =
    open_where (w ∷ others) days (time + k)
    (ap (λ (d : ℕ). some (eqb d) days) (sym date) ∙ spare.2)
    (or_intro (in_window (time + k) w) (some (in_window (time + k)) others) (inl entered)) in
    omega (arith, first-before (λ j. is_open (w ∷ others) days (time + j)) span k open-then, entry.1, spare.1)
