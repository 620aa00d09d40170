-- Laws of windows and of the waits for them: a window is open again within a week, and of several the nearest is.
--
--   InRange, in_range                     a window that is not outside its range
--   wait_none, wait_some, wait_most       the minutes until a window is open, at most so many: in it, out of it, and not open sooner
--   Nearest, nearest_turn, nearest-end    the wait for the windows passed: one more, all
use Prim.Native.Nat.{ℕ, ◌+◌, ◌-◌, ◌%◌, ◌≤◌, ◌<◌}
use native.Mathlib.Omega.{arith}
use mathlib.Core.Path.{◌≡◌, sym, ap, ◌∙◌}
use mathlib.Core.Bool.{Bool, false, ◌||◌}
use mathlib.Core.List.{List}
use borrow.Author.Tests.{lt-ltb, le-ltb, ltb-false, eqb-false}
use lib.Dec.{eqb, ltb}
use lib.ListN.{length, get_or, drop, drop_of_length-le}
use Rattle.basics.specs.Bounds.{first}
use Rattle.basics.proofs.BoundLaws.{or_false, first-is, first-none, first-before, first_cong}
use Rattle.call_release_windows.specs.Windows.{week, start_of, length_of, outside, some, in_window, in_some}
use Rattle.call_release_windows.proofs.Searches.{first_or, some_next}

-- ---- the range

pub record InRange (w : ℕ) : Type 0 where
  pub start : start_of w < week
  pub some_minutes : 0 < length_of w
  pub a_week : length_of w ≤ week

pub in_range : (w : ℕ) → outside w ≡ false → InRange w
unfolding outside
in_range w e =
    let both = or_false (ltb (week - 1) (start_of w) || eqb (length_of w) 0) (ltb week (length_of w)) e in
    let front = or_false (ltb (week - 1) (start_of w)) (eqb (length_of w) 0) both.0 in
    record {
      start = omega (arith, ltb-false (week - 1) (start_of w) front.0);
      some_minutes = omega (arith, eqb-false (length_of w) 0 front.1);
      a_week = ltb-false week (length_of w) both.1;
    }

-- ---- one window

module _ (w m : ℕ) where
  abbrev since : ℕ → ℕ
  since k = (m + k + week - start_of w) % week

  abbrev entered : ℕ → Bool
  entered k = in_window (m + k) w

  pub wait_none : (most : ℕ) → (m + week - start_of w) % week < length_of w → 0 ≡ first most (λ k. in_window (m + k) w)
  unfolding in_window
  wait_none most l = omega (arith, first-before entered most 0 (lt-ltb (since 0) (length_of w) (omega (arith, l))))

  module _ (so : InRange w) (most : ℕ) (l : length_of w ≤ (m + week - start_of w) % week) where
    abbrev wait : ℕ
    wait = week - (m + week - start_of w) % week

    not_yet : (j : ℕ) → j < wait → entered j ≡ false
    unfolding in_window
    not_yet j h = le-ltb (since j) (length_of w) (omega (arith, so.start, l, h))

    pub wait_some : wait < most → wait ≡ first most (λ k. in_window (m + k) w)
    unfolding in_window
    wait_some h =
        sym (first-is entered most wait h (lt-ltb (since wait) (length_of w) (omega (arith, so.start, so.some_minutes, l))) not_yet)

    pub wait_most : most ≤ wait → most ≡ first most (λ k. in_window (m + k) w)
    wait_most h = sym (first-none entered most (λ j b. not_yet j (omega (arith, b, h))))

-- ---- all windows

-- `least` is the wait for one of the windows before place i, or a week: what is left is to look for a nearer one among the others.
pub record Nearest (windows : List ℕ) (m least i : ℕ) : Type 0 where
  pub passed : i ≤ length windows
  pub rest : first least (λ k. in_some (drop i windows) (m + k)) ≡ first week (λ k. in_some windows (m + k))

module _ {windows : List ℕ} {m least i : ℕ} (so : Nearest windows m least i) where
  pub nearest_turn : {nearer : ℕ} → i < length windows → nearer ≡ first least (λ k. in_window (m + k) (get_or windows i 0))
      → Nearest windows m nearer (i + 1)
  unfolding in_some
  nearest_turn h e =
      let entering : ℕ → Bool = λ k. in_window (m + k) (get_or windows i 0) in
      let later : ℕ → Bool = λ k. in_some (drop (i + 1) windows) (m + k) in
      record {
        passed = omega (arith, h);
        rest =
            ap (λ (n : ℕ). first n later) e
            ∙ sym (first_or entering later least)
            ∙ sym (first_cong (λ k. in_some (drop i windows) (m + k)) (λ k. entering k || later k) least (λ k. some_next (in_window (m + k)) windows h))
            ∙ so.rest;
      }

  pub nearest-end : length windows ≤ i → least ≡ first week (λ k. in_some windows (m + k))
  unfolding in_some some
  nearest-end h = sym (first-none _ least (λ k l. ap (some (in_window (m + k))) (drop_of_length-le windows h))) ∙ so.rest
