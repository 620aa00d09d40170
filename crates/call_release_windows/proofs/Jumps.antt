-- Laws of the search for an open minute by jumps.
--
--   at_most-week          a wait is a week at most
--   NoneOpen              none of the minutes from the time up to m is open; longer: nor any up to a later one
--   over_day, over_wait   no minute is open before the end of a closed day, or before a window opens
--   opened, all_shut      the first open minute is reached, or the whole span is passed, and no minute of it is open
use Prim.Native.Nat.{ℕ, ◌+◌, ◌-◌, ◌*◌, ◌/◌, ◌≤◌, ◌<◌}
use native.Mathlib.Omega.{arith}
use mathlib.Core.Path.{◌≡◌, sym}
use mathlib.Core.Logic.{⊎_elim}
use mathlib.Core.Bool.{Bool, true, false, and-false}
use mathlib.Core.List.{List}
use borrow.Author.Tests.{lt-ltb}
use lib.Dec.{eqb}
use Rattle.basics.specs.Bounds.{first}
use Rattle.basics.proofs.BoundLaws.{lt_or_ge, first_le, first_passes, first-least, first-is, first-none}
use Rattle.call_release_windows.specs.Windows.{day, week, some, in_some, is_closed, is_open}
use Rattle.call_release_windows.specs.WindowAnswers.{span, minute, never, waiting, first_opening}

pub at_most-week : (p : ℕ → Bool) {wait : ℕ} → wait ≡ first week p → wait ≤ week
at_most-week p e = rw e (first_le p week)

pub record NoneOpen (time : ℕ) (windows days : List ℕ) (m : ℕ) : Type 0 where
  pub begun : time ≤ m
  pub shut : (j : ℕ) → time ≤ j → j < m → is_open windows days j ≡ false

module _ (windows days : List ℕ) (m : ℕ) where
  closed_shut : some (eqb (m / day)) days ≡ true → is_open windows days m ≡ false
  unfolding is_open is_closed
  closed_shut e = rw e

  pub outside_shut : in_some windows m ≡ false → is_open windows days m ≡ false
  unfolding is_open
  outside_shut e = rw (e, and-false)

  pub open_where : some (eqb (m / day)) days ≡ false → in_some windows m ≡ true → is_open windows days m ≡ true
  unfolding is_open is_closed
  open_where c e = rw (c, e)

module _ (time : ℕ) (windows days : List ℕ) where
  module _ {m : ℕ} (so : NoneOpen time windows days m) where
    longer : {later : ℕ} → m ≤ later → ((j : ℕ) → m ≤ j → j < later → is_open windows days j ≡ false) → NoneOpen time windows days later
    longer g f =
        record { begun = omega (arith, so.begun, g); shut = λ j b h. ⊎_elim (so.shut j b) (λ l. f j l h) (lt_or_ge j m) }

    -- up to midnight, and no further
    pub over_day : {later : ℕ} → some (eqb (m / day)) days ≡ true → m ≤ later → later ≤ day * (m / day + 1) → NoneOpen time windows days later
    over_day c g midnight =
        longer g
        (λ j l h.
        let same : m / day ≡ j / day = omega (arith, midnight, h, l) in
        closed_shut windows days j (rw same at c))

    pub over_wait : {wait : ℕ} → wait ≡ first week (λ k. in_some windows (m + k)) → NoneOpen time windows days (m + wait)
    over_wait {wait} e =
        longer (omega arith)
        (λ j l h.
        let same : m + (j - m) ≡ j = omega (arith, l) in
        let before : j - m < wait = omega (arith, h, l) in
        outside_shut windows days j (rw same at (first-least (λ k. in_some windows (m + k)) week (j - m) (rw e at before))))

    -- so far is it to minute m, of those that are reached
    reached : time + (m - time) ≡ m
    reached = omega (arith, so.begun)

    waited : {wait : ℕ} → m < time + span → some (eqb (m / day)) days ≡ false → wait ≡ first week (λ k. in_some windows (m + k)) → wait ≡ 0
        → m - time ≡ waiting time windows days
    unfolding waiting
    waited {wait} l c e z =
        let entered : ℕ → Bool = λ k. in_some windows (m + k) in
        let here : m + first week entered ≡ m = omega (arith, e, z) in
        let inside : in_some windows m ≡ true = rw here at (first_passes entered week (omega (arith, e, z))) in
        let open-now : is_open windows days (time + (m - time)) ≡ true = rw reached (open_where windows days m c inside) in
        sym
        (first-is (λ k. is_open windows days (time + k)) span (m - time) (omega (arith, l, so.begun)) open-now
        (λ j h. so.shut (time + j) (omega arith) (omega (arith, h))))

    pub opened : {wait : ℕ} → m < time + span → some (eqb (m / day)) days ≡ false → wait ≡ first week (λ k. in_some windows (m + k)) → wait ≡ 0
        → minute m ≡ first_opening time windows days
    unfolding first_opening
    opened l c e z = rw (← waited l c e z, lt-ltb (m - time) span (omega (arith, l, so.begun)), reached)

    pub all_shut : time + span ≤ m → never ≡ first_opening time windows days
    unfolding first_opening waiting
    all_shut l =
        let none : waiting time windows days ≡ span =
        first-none (λ k. is_open windows days (time + k)) span (λ j h. so.shut (time + j) (omega arith) (omega (arith, l, h))) in
        rw none
