-- What is promised of the call next open minute, of every call and what it gave (`CalledNextOpen`, its contract). The proof is proofs/WindowsKept.antt.
--
--   Held w k m       window w holds minute m in week k (its occurrence in that week), where week 0 is the one before minute 0
--   FirstOpen        a minute is the first open one at or after a time, and less than 65 weeks later
--   WindowPromises   all of it, of every minute and of every call
use Rattle.std.specs.Prelude.{ℕ, ◌+◌, ◌*◌, ◌/◌, ◌^◌, ◌≤◌, ◌<◌, ◌≡◌, ◌↔◌, true, false, Option, Result}
use mathlib.Core.List.{List, [], Memᴰ}
use Rattle.basics.specs.Refusals.{refuse, refused, answered}
use Rattle.core_refusals.specs.declared.Refusal.{Refusal}
use Rattle.call_release_windows.specs.Windows.{day, week, start_of, length_of, outside, some, is_open}
use Rattle.call_release_windows.specs.WindowAnswers.{span, Opening, minute, never, grounds, opening_of, CalledNextOpen}

-- Week k begins at minute week·k − week, so that a week is added on either side.
pub record Held (w k m : ℕ) : Type 0 where
  pub begun : start_of w + week * k ≤ m + week
  pub not_over : m + week < start_of w + week * k + length_of w

pub record FirstOpen (time : ℕ) (windows days : List ℕ) (m : ℕ) : Type 0 where
  pub not_before : time ≤ m
  pub soon : m < time + span
  pub is_open_lem : is_open windows days m ≡ true
  pub first : (j : ℕ) → time ≤ j → j < m → is_open windows days j ≡ false

pub record WindowPromises : Type 0 where
  -- a window's number is made of its start and its length, and neither is cut
  pub window-is : (start length : ℕ) → start < 2 ^ 32
      → (start_of (start + length * 2 ^ 32) ≡ start) × (length_of (start + length * 2 ^ 32) ≡ length)
  -- of windows in their range: a minute is open exactly when a window holds it in some week, and its day is not closed
  pub open_minutes : (windows days : List ℕ) (m : ℕ) → some outside windows ≡ false
      → (is_open windows days m ≡ true)
      ↔ (((w : ℕ) × (k : ℕ) × Memᴰ w windows × Held w k m) × (Memᴰ (m / day) days → ⊥))
  -- of every call that is answered: with at least one window there is an open minute, and the answer is the first, which fits 32 bits
  pub with_window : (time : ℕ) (windows days : List ℕ) (r : Result (Option ℕ) Refusal) (a : Opening)
      → CalledNextOpen time windows days r → opening_of r ≡ answered a → (windows ≡ [] → ⊥)
      → (m : ℕ) × (a ≡ minute m) × FirstOpen time windows days m × (m < 2 ^ 32)
  -- with none it is never, and no minute at all is open
  pub without : (time : ℕ) (days : List ℕ) (r : Result (Option ℕ) Refusal) (a : Opening)
      → CalledNextOpen time [] days r → opening_of r ≡ answered a
      → (a ≡ never) × ((m : ℕ) → is_open [] days m ≡ false)
  -- of every call that is refused: the number is that of the first ground that holds
  pub refusal : (time : ℕ) (windows days : List ℕ) (r : Result (Option ℕ) Refusal) (k : ℕ)
      → CalledNextOpen time windows days r → opening_of r ≡ refused k → k ≡ refuse (grounds time windows days)
