-- The call next open minute: what it returns, refusals included.
--
--   max_time, max_windows, max_days      the greatest time, and how many windows and closed days there may be
--   span                              within so many minutes there is an open one, where there is a window at all (65 weeks; a theorem)
--   Opening                           what the call answers
--   grounds                           31, 30, 29, in this order
--   waiting                           the minutes from the time to the first open one, or `span` if none of that many is open
--   first_opening                     the first open minute at or after the time, or never
--   next_open_answer                  what the call answers: a refusal, or the first opening
--   minute_of, opening_of             what the code's answer says, of what is not refused and in all
--   CalledNextOpen                    a call and what it gave, as the contract of next_open has it
use Rattle.std.specs.Prelude.{ℕ, ◌+◌, ◌-◌, ◌^◌, ◌≡◌, cond, ◌||◌, List, [], ◌∷◌, Option, Some, None, Result, ltb, length}
use Rattle.basics.specs.Bounds.{first}
use Rattle.basics.specs.Refusals.{Ground, Answered, answer}
use Rattle.core_refusals.specs.declared.Refusal.{Refusal}
use Rattle.core_refusals.specs.Refusals.{answer_of}
use Rattle.call_release_windows.specs.Windows.{outside, some, is_open}

abbrev pub max_time : ℕ
max_time = 2 ^ 31 - 1

abbrev pub max_windows : ℕ
max_windows = 32

abbrev pub max_days : ℕ
max_days = 64

abbrev pub span : ℕ
span = 655200

pub data Opening : Type 0 where
  minute : ℕ → Opening  -- the first open minute
  never : Opening  -- no minute is open

unfoldable pub grounds : ℕ → List ℕ → List ℕ → List Ground
grounds time windows days =
    (ltb max_time time, 31)
    ∷ (ltb max_windows (length windows) || ltb max_days (length days), 30)
    ∷ (some outside windows, 29)
    ∷ []

unfoldable pub waiting : ℕ → List ℕ → List ℕ → ℕ
waiting time windows days = first span (λ k. is_open windows days (time + k))

unfoldable pub first_opening : ℕ → List ℕ → List ℕ → Opening
first_opening time windows days =
    let wait = waiting time windows days in
    cond (ltb wait span) (minute (time + wait)) never

unfoldable pub next_open_answer : ℕ → List ℕ → List ℕ → Answered Opening
next_open_answer time windows days = answer (grounds time windows days) (first_opening time windows days)

-- ---- the code's answer

abbrev pub minute_of : Option ℕ → Opening
minute_of (Some m) = minute m
minute_of None = never

abbrev pub opening_of : Result (Option ℕ) Refusal → Answered Opening
opening_of = answer_of minute_of

abbrev pub CalledNextOpen : ℕ → List ℕ → List ℕ → Result (Option ℕ) Refusal → Type 0
CalledNextOpen time windows days r = opening_of r ≡ next_open_answer time windows days
