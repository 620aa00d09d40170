-- When a release may be loaded (the specification, "Release windows"): which minutes are open.
--
--   day, week             the minutes in a day and in a week. Minute 0 begins a Saturday, and weeks begin on Saturday
--   start_of, length_of     a window is one 64-bit number: its start in the low 32 bits, its length in the high
--   outside w             the window is outside its range: a start past the week's last minute, or a length of 0 or over a week
--   some p xs             some number of the list passes p
--   in_window m w          minute m is in window w: its first minute is in, the minute after its last is out. It recurs in every week, the
--                         one before minute 0 included, and may run over a week's end (a theorem: WindowPromises.Held)
--   in_some windows m      it is in one of the windows
--   is_closed days m       its day, counted from minute 0, is one of the closed days
--   is_open                it is in a window, and its day is not closed
use Rattle.std.specs.Prelude.{ℕ, ◌+◌, ◌-◌, ◌/◌, ◌%◌, ◌^◌, Bool, false, not, ◌&&◌, ◌||◌, List, [], ◌∷◌, eqb, ltb}

abbrev pub day : ℕ
day = 1440

abbrev pub week : ℕ
week = 10080

abbrev pub start_of : ℕ → ℕ
start_of w = w % 2 ^ 32

abbrev pub length_of : ℕ → ℕ
length_of w = w / 2 ^ 32

unfoldable pub outside : ℕ → Bool
outside w = ltb (week - 1) (start_of w) || eqb (length_of w) 0 || ltb week (length_of w)

unfoldable pub some : (ℕ → Bool) → List ℕ → Bool
some p [] = false
some p (x ∷ xs) = p x || some p xs

-- A week is added before the start is taken away, since numbers end at 0.
unfoldable pub in_window : ℕ → ℕ → Bool
in_window m w = ltb ((m + week - start_of w) % week) (length_of w)

unfoldable pub in_some : List ℕ → ℕ → Bool
in_some windows m = some (in_window m) windows

unfoldable pub is_closed : List ℕ → ℕ → Bool
is_closed days m = some (eqb (m / day)) days

unfoldable pub is_open : List ℕ → List ℕ → ℕ → Bool
is_open windows days m = not (is_closed days m) && in_some windows m
