-- The load that a seed gives, and what the call generate returns and leaves in the store (the specification, "A load that can be repeated").
--
--   max_fan_out            the greatest fan-out
--   short_lag, long_lag, increment     what the numbers are made with
--   next_number seed xs   the number that follows the numbers xs
--   numbers seed k       the first k numbers (the additive generator with lags 24 and 55 in Knuth, volume 2)
--   remainders xs n      the numbers xs, each modulo n, as a set of states
--   successors xs n f s  the remainders of the f numbers that state s takes of xs
--   load seed n f        the table, which has no resting states
--   generate_grounds, generate_answer, generate_buffer     the grounds in order, the answer, the store at exit
use Rattle.std.specs.Prelude.{ℕ, zero, suc, ◌+◌, ◌-◌, ◌*◌, ◌%◌, ◌^◌, cond, ◌||◌, List, [], ◌∷◌, ◌++◌, length, take, drop, ◌==◌, nat_eq, nat_lt, slice_index}
use Rattle.basics.specs.Bounds.{any}
use Rattle.model.specs.Sets.{max_states, Set, set_of, empty, single}
use Rattle.model.specs.Tables.{Dialogue}
use Rattle.basics.specs.Refusals.{Ground, Answered, answer, unless_refused}
use Rattle.model.specs.Stores.{layout, store_ground}
use Rattle.model.specs.Calls.{overwrite}

abbrev pub max_fan_out : ℕ
max_fan_out = 16

-- ---- the numbers

abbrev pub short_lag : ℕ
short_lag = 24

-- Also how many numbers there are before the first sum.
abbrev pub long_lag : ℕ
long_lag = 55

abbrev pub increment : ℕ
increment = 2654435769

-- The first is the seed; each of the next 54 is the one before plus the increment; from the 56th on each is the sum of the numbers short_lag and
-- long_lag places back; all modulo 2^32.
unfoldable pub next_number : ℕ → List ℕ → ℕ
next_number seed xs =
    let k = length xs in
    cond (k == 0) seed
    (cond (nat_lt k long_lag) ((slice_index xs (k - 1) + increment) % 2 ^ 32) ((slice_index xs (k - short_lag) + slice_index xs (k - long_lag)) % 2 ^ 32))

unfoldable pub numbers : ℕ → ℕ → List ℕ
numbers seed zero = []
numbers seed (suc k) = let xs = numbers seed k in xs ++ (next_number seed xs ∷ [])

-- ---- the table

unfoldable pub remainders : List ℕ → ℕ → Set
remainders xs n = set_of (λ t. any (length xs) (λ i. nat_eq t (slice_index xs i % n)))

-- Each state in turn takes f numbers, from the 56th on; each modulo n is a successor.
unfoldable pub successors : List ℕ → ℕ → ℕ → ℕ → Set
successors xs n f s = remainders (take f (drop (long_lag + s * f) xs)) n

unfoldable pub load_from : List ℕ → ℕ → ℕ → Dialogue
load_from xs n f =
    record { n = n; initial = single 0; marked = single (n - 1); resting = empty; groups = []; row = successors xs n f }

-- The states take n · f numbers in all.
unfoldable pub load : ℕ → ℕ → ℕ → Dialogue
load seed n f = load_from (numbers seed (long_lag + n * f)) n f

-- ---- the call

-- A draft (n = 0) is no load: 14 covers it here whatever g would be.
unfoldable pub generate_grounds : ℕ → ℕ → ℕ → List Ground
generate_grounds n f room = store_ground room ∷ (n == 0 || nat_lt max_states n, 14) ∷ (nat_lt max_fan_out f, 22) ∷ []

-- There is nothing to answer but that the store is filled.
unfoldable pub generate_answer : ℕ → ℕ → ℕ → Answered (Unit {0})
generate_answer n f room = answer (generate_grounds n f room) tt

unfoldable pub generate_buffer : ℕ → ℕ → ℕ → List ℕ → List ℕ
generate_buffer seed n f store = unless_refused store (λ done. overwrite (layout (load seed n f)) store) (generate_answer n f (length store))
