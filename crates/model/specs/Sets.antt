-- Sets of states (the specification, "Tables and sets").
--
--   WORDS            words in a set
--   max_states        states that a set can hold, 64 for each word: the greatest n
--   Set              a set of states: the list of its words (a bit vector)
--   member X s       state s is in X: the bit of value 2^(s mod 64) in word s/64
--   set_of p          the set of the states that pass p (comprehension)
--   empty, single s, union, meet, difference       {}, {s}, X ∪ Y, X ∩ Y, X \ Y, each a comprehension
--   subset X Y, same X Y, meets X Y                 inclusion; inclusion both ways; a state in common
--   states n p       the states below n that pass p; first_states n: all n states
--   members X        the states of X, rising; size X: how many (that they are the ones in its words is a theorem)
--   smallest X       its least state, or max_states if it has none
--   image n f X      the union of f x over the states x of X below n
use Rattle.std.specs.Prelude.{ℕ, zero, suc, ◌+◌, ◌*◌, ◌/◌, ◌%◌, ◌^◌, Bool, true, false, cond, not, ◌&&◌, ◌||◌, List, eqb, ltb, length, get_or}
use Rattle.basics.specs.Bounds.{any, all, first, filter, tabulate}

-- The one place that says how wide a set is.
abbrev pub WORDS : ℕ
WORDS = 8

abbrev pub max_states : ℕ
max_states = 64 * WORDS

abbrev pub Set : Type 0
Set = List ℕ

-- ---- membership and comprehension

unfoldable pub bit : ℕ → ℕ → Bool
bit x i = eqb (x / 2 ^ i % 2) 1

unfoldable pub member : Set → ℕ → Bool
member X s = ltb s max_states && bit (get_or X (s / 64) 0) (s % 64)

-- The number whose bit i is p (from + i), for i below count.
unfoldable pub number : (ℕ → Bool) → ℕ → ℕ → ℕ
number p from zero = 0
number p from (suc count) = cond (p from) 1 0 + 2 * number p (suc from) count

unfoldable pub set_of : (ℕ → Bool) → Set
set_of p = tabulate WORDS (λ w. number p (64 * w) 64)

-- ---- operations

unfoldable pub empty : Set
empty = set_of (λ s. false)

unfoldable pub single : ℕ → Set
single x = set_of (λ s. eqb s x)

unfoldable pub union : Set → Set → Set
union X Y = set_of (λ s. member X s || member Y s)

unfoldable pub meet : Set → Set → Set
meet X Y = set_of (λ s. member X s && member Y s)

unfoldable pub difference : Set → Set → Set
difference X Y = set_of (λ s. member X s && not (member Y s))

unfoldable pub subset : Set → Set → Bool
subset X Y = all max_states (λ s. not (member X s) || member Y s)

unfoldable pub same : Set → Set → Bool
same X Y = subset X Y && subset Y X

unfoldable pub meets : Set → Set → Bool
meets X Y = any max_states (λ s. member X s && member Y s)

unfoldable pub states : ℕ → (ℕ → Bool) → Set
states n p = set_of (λ s. ltb s n && p s)

unfoldable pub first_states : ℕ → Set
first_states n = states n (λ s. true)

unfoldable pub members : Set → List ℕ
members X = filter max_states (member X)

unfoldable pub size : Set → ℕ
size X = length (members X)

unfoldable pub smallest : Set → ℕ
smallest X = first max_states (member X)

unfoldable pub image : ℕ → (ℕ → Set) → Set → Set
image zero f X = empty
image (suc n) f X = let rest = image n f X in cond (member X n) (union rest (f n)) rest
