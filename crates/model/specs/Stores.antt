-- The lent store, and what every call asks of it (the specification, "The store" and "Refusals").
--
--   max_groups, store_words      the greatest g, and the words that a table takes
--   head_sets                   the sets that stand before the groups: initial, marked and resting
--   group_at j, row_at s         where group j and the successors of state s begin; the initial set begins at 0, the marked states at
--                              marked_at, the resting ones at resting_at
--   set_at store at             the set whose words begin at `at`
--   dialogue_of store n g       the dialogue that a store holds; table_of store n g: its table
--   layout d                   the words of a dialogue, those of unused groups and rows 0
--   beyond n X                 X has a state from n up
--   malformed store n g        ground 17 of a store
--   store_ground room           ground 10; table_grounds store n g: those of a table in a store, 14, 15 and 17
--   shared_grounds store n g    the grounds that every call on a table in a store looks at first, in order
--   AcceptedStore store n g    none of them holds
use Rattle.std.specs.Prelude.{ℕ, ◌+◌, ◌*◌, ◌≡◌, Bool, cond, not, ◌&&◌, ◌||◌, List, [], ◌∷◌, ◌++◌, eqb, leb, ltb, length, get_or, take, drop}
use Rattle.basics.specs.Bounds.{any, tabulate, concat}
use Rattle.basics.specs.Refusals.{Ground, refuse}
use Rattle.model.specs.Sets.{WORDS, max_states, Set, member, empty}
use Rattle.model.specs.Tables.{Table, Dialogue, table_from}

-- The one place that says how many groups a table can have. The greatest n is max_states.
abbrev pub max_groups : ℕ
max_groups = 64

-- Initial, marked and resting, in a store as in a file.
abbrev pub head_sets : ℕ
head_sets = 3

abbrev pub marked_at : ℕ
marked_at = WORDS

abbrev pub resting_at : ℕ
resting_at = 2 * WORDS

abbrev pub group_at : ℕ → ℕ
group_at j = head_sets * WORDS + WORDS * j

abbrev pub row_at : ℕ → ℕ
row_at s = (head_sets + max_groups) * WORDS + WORDS * s

abbrev pub store_words : ℕ
store_words = (head_sets + max_groups + max_states) * WORDS

unfoldable pub set_at : List ℕ → ℕ → Set
set_at store at = take WORDS (drop at store)

unfoldable pub dialogue_of : List ℕ → ℕ → ℕ → Dialogue
dialogue_of store n g =
    record {
      n = n;
      initial = set_at store 0;
      marked = set_at store marked_at;
      resting = set_at store resting_at;
      groups = tabulate g (λ j. set_at store (group_at j));
      row = λ s. cond (ltb s n) (set_at store (row_at s)) empty;
    }

unfoldable pub table_of : List ℕ → ℕ → ℕ → Table
unfolding table_from dialogue_of
table_of store n g = table_from (dialogue_of store n g)

unfoldable pub layout : Dialogue → List ℕ
layout d =
    d.initial
    ++ (d.marked
    ++ (d.resting
    ++ (concat max_groups (λ j. get_or d.groups j empty)
    ++ concat max_states (λ s. cond (ltb s d.n) (d.row s) empty))))

-- ---- refusals

unfoldable pub beyond : ℕ → Set → Bool
beyond n X = any max_states (λ s. leb n s && member X s)

-- Some word from `from` on and before `to` is not 0.
unfoldable pub non_zero : List ℕ → ℕ → ℕ → Bool
non_zero xs from to = any to (λ i. leb from i && not (eqb (get_or xs i 0) 0))

-- A 1 bit for a state from n up, or a word of an unused group or row not 0.
unfoldable pub malformed : List ℕ → ℕ → ℕ → Bool
malformed store n g =
    beyond n (set_at store 0)
    || beyond n (set_at store marked_at)
    || beyond n (set_at store resting_at)
    || any g (λ j. beyond n (set_at store (group_at j)))
    || any n (λ s. beyond n (set_at store (row_at s)))
    || non_zero store (group_at g) (group_at max_groups)
    || non_zero store (row_at n) store_words

-- n is over the greatest, or 0 in a table that has groups. A table without states, an untouched draft, has none.
unfoldable pub bad_states : ℕ → ℕ → Bool
bad_states n g = (eqb n 0 && not (eqb g 0)) || ltb max_states n

-- For a store of `room` words.
abbrev pub store_ground : ℕ → Ground
store_ground room = (ltb room store_words, 10)

abbrev pub table_grounds : List ℕ → ℕ → ℕ → List Ground
table_grounds store n g = (bad_states n g, 14) ∷ (ltb max_groups g, 15) ∷ (malformed store n g, 17) ∷ []

abbrev pub shared_grounds : List ℕ → ℕ → ℕ → List Ground
shared_grounds store n g = store_ground (length store) ∷ table_grounds store n g

abbrev pub AcceptedStore : List ℕ → ℕ → ℕ → Type 0
AcceptedStore store n g = refuse (shared_grounds store n g) ≡ 0
