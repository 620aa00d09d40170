-- A table by its parts, as the functions below the calls are lent them, and post and hold over rows.
--
--   rows_words, groups_words         the words of rows, one for each state that there can be, and of groups
--   part_from at xs                 the part of xs from `at` on, as a slice is lent: as many as there are from there on
--   rows_of store, groups_of store   the parts of a store where its rows and its groups stand
--   row_in rows s                   row s of a part
--   rows_in rows n                  the rows of n states, empty from n up; groups_in groups g: the g groups
--   forbidden_by store n rows       the states that are marked in a store, or hang by the rows
--   table_on                        the table of n states, initial and forbidden states, groups and rows; `RowsLent.table_on_lem`: a store's table by its parts
--   successors_by rows X            the successors of the states of X
--   meet_hold rows X Y              the states of X whose every successor is in Y: X meet hold(Y)
--   map_at X f z xs                 xs with f applied to each element at a state of X (z stands for an element past the end, and is never read)
use Rattle.std.specs.Prelude.{ℕ, ◌*◌, ◌-◌, cond, ◌&&◌, List, ltb, length, get_or, take, drop}
use Rattle.basics.specs.Bounds.{tabulate}
use Rattle.model.specs.Sets.{WORDS, max_states, Set, member, set_of, empty, union, subset, image}
use Rattle.model.specs.Tables.{Table, hangs}
use Rattle.model.specs.Stores.{max_groups, marked_at, resting_at, group_at, row_at, set_at}

abbrev pub rows_words : ℕ
rows_words = WORDS * max_states

abbrev pub groups_words : ℕ
groups_words = WORDS * max_groups

abbrev pub part_from : ℕ → List ℕ → List ℕ
part_from at xs = take (length xs - at) (drop at xs)

abbrev pub rows_of : List ℕ → List ℕ
rows_of store = part_from (row_at 0) store

abbrev pub groups_of : List ℕ → List ℕ
groups_of store = part_from (group_at 0) store

abbrev pub row_in : List ℕ → ℕ → Set
row_in rows s = set_at rows (WORDS * s)

unfoldable pub rows_in : List ℕ → ℕ → ℕ → Set
rows_in rows n s = cond (ltb s n) (row_in rows s) empty

abbrev pub forbidden_by : List ℕ → ℕ → List ℕ → Set
forbidden_by store n rows = union (set_at store marked_at) (hangs n (rows_in rows n) (set_at store resting_at))

unfoldable pub groups_in : List ℕ → ℕ → List Set
groups_in groups g = tabulate g (λ j. set_at groups (WORDS * j))

unfoldable pub table_on : ℕ → Set → Set → List Set → List ℕ → Table
table_on n initial forbidden groups rows =
    record { n = n; initial = initial; forbidden = forbidden; groups = groups; row = rows_in rows n }

unfoldable pub successors_by : List ℕ → Set → Set
successors_by rows X = image max_states (row_in rows) X

unfoldable pub meet_hold : List ℕ → Set → Set → Set
meet_hold rows X Y = set_of (λ s. member X s && subset (row_in rows s) Y)

unfoldable pub map_at : {A : Type 0} → Set → (A → A) → A → List A → List A
map_at X f z xs = tabulate (length xs) (λ s. let x = get_or xs s z in cond (member X s) (f x) x)
