-- The parts of a store, and hangs by rows.
--
--   part-set                    a set of a part is a set of the whole
--   row_of, rows_of_lem, forbidden_of, groups_of_lem, table_on_lem     the rows, forbidden states, groups and table of a store, by its parts
--   HasRows, on_rows, store_rows     the rows of a table are those lent
--   rows_long, groups-long      the parts of a store that is long enough are long enough
--   dead_is                     no successor, as the code tests it
--   hangs-is                    the hangs, as the code gathers them
use Prim.Native.Nat.{ℕ, ◌+◌, ◌*◌, ◌-◌, ◌≤◌, ◌<◌}
use native.Mathlib.Nat.{le_of_eq}
use native.Mathlib.Omega.{arith}
use mathlib.Core.Path.{◌≡◌, sym, ap, ◌∙◌, fun_ext}
use mathlib.Core.Bool.{cond}
use mathlib.Core.List.{List}
use borrow.Author.Tests.{lt-ltb}
use lib.Dec.{ltb}
use lib.ListN.{length, take, drop, length-drop}
use lib.Seq.{take_all, drop-drop}
use Rattle.model.specs.Sets.{WORDS, Set, member, empty, union, difference, subset, states, first_states}
use Rattle.model.specs.Tables.{Table, is_dead_end, hangs}
use Rattle.model.specs.Stores.{store_words, marked_at, resting_at, group_at, row_at, set_at, table_of}
use Rattle.basics.proofs.BoundLaws.{and_true, and_intro, is_false, clash, same_test, tabulate_cong}
use Rattle.model.proofs.SetsMembers.{Proper, set_of_proper, in_bound, in_set_of, set_of_in, empty_in, in_difference, difference_in, in_first_states, first_states_in, subset_in, in_subset, same_set}
use Rattle.model.proofs.StoresTables.{row_is}
use Rattle.model.proofs.HangLaws.{dead_none, none_dead, in_hangs, hangs_in}
use Rattle.core_rows.specs.Rows.{rows_words, groups_words, part_from, rows_of, groups_of, row_in, rows_in, forbidden_by, groups_in, table_on, meet_hold}

part-is : (xs : List ℕ) (at : ℕ) → part_from at xs ≡ drop at xs
part-is xs at = take_all (length xs - at) (drop at xs) (le_of_eq (length-drop at xs))

pub part-set : (xs : List ℕ) (start at : ℕ) → set_at (part_from start xs) at ≡ set_at xs (start + at)
unfolding set_at
part-set xs start at = ap (λ (ys : List ℕ). take WORDS (drop at ys)) (part-is xs start) ∙ ap (take WORDS) (drop-drop at start xs)

part-long : (xs : List ℕ) (at count : ℕ) → at + count ≤ length xs → count ≤ length (part_from at xs)
part-long xs at count h = omega (arith, ap length (part-is xs at), length-drop at xs)

module _ (store : List ℕ) where
  pub row_of : (s : ℕ) → row_in (rows_of store) s ≡ set_at store (row_at s)
  row_of s = part-set store (row_at 0) (WORDS * s) ∙ ap (set_at store) (omega arith)

  pub rows_long : store_words ≤ length store → rows_words ≤ length (rows_of store)
  rows_long h = part-long store (row_at 0) rows_words (omega arith)

  pub groups-long : store_words ≤ length store → groups_words ≤ length (groups_of store)
  groups-long h = part-long store (group_at 0) groups_words (omega arith)

  module _ (n g : ℕ) where
    pub rows_of_lem : rows_in (rows_of store) n ≡ (table_of store n g).row
    unfolding rows_in table_of
    rows_of_lem = fun_ext (λ s. ap (λ (X : Set). cond (ltb s n) X empty) (row_of s))

    pub groups_of_lem : groups_in (groups_of store) g ≡ (table_of store n g).groups
    unfolding groups_in table_of
    groups_of_lem = tabulate_cong _ _ g (λ j h. part-set store (group_at 0) (WORDS * j) ∙ ap (set_at store) (omega arith))

    pub table_on_lem : table_on n (set_at store 0) (table_of store n g).forbidden (groups_in (groups_of store) g) (rows_of store) ≡ table_of store n g
    unfolding table_on table_of
    table_on_lem = λ i.
        record {
          n = n;
          initial = set_at store 0;
          forbidden = (table_of store n g).forbidden;
          groups = groups_of_lem i;
          row = rows_of_lem i;
        }

  pub forbidden_of : (n : ℕ) → forbidden_by store n (rows_of store) ≡ (table_of store n 0).forbidden
  unfolding table_of
  forbidden_of n = ap (λ (row : ℕ → Set). union (set_at store marked_at) (hangs n row (set_at store resting_at))) (rows_of_lem n 0)

-- ---- the rows of a table are those lent

abbrev pub HasRows : Table → List ℕ → Type 0
HasRows t rows = (s : ℕ) → s < t.n → t.row s ≡ row_in rows s

pub on_rows : (n : ℕ) (initial forbidden : Set) (groups : List Set) (rows : List ℕ) → HasRows (table_on n initial forbidden groups rows) rows
unfolding table_on rows_in
on_rows n initial forbidden groups rows s l = rw (lt-ltb s n l)

pub store_rows : (store : List ℕ) (n g : ℕ) → HasRows (table_of store n g) (rows_of store)
unfolding table_of
store_rows store n g s l = row_is store n g s l ∙ sym (row_of store s)

-- ---- hangs

pub dead_is : (row : ℕ → Set) (s : ℕ) → subset (row s) empty ≡ is_dead_end row s
dead_is row s =
    same_test (subset (row s) empty) (is_dead_end row s)
    (λ e. none_dead row s (λ u. is_false (member (row s) u) (λ h. empty_in (subset_in e u (record { is = h })))))
    (λ e. in_subset (λ u h. absurd (clash h.is (dead_none row s e u))))

hangs_proper : (n : ℕ) (row : ℕ → Set) (resting : Set) → Proper (hangs n row resting)
unfolding hangs states
hangs_proper n row resting = set_of_proper _

module _ (rows : List ℕ) (n : ℕ) where
  -- only the rows of the table's states play a part
  pub row_in_lem : (s : ℕ) → s < n → rows_in rows n s ≡ row_in rows s
  unfolding rows_in
  row_in_lem s l = rw (lt-ltb s n l)

  dead_row : (s : ℕ) → s < n → subset (row_in rows s) empty ≡ is_dead_end (rows_in rows n) s
  dead_row s l = ap (λ (X : Set). subset X empty) (sym (row_in_lem s l)) ∙ dead_is (rows_in rows n) s

  pub hangs-is : (resting : Set) → meet_hold rows (difference (first_states n) resting) empty ≡ hangs n (rows_in rows n) resting
  unfolding meet_hold
  hangs-is resting =
      same_set _ (hangs n (rows_in rows n) resting) (set_of_proper _) (hangs_proper n (rows_in rows n) resting)
      (λ s h.
      let both = and_true (member (difference (first_states n) resting) s) _ (set_of_in _ h) in
      let left = difference_in {X = first_states n} {Y = resting} (record { is = both.0 }) in
      let l = first_states_in left.0 in
      in_hangs n (rows_in rows n) resting (in_bound h) l (sym (dead_row s l) ∙ both.1) (is_false (member resting s) (λ r. left.1 (record { is = r }))))
      (λ s h.
      let w = hangs_in n (rows_in rows n) resting h in
      in_set_of _ (in_bound h)
      (and_intro (member (difference (first_states n) resting) s) _
      (in_difference (in_first_states (in_bound h) w.0) (λ r. clash r.is w.2)).is (dead_row s w.0 ∙ w.1)))
