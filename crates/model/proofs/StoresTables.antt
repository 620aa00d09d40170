-- Laws of the store: a set among its words, a table in a store, and ground 17.
--
--   worked_store                              a small table's store, word by word; it stands first, so that a store laid out another way falls on it
--   length-set_at, get_or-set_at, set_at_proper    a set among the words of a store; set_at-overwrite: of a store written over
--   set_at-empty, empty-set_at                  words that are 0 are the empty set, and back
--   Holds store t                             the sets of t stand at their places in the store, with 0 for unused groups and rows
--   holds-layout                              the front of such a store is the layout of t
--   Laid t, length-layout                     the layout of a table whose sets have WORDS words each
--   layout-holds, overwrite-holds             it holds the table, and so does a store that it is written into
--   Within n X                                X is proper, and its states are below n
--   beyond_below, below_beyond                no state from n up: the test and the fact
--   non_zero_zero, zero_non_zero                only zeros in a stretch: the test and the fact
--   Clean, malformed_clean, clean_malformed           ground 17 does not hold: the test and the facts
--   dialogue_of-row, row_is                    a state has its row in the store
--   holds_dialogue, holds-sets, holds_clean                   the dialogue read from a store that holds t has the sets of t, and the store is clean if they are
use Prim.Native.Nat.{ℕ, ◌+◌, ◌*◌, ◌-◌, ◌/◌, ◌^◌, ◌≤◌, ◌<◌}
use native.Mathlib.Nat.{not-le_of_lt}
use native.Mathlib.Omega.{arith}
use mathlib.Core.Path.{◌≡◌, refl, sym, ap, ap₂, ◌∙◌, subst, fun_ext}
use mathlib.Core.Logic.{⊎_elim}
use mathlib.Core.Bool.{false, not, ◌&&◌, cond}
use mathlib.Core.List.{List, ◌∷◌, ◌++◌}
use borrow.Author.Tests.{ltb-true, ltb-false, lt-ltb, le-ltb, leb-true, le-leb, eqb-true, eqb-false}
use lib.Dec.{eqb, ltb, leb}
use lib.ListN.{length, get_or, take, drop, length-append, length-drop}
use lib.Seq.{ext_get_or, get_or-take, get_or-drop, length-take-le, take-add, drop-drop, take_at}
use Rattle.basics.specs.Bounds.{any, tabulate, concat}
use Rattle.model.specs.Sets.{WORDS, max_states, Set, member, number, set_of, empty}
use Rattle.model.specs.Tables.{Dialogue}
use Rattle.model.specs.Stores.{max_groups, marked_at, resting_at, group_at, row_at, store_words, set_at, dialogue_of, table_of, layout, beyond, non_zero, malformed}
use Rattle.model.specs.Contents.{new_form, sets}
use Rattle.model.specs.Calls.{overwrite}
use Rattle.model.specs.RoundTrip.{Bounded}
use Rattle.model.specs.WorkedStore.{WorkedStore}
use Rattle.basics.proofs.BoundLaws.{and_true, and_intro, not_true, is_false, clash, decided, by_cond, lt_or_ge, any_intro, any_find, any_none, length-tabulate, get_or-tabulate, tabulate_cong, or_false, no_any}
use Rattle.model.proofs.SetsMembers.{Proper, In, in_bound, empty_proper}
use Rattle.model.proofs.ListsInParts.{part_front, part_behind, get_or_past, Wide, length-concat, part-concat, concat_cong, concat_parts}
use Rattle.model.proofs.SetsBytes.{get_or-empty}

-- ---- a store in words

pub worked_store : WorkedStore
unfolding tabulate concat number set_of empty set_at dialogue_of layout
worked_store =
    record {
      laid_out = refl;
      initial = refl;
      marked = refl;
      resting = refl;
      groups = refl;
      rows = refl;
    }

-- ---- a set among the words of a store

module _ (store : List ℕ) (at : ℕ) where
  pub length-set_at : at + WORDS ≤ length store → length (set_at store at) ≡ WORDS
  unfolding set_at
  length-set_at h = length-take-le WORDS (drop at store) (omega (arith, length-drop at store))

  pub get_or-set_at : (w : ℕ) → w < WORDS → get_or (set_at store at) w 0 ≡ get_or store (at + w) 0
  unfolding set_at
  get_or-set_at w h = get_or-take WORDS (drop at store) w 0 h ∙ get_or-drop at store w 0

  pub set_at_proper : at + WORDS ≤ length store → Bounded (2 ^ 64) store → Proper (set_at store at)
  set_at_proper h fits = record { long = length-set_at h; fits = λ w l. rw (get_or-set_at w l) (fits (at + w)) }

pub set_at-overwrite : (xs old : List ℕ) (at : ℕ) → at + WORDS ≤ length xs → set_at (overwrite xs old) at ≡ set_at xs at
unfolding set_at overwrite
set_at-overwrite xs old at h = part_front xs (drop (length xs) old) at WORDS h

pub set_at-empty : (store : List ℕ) (at : ℕ) → at + WORDS ≤ length store → ((w : ℕ) → w < WORDS → get_or store (at + w) 0 ≡ 0) → set_at store at ≡ empty
set_at-empty store at h e =
    ext_get_or 0 (set_at store at) empty (length-set_at store at h ∙ sym empty_proper.long)
    (λ w l.
    let word : w < WORDS = subst (λ (m : ℕ). w < m) (length-set_at store at h) l in
    get_or-set_at store at w word ∙ e w word ∙ sym (get_or-empty w word))

pub empty-set_at : (store : List ℕ) (at i : ℕ) → set_at store at ≡ empty → at ≤ i → i < at + WORDS → get_or store i 0 ≡ 0
empty-set_at store at i e h l =
    let place : at + (i - at) ≡ i = omega arith in
    ap (λ (j : ℕ). get_or store j 0) (sym place)
    ∙ sym (get_or-set_at store at (i - at) (omega arith))
    ∙ ap (λ (X : Set). get_or X (i - at) 0) e
    ∙ get_or-empty (i - at) (omega arith)

-- ---- a store that holds a table, and its layout

pub record Holds (store : List ℕ) (t : Dialogue) : Type 0 where
  pub initial : set_at store 0 ≡ t.initial
  pub marked : set_at store marked_at ≡ t.marked
  pub resting : set_at store resting_at ≡ t.resting
  pub group : (j : ℕ) → j < max_groups → set_at store (group_at j) ≡ get_or t.groups j empty
  pub row : (s : ℕ) → s < max_states → set_at store (row_at s) ≡ cond (ltb s t.n) (t.row s) empty

-- m elements from a on, in two parts
two_parts : (xs : List ℕ) (a b m : ℕ) → take b (drop a xs) ++ take m (drop (a + b) xs) ≡ take (b + m) (drop a xs)
two_parts xs a b m = ap (λ ys. take b (drop a xs) ++ take m ys) (sym (drop-drop b a xs)) ∙ sym (take-add b m (drop a xs))

pub holds-layout : (store : List ℕ) (t : Dialogue) → Holds store t → layout t ≡ take store_words store
unfolding set_at layout
holds-layout store t h =
    ap₂ (λ xs ys. xs ++ ys) (sym h.initial)
    (ap₂ (λ xs ys. xs ++ ys) (sym h.marked)
    (ap₂ (λ xs ys. xs ++ ys) (sym h.resting)
    (ap₂ (λ xs ys. xs ++ ys)
    (concat_cong _ _ max_groups (λ j l. sym (h.group j l)) ∙ concat_parts store (group_at 0) WORDS max_groups)
    (concat_cong _ _ max_states (λ s l. sym (h.row s l)) ∙ concat_parts store (row_at 0) WORDS max_states)
    ∙ two_parts store (group_at 0) (WORDS * max_groups) (WORDS * max_states))
    ∙ two_parts store resting_at WORDS (WORDS * max_groups + WORDS * max_states))
    ∙ two_parts store marked_at WORDS (WORDS + (WORDS * max_groups + WORDS * max_states)))
    ∙ two_parts store 0 WORDS (WORDS + (WORDS + (WORDS * max_groups + WORDS * max_states)))

pub record Laid (t : Dialogue) : Type 0 where
  pub initial : length t.initial ≡ WORDS
  pub marked : length t.marked ≡ WORDS
  pub resting : length t.resting ≡ WORDS
  pub group : (j : ℕ) → length (get_or t.groups j empty) ≡ WORDS
  pub row : (s : ℕ) → length (t.row s) ≡ WORDS

abbrev group_words : Dialogue → List ℕ
group_words t = concat max_groups (λ j. get_or t.groups j empty)

abbrev row_words : Dialogue → List ℕ
row_words t = concat max_states (λ s. cond (ltb s t.n) (t.row s) empty)

module _ (t : Dialogue) (laid : Laid t) where
  groups_wide : Wide max_groups WORDS (λ j. get_or t.groups j empty)
  groups_wide j h = laid.group j

  rows_wide : Wide max_states WORDS (λ s. cond (ltb s t.n) (t.row s) empty)
  rows_wide s h = by_cond (λ (X : Set). length X ≡ WORDS) (ltb s t.n) (t.row s) empty (λ e. laid.row s) (λ e. empty_proper.long)

  groups-long : length (group_words t) ≡ WORDS * max_groups
  groups-long = length-concat _ WORDS max_groups groups_wide

  rows_long : length (row_words t) ≡ WORDS * max_states
  rows_long = length-concat _ WORDS max_states rows_wide

  pub length-layout : length (layout t) ≡ store_words
  unfolding layout
  length-layout =
      omega (
        arith,
        length-append t.initial (t.marked ++ (t.resting ++ (group_words t ++ row_words t))),
        laid.initial,
        length-append t.marked (t.resting ++ (group_words t ++ row_words t)),
        laid.marked,
        length-append t.resting (group_words t ++ row_words t),
        laid.resting,
        length-append (group_words t) (row_words t),
        groups-long,
        rows_long,
      )

  pub layout-holds : Holds (layout t) t
  unfolding set_at layout
  layout-holds =
      let rest = t.resting ++ (group_words t ++ row_words t) in
      let behind : (i m : ℕ) → i ≡ WORDS + (WORDS + (WORDS + m)) → take WORDS (drop i (layout t)) ≡ take WORDS (drop m (group_words t ++ row_words t)) =
      λ i m place.
      ap (λ (k : ℕ). take WORDS (drop k (layout t))) place
      ∙ part_behind t.initial (t.marked ++ rest) WORDS (WORDS + (WORDS + m)) WORDS laid.initial
      ∙ part_behind t.marked rest WORDS (WORDS + m) WORDS laid.marked
      ∙ part_behind t.resting (group_words t ++ row_words t) WORDS m WORDS laid.resting in
      record {
        initial = take_at t.initial (t.marked ++ rest) WORDS laid.initial;
        marked =
            part_behind t.initial (t.marked ++ rest) WORDS 0 WORDS laid.initial
            ∙ take_at t.marked rest WORDS laid.marked;
        resting =
            part_behind t.initial (t.marked ++ rest) WORDS WORDS WORDS laid.initial
            ∙ part_behind t.marked rest WORDS 0 WORDS laid.marked
            ∙ take_at t.resting (group_words t ++ row_words t) WORDS laid.resting;
        group = λ j h.
            behind (group_at j) (WORDS * j) (omega arith)
            ∙ part_front (group_words t) (row_words t) (WORDS * j) WORDS (omega (arith, groups-long))
            ∙ part-concat _ WORDS max_groups j groups_wide h;
        row = λ s h.
            behind (row_at s) (WORDS * max_groups + WORDS * s) (omega arith)
            ∙ part_behind (group_words t) (row_words t) (WORDS * max_groups) (WORDS * s) WORDS groups-long
            ∙ part-concat _ WORDS max_states s rows_wide h;
      }

  pub overwrite-holds : (old : List ℕ) → Holds (overwrite (layout t) old) t
  overwrite-holds old =
      let kept : (at : ℕ) → at + WORDS ≤ store_words → set_at (overwrite (layout t) old) at ≡ set_at (layout t) at =
      λ at h. set_at-overwrite (layout t) old at (omega (arith, length-layout)) in
      record {
        initial = kept 0 (omega arith) ∙ layout-holds.initial;
        marked = kept marked_at (omega arith) ∙ layout-holds.marked;
        resting = kept resting_at (omega arith) ∙ layout-holds.resting;
        group = λ j h. kept (group_at j) (omega arith) ∙ layout-holds.group j h;
        row = λ s h. kept (row_at s) (omega arith) ∙ layout-holds.row s h;
      }

-- ---- ground 17

pub record Within (n : ℕ) (X : Set) : Type 0 where
  pub proper : Proper X
  pub below : (s : ℕ) → In X s → s < n

module _ (n : ℕ) (X : Set) where
  pub beyond_below : beyond n X ≡ false → (s : ℕ) → In X s → s < n
  unfolding beyond
  beyond_below e s h =
      ⊎_elim (λ l. l)
      (λ l. absurd (clash (any_intro (λ r. leb n r && member X r) max_states s (in_bound h) (and_intro (leb n s) (member X s) (le-leb n s l) h.is)) e))
      (lt_or_ge s n)

  pub below_beyond : ((s : ℕ) → In X s → s < n) → beyond n X ≡ false
  unfolding beyond
  below_beyond f =
      is_false (any max_states (λ r. leb n r && member X r))
      (λ e.
      let w = any_find (λ r. leb n r && member X r) max_states e in
      let both = and_true (leb n w.0) (member X w.0) w.2 in
      not-le_of_lt (f w.0 (record { is = both.1 })) (leb-true n w.0 both.0))

module _ (xs : List ℕ) (from to : ℕ) where
  pub non_zero_zero : non_zero xs from to ≡ false → (i : ℕ) → from ≤ i → i < to → get_or xs i 0 ≡ 0
  unfolding non_zero
  non_zero_zero e i h l =
      ⊎_elim (eqb-true (get_or xs i 0) 0)
      (λ q. absurd (clash (any_intro (λ j. leb from j && not (eqb (get_or xs j 0) 0)) to i l (and_intro (leb from i) _ (le-leb from i h) (ap not q))) e))
      (decided (eqb (get_or xs i 0) 0))

  pub zero_non_zero : ((i : ℕ) → from ≤ i → i < to → get_or xs i 0 ≡ 0) → non_zero xs from to ≡ false
  unfolding non_zero
  zero_non_zero f =
      is_false (any to (λ j. leb from j && not (eqb (get_or xs j 0) 0)))
      (λ e.
      let w = any_find (λ j. leb from j && not (eqb (get_or xs j 0) 0)) to e in
      let both = and_true (leb from w.0) (not (eqb (get_or xs w.0 0) 0)) w.2 in
      eqb-false (get_or xs w.0 0) 0 (not_true (eqb (get_or xs w.0 0) 0) both.1) (f w.0 (leb-true from w.0 both.0) w.1))

pub record Clean (store : List ℕ) (n g : ℕ) : Type 0 where
  pub initial : beyond n (set_at store 0) ≡ false
  pub marked : beyond n (set_at store marked_at) ≡ false
  pub resting : beyond n (set_at store resting_at) ≡ false
  pub group : (j : ℕ) → j < g → beyond n (set_at store (group_at j)) ≡ false
  pub row : (s : ℕ) → s < n → beyond n (set_at store (row_at s)) ≡ false
  pub no_group : (i : ℕ) → group_at g ≤ i → i < group_at max_groups → get_or store i 0 ≡ 0
  pub no_row : (i : ℕ) → row_at n ≤ i → i < store_words → get_or store i 0 ≡ 0

pub malformed_clean : (store : List ℕ) (n g : ℕ) → malformed store n g ≡ false → Clean store n g
unfolding malformed
malformed_clean store n g e =
    let rows = or_false _ (non_zero store (row_at n) store_words) e in
    let groups = or_false _ (non_zero store (group_at g) (group_at max_groups)) rows.0 in
    let row = or_false _ (any n (λ s. beyond n (set_at store (row_at s)))) groups.0 in
    let group = or_false _ (any g (λ j. beyond n (set_at store (group_at j)))) row.0 in
    let resting = or_false _ (beyond n (set_at store resting_at)) group.0 in
    let pair = or_false (beyond n (set_at store 0)) (beyond n (set_at store marked_at)) resting.0 in
    record {
      initial = pair.0;
      marked = pair.1;
      resting = resting.1;
      group = any_none (λ j. beyond n (set_at store (group_at j))) g group.1;
      row = any_none (λ s. beyond n (set_at store (row_at s))) n row.1;
      no_group = non_zero_zero store (group_at g) (group_at max_groups) groups.1;
      no_row = non_zero_zero store (row_at n) store_words rows.1;
    }

pub clean_malformed : (store : List ℕ) (n g : ℕ) → Clean store n g → malformed store n g ≡ false
unfolding malformed
clean_malformed store n g c =
    rw (
      c.initial,
      c.marked,
      c.resting,
      no_any (λ j. beyond n (set_at store (group_at j))) g c.group,
      no_any (λ s. beyond n (set_at store (row_at s))) n c.row,
      zero_non_zero store (group_at g) (group_at max_groups) c.no_group,
      zero_non_zero store (row_at n) store_words c.no_row,
    )

-- ---- the dialogue that a store holds

-- a state of the table has its row in the store
pub dialogue_of-row : (store : List ℕ) (n g s : ℕ) → s < n → (dialogue_of store n g).row s ≡ set_at store (row_at s)
unfolding dialogue_of
dialogue_of-row store n g s h = rw (lt-ltb s n h)

pub row_is : (store : List ℕ) (n g s : ℕ) → s < n → (table_of store n g).row s ≡ set_at store (row_at s)
unfolding table_of
row_is = dialogue_of-row

module _ (store : List ℕ) (t : Dialogue) (h : Holds store t) {g : ℕ} (many : length t.groups ≡ g) (groups : g ≤ max_groups) (states : t.n ≤ max_states) where
  row_at_lem : (s : ℕ) → s < t.n → set_at store (row_at s) ≡ t.row s
  row_at_lem s l = h.row s (omega arith) ∙ rw (lt-ltb s t.n l)

  groups_at : tabulate g (λ j. set_at store (group_at j)) ≡ t.groups
  groups_at =
      ext_get_or empty _ t.groups (length-tabulate _ g ∙ sym many)
      (λ j l.
      let few : j < g = subst (λ (m : ℕ). j < m) (length-tabulate (λ i. set_at store (group_at i)) g) l in
      get_or-tabulate _ g j empty few ∙ h.group j (omega arith))

  pub holds-sets : sets new_form (dialogue_of store t.n g) ≡ sets new_form t
  unfolding sets dialogue_of
  holds-sets = λ i. h.initial i ∷ h.marked i ∷ h.resting i ∷ (groups_at i ++ tabulate_cong _ _ t.n (λ s l. dialogue_of-row store t.n g s l ∙ row_at_lem s l) i)

  -- where the rows past the states are empty, it is that dialogue
  pub holds_dialogue : ((s : ℕ) → t.n ≤ s → t.row s ≡ empty) → dialogue_of store t.n g ≡ t
  unfolding dialogue_of
  holds_dialogue none = λ i.
      record { n = t.n; initial = h.initial i; marked = h.marked i; resting = h.resting i; groups = groups_at i; row = fun_ext same_row i }
    where
      same_row : (s : ℕ) → cond (ltb s t.n) (set_at store (row_at s)) empty ≡ t.row s
      same_row s = ⊎_elim (λ q. rw q (row_at_lem s (ltb-true s t.n q))) (λ q. rw q (sym (none s (ltb-false s t.n q)))) (decided (ltb s t.n))

  pub holds_clean : beyond t.n t.initial ≡ false → beyond t.n t.marked ≡ false → beyond t.n t.resting ≡ false
      → ((j : ℕ) → j < g → beyond t.n (get_or t.groups j empty) ≡ false) → ((s : ℕ) → s < t.n → beyond t.n (t.row s) ≡ false)
      → Clean store t.n g
  holds_clean initial marked resting group row =
      let n = t.n in
      record {
        initial = ap (beyond n) h.initial ∙ initial;
        marked = ap (beyond n) h.marked ∙ marked;
        resting = ap (beyond n) h.resting ∙ resting;
        group = λ j l. ap (beyond n) (h.group j (omega arith)) ∙ group j l;
        row = λ s l. ap (beyond n) (row_at_lem s l) ∙ row s l;
        no_group = λ i a b.
            let j = (i - group_at 0) / WORDS in
            empty-set_at store (group_at j) i (h.group j (omega arith) ∙ get_or_past t.groups j empty (omega arith)) (omega arith) (omega arith);
        no_row = λ i a b.
            let s = (i - row_at 0) / WORDS in
            let out : n ≤ s = omega arith in
            empty-set_at store (row_at s) i (h.row s (omega arith) ∙ rw (le-ltb s n out)) (omega arith) (omega arith);
      }
