-- A table as edited: its rows, its step, and that the store still holds a table.
--
--   set_step_word, clear_step_word    the word of a step, with its bit set or cleared
--   Outside s i                       word i is not of row s
--   row_after-long, edited-long        an edit keeps lengths
--   initial-same, row_here, row-there      the initial set and the rows of the store after an edit
--   edited_store                      it holds a table as the one before does; edited-longer: it is long enough
--   step_added                        the table with a step added is the table of the edited store
use Prim.Native.Nat.{ℕ, ◌+◌, ◌-◌, ◌*◌, ◌/◌, ◌%◌, ◌^◌, ◌≤◌, ◌<◌}
use native.Mathlib.Omega.{arith}
use mathlib.Core.Path.{◌≡◌, refl, sym, ap, ◌∙◌, subst}
use mathlib.Core.Logic.{◌⊎◌, inl, inr, ⊎_elim}
use mathlib.Core.Bool.{false}
use mathlib.Core.List.{List}
use borrow.Author.Tests.{eqb-true, eqb-false}
use lib.Bits.{bit_and, bit_or}
use lib.Dec.{eqb}
use lib.ListN.{length, get_or, set}
use Rattle.model.specs.Sets.{WORDS, max_states, Set, single, union, difference}
use Rattle.model.specs.Stores.{store_words, row_at, set_at, table_of, beyond}
use Rattle.model.specs.RoundTrip.{Bounded}
use Rattle.basics.proofs.BoundLaws.{decided, lt_or_ge}
use Rattle.model.proofs.SetsMembers.{Proper, set_of_proper, In, in_first_states, in_single, single_in, in_union, union_in, difference_in, ⊆-of-eq}
use Rattle.model.proofs.StoresTables.{set_at_proper, beyond_below, below_beyond, malformed_clean, clean_malformed, row_is}
use Rattle.model.proofs.StoresAccepted.{Store}
use Rattle.core_table.proofs.StoresPut.{put_long, put_own, put_other, put_apart, put_word}
use Rattle.core_state_set.proofs.SetsWords.{with_bit_lem, without-bit}
use Rattle.call_edit_session.specs.Edits.{Edit, add, remove, source, target, row_after, edited}
use Rattle.call_edit_session.proofs.SessionReached.{StepAdded}

-- ---- the word of a step

module _ (store : List ℕ) (a b : ℕ) (ha : a < max_states) (hb : b < max_states) (h : store_words ≤ length store) where
  abbrev row : Set
  row = set_at store (row_at a)

  module _ (fits : Bounded (2 ^ 64) store) where
    row_proper : Proper row
    row_proper = set_at_proper store (row_at a) (omega arith) fits

    pub set_step_word : set store (row_at a + b / 64) (bit_or (get_or store (row_at a + b / 64) 0) (1 * 2 ^ (b % 64) % 2 ^ 64)) ≡ edited store (add a b)
    unfolding edited row_after
    set_step_word = put_word store (row_at a) (b / 64) (λ x. bit_or x (1 * 2 ^ (b % 64) % 2 ^ 64)) (omega arith) (omega arith) (with_bit_lem row b row_proper (omega arith))

    pub clear_step_word : set store (row_at a + b / 64) (bit_and (get_or store (row_at a + b / 64) 0) ((2 ^ 64 - 1) - 1 * 2 ^ (b % 64) % 2 ^ 64))
        ≡ edited store (remove a b)
    unfolding edited row_after
    clear_step_word =
        put_word store (row_at a) (b / 64) (λ x. bit_and x ((2 ^ 64 - 1) - 1 * 2 ^ (b % 64) % 2 ^ 64)) (omega arith) (omega arith) (without-bit row b row_proper (omega arith))

-- ---- the store after an edit

abbrev pub Outside : ℕ → ℕ → Type 0
Outside s i = (i < row_at s) ⊎ (row_at s + WORDS ≤ i)

pub row_after-long : (X : Set) (e : Edit) → length (row_after X e) ≡ WORDS
unfolding row_after union difference
row_after-long X (add a b) = (set_of_proper _).long
row_after-long X (remove a b) = (set_of_proper _).long

-- what a row has after an edit, it had before or is the target
row_after_in : (X : Set) (e : Edit) {s : ℕ} → In (row_after X e) s → In X s ⊎ (s ≡ target e)
unfolding row_after
row_after_in X (add a b) h = ⊎_elim (λ i. inl i) (λ i. inr (single_in i)) (union_in h)
row_after_in X (remove a b) h = inl (difference_in h).0

module _ (store : List ℕ) (e : Edit) (ha : source e < max_states) (h : store_words ≤ length store) where
  abbrev before : Set
  before = set_at store (row_at (source e))

  abbrev now : Set
  now = row_after before e

  fit : row_at (source e) + length now ≤ length store
  fit = omega (arith, row_after-long before e)

  pub edited-long : length (edited store e) ≡ length store
  unfolding edited
  edited-long = put_long (row_at (source e)) now store fit

  pub edited_out : (i : ℕ) → Outside (source e) i → get_or (edited store e) i 0 ≡ get_or store i 0
  unfolding edited
  edited_out i out = put_other (row_at (source e)) now store fit i (⊎_elim inl (λ l. inr (omega (arith, row_after-long before e))) out)

  set_out : (at : ℕ) → at + WORDS ≤ length store → (at + WORDS ≤ row_at (source e)) ⊎ (row_at (source e) + WORDS ≤ at) → set_at (edited store e) at ≡ set_at store at
  unfolding edited
  set_out at l out = put_apart (row_at (source e)) now store fit at l (⊎_elim inl (λ k. inr (omega (arith, row_after-long before e))) out)

  -- a set that stands before the rows
  pub head_same : (at : ℕ) → at + WORDS ≤ row_at 0 → set_at (edited store e) at ≡ set_at store at
  head_same at l = set_out at (omega arith) (inl (omega arith))

  pub row_here : set_at (edited store e) (row_at (source e)) ≡ row_after before e
  unfolding edited set_at
  row_here = put_own (row_at (source e)) now store fit WORDS (row_after-long before e)

  pub row-there : (s : ℕ) → s < max_states → (s ≡ source e → ⊥) → set_at (edited store e) (row_at s) ≡ set_at store (row_at s)
  row-there s l ne =
      set_out (row_at s) (omega arith) (⊎_elim (λ m. inl (omega arith)) (λ m. inr (omega (arith, ne))) (lt_or_ge s (source e)))

module _ (store : List ℕ) (n g : ℕ) (e : Edit) (held : Store store n g) (ha : source e < n) (hb : target e < n) where
  low : source e < max_states
  low = omega (arith, held.small)

  row_within : (s : ℕ) → s < n → beyond n (set_at (edited store e) (row_at s)) ≡ false
  row_within s l =
      let was = (malformed_clean store n g held.clean).row in
      ⊎_elim
      (λ q.
      subst (λ (x : ℕ). beyond n (set_at (edited store e) (row_at x)) ≡ false) (sym (eqb-true s (source e) q))
      (ap (beyond n) (row_here store e low held.long)
      ∙ below_beyond n _ (λ x i. ⊎_elim (λ k. beyond_below n _ (was (source e) ha) x k) (λ k. omega arith) (row_after_in _ e i))))
      (λ q. ap (beyond n) (row-there store e low held.long s (omega (arith, held.small)) (eqb-false s (source e) q)) ∙ was s l)
      (decided (eqb s (source e)))

  pub edited_store : Store (edited store e) n g
  edited_store =
      let c = malformed_clean store n g held.clean in
      let head = head_same store e low held.long in
      let out = edited_out store e low held.long in
      record {
        long = omega (arith, held.long, edited-long store e low held.long);
        draft = held.draft;
        small = held.small;
        few = held.few;
        clean =
            clean_malformed (edited store e) n g
            (record {
              initial = ap (beyond n) (head _ (omega arith)) ∙ c.initial;
              marked = ap (beyond n) (head _ (omega arith)) ∙ c.marked;
              resting = ap (beyond n) (head _ (omega arith)) ∙ c.resting;
              group = λ j l. ap (beyond n) (head _ (omega (arith, held.few))) ∙ c.group j l;
              row = row_within;
              no_group = λ i l m. out i (inl (omega arith)) ∙ c.no_group i l m;
              no_row = λ i l m. out i (inr (omega arith)) ∙ c.no_row i l m;
            });
      }

  pub edited-longer : {after : List ℕ} → after ≡ edited store e → store_words ≤ length after
  edited-longer q = omega (arith, edited_store.long, ap length q)

  pub initial-same : (table_of (edited store e) n g).initial ≡ (table_of store n g).initial
  unfolding table_of
  initial-same = head_same store e low held.long _ (omega arith)

  pub table_here : (table_of (edited store e) n g).row (source e) ≡ row_after ((table_of store n g).row (source e)) e
  table_here =
      row_is (edited store e) n g (source e) ha
      ∙ row_here store e low held.long
      ∙ ap (λ (X : Set). row_after X e) (sym (row_is store n g (source e) ha))

  pub table-there : (s : ℕ) → s < n → (s ≡ source e → ⊥) → (table_of (edited store e) n g).row s ≡ (table_of store n g).row s
  table-there s l ne =
      row_is (edited store e) n g s l ∙ row-there store e low held.long s (omega (arith, held.small)) ne ∙ sym (row_is store n g s l)

pub step_added : (store : List ℕ) (n g a b : ℕ) → Store store n g → a < n → b < n → StepAdded (table_of store n g) (table_of (edited store (add a b)) n g) a b
unfolding table_of row_after
step_added store n g a b held ha hb =
    let t = table_of store n g in
    let t' = table_of (edited store (add a b)) n g in
    let here : t'.row a ≡ union (t.row a) (single b) = table_here store n g (add a b) held ha hb in
    let there : (s : ℕ) → s < n → (s ≡ a → ⊥) → t'.row s ≡ t.row s = table-there store n g (add a b) held ha hb in
    let bound : b < max_states = omega (arith, held.small) in
    record {
      states = refl;
      source = ha;
      target = in_first_states bound hb;
      step = ⊆-of-eq (sym here) b (in_union (inr (in_single bound)));
      kept = λ s l u i.
          ⊎_elim
          (λ q. let x = eqb-true s a q in subst (λ (v : ℕ). In (t'.row v) u) (sym x) (⊆-of-eq (sym here) u (in_union (inl (subst (λ (v : ℕ). In (t.row v) u) x i)))))
          (λ q. ⊆-of-eq (sym (there s l (eqb-false s a q))) u i)
          (decided (eqb s a));
      only = λ s u l i.
          ⊎_elim
          (λ q.
          let x = eqb-true s a q in
          ⊎_elim (λ k. inl (subst (λ (v : ℕ). In (t.row v) u) (sym x) k)) (λ k. inr (x, single_in k))
          (union_in (⊆-of-eq here u (subst (λ (v : ℕ). In (t'.row v) u) x i))))
          (λ q. inl (⊆-of-eq (there s l (eqb-false s a q)) u i))
          (decided (eqb s a));
    }
