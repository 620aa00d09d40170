-- Both rows of each state equal: the answer is decide's.
--
--   one_table                  two release checks of one table
--   same_row, same-certain, same-possible     the rows, and both tables, are the store's
--   as_decide                  the answer, and the path buffer
--   equal_clean                neither ground 17 of the possible rows holds then, if unused rows are 0, nor 28
use Prim.Native.Nat.{ℕ, ◌*◌, ◌≤◌, ◌<◌}
use native.Mathlib.Omega.{arith}
use mathlib.Core.Path.{◌≡◌, refl, sym, ap, ◌∙◌, subst, fun_ext}
use mathlib.Core.Logic.{◌⊎◌, inl, inr, ⊎_elim}
use mathlib.Core.Bool.{true, false, not, cond}
use mathlib.Core.List.{List}
use borrow.Author.Tests.{eq-eqb, ne_eqb, ltb-true, le-ltb}
use lib.Dec.{eqb, ltb}
use lib.ListN.{length, get_or}
use Rattle.model.specs.Sets.{WORDS, max_states, Set, union, subset}
use Rattle.model.specs.Tables.{Table, hangs}
use Rattle.model.specs.Paths.{smallest_path}
use Rattle.basics.specs.Refusals.{refuse, answered, unless_refused}
use Rattle.model.specs.Stores.{marked_at, resting_at, row_at, set_at, dialogue_of, table_of, beyond}
use Rattle.model.specs.Calls.{overwrite, release, Decision, decide_grounds, decide_answer, decide_buffer, decide_limits}
use Rattle.basics.proofs.BoundLaws.{decided, or_none, no_any}
use Rattle.basics.proofs.RefusalLaws.{clear_refuse, answer-none}
use Rattle.model.proofs.SetsMembers.{in_subset}
use Rattle.model.proofs.StoresTables.{malformed_clean, zero_non_zero}
use Rattle.model.proofs.StoresAccepted.{Store, store_accepted}
use Rattle.core_rows.specs.Rows.{rows_in}
use Rattle.call_modal.specs.Modal.{certain_row, possible_row, table_with, modal_forbidden, modal_table, certain_table, possible_table, possible_words, malformed_rows, certain_impossible, release_check, ModalAnswer, modal_of, modal_written}
use Rattle.call_modal.specs.ModalPromises.{AsDecide}
use Rattle.call_modal.proofs.ModalGrounds.{ModalHeld}
use Rattle.call_modal.proofs.Choosing.{SaysSafe, SaysUnsafe}
use Rattle.call_modal.proofs.ModalAnswered.{safe_of, unsafe_of}
use Rattle.call_modal.proofs.Verdicts.{says-certain}

-- ---- two checks of one table

module _ (t : Table) (before : List ℕ) where
  abbrev one : ModalAnswer
  one = modal_of (release_check t) (release_check t)

  same-written : (v : ℕ) → (v ≡ 0) ⊎ (v ≡ 1) → modal_written t t v before ≡ cond (eqb v 1) (overwrite (smallest_path t) before) before
  unfolding modal_written
  same-written v = ⊎_elim (λ e. rw e) (λ e. rw e)

  one_table : SaysSafe t (release_check t) ⊎ SaysUnsafe t (release_check t)
      → AsDecide (release_check t) (cond (eqb (release_check t).verdict 1) (overwrite (smallest_path t) before) before) one (modal_written t t one.verdict before)
  unfolding release_check
  one_table =
      ⊎_elim
      (λ w.
      let q = safe_of (release_check t) (release_check t) (eq-eqb (release_check t).verdict 0 w.0) in
      let v : one.verdict ≡ (release_check t).verdict = ap (λ (a : ModalAnswer). a.verdict) q ∙ sym w.0 in
      record {
        verdict = v;
        invariant = ap (λ (a : ModalAnswer). a.invariant) q;
        size = ap (λ (a : ModalAnswer). a.size) q;
        steps = ap (λ (a : ModalAnswer). a.steps) q ∙ sym w.4;
        buffer = ap (λ (k : ℕ). modal_written t t k before) v ∙ same-written (release_check t).verdict (inl w.0);
      })
      (λ w.
      let q =
      unsafe_of (release_check t) (release_check t) (ne_eqb (release_check t).verdict 0 (λ e. omega (arith, w.0, e)))
      (eq-eqb (release_check t).verdict 1 w.0) in
      let v : one.verdict ≡ (release_check t).verdict = ap (λ (a : ModalAnswer). a.verdict) q ∙ sym w.0 in
      record {
        verdict = v;
        invariant = ap (λ (a : ModalAnswer). a.invariant) q ∙ sym w.3;
        size = ap (λ (a : ModalAnswer). a.size) q ∙ sym w.4;
        steps = ap (λ (a : ModalAnswer). a.steps) q;
        buffer = ap (λ (k : ℕ). modal_written t t k before) v ∙ same-written (release_check t).verdict (inr w.0);
      })

-- ---- a call that is answered

module _ (store : List ℕ) (n g : ℕ) (possible : List ℕ) (ok : ModalHeld store n g possible) where
  abbrev C : Table
  C = certain_table store n g possible

  abbrev P : Table
  P = possible_table store n g possible

  abbrev both : ModalAnswer
  both = modal_of (release_check C) (release_check P)

  abbrev left : List ℕ → List ℕ
  left before = modal_written C P both.verdict before

  module _ (equal : (s : ℕ) → s < n → set_at possible (WORDS * s) ≡ set_at store (row_at s)) where
    same_row : possible_row possible n ≡ certain_row store n
    unfolding rows_in dialogue_of
    same_row =
        fun_ext
        (λ s.
        ⊎_elim
        (λ (q : ltb s n ≡ true). rw q (equal s (ltb-true s n q)))
        (λ (q : ltb s n ≡ false). rw q)
        (decided (ltb s n)))

    same-certain : C ≡ table_of store n g
    unfolding table_with modal_forbidden table_of
    same-certain = λ i.
        record {
          n = n;
          initial = set_at store 0;
          forbidden = union (set_at store marked_at) (hangs n (same_row i) (set_at store resting_at));
          groups = (dialogue_of store n g).groups;
          row = certain_row store n;
        }

    same-possible : P ≡ table_of store n g
    same-possible = ap (λ (row : ℕ → Set). modal_table store n g possible row) same_row ∙ same-certain

    module _ (before : List ℕ) (roomy : max_states ≤ length before) where
      decide_accepts : refuse (decide_grounds store n g release (length before)) ≡ 0
      unfolding decide_grounds
      decide_accepts =
          store_accepted store n g (decide_limits release (length before)) ok.held
          ∙ clear_refuse _ (le-ltb release release (omega arith), (le-ltb (length before) max_states roomy, tt))

      decide-answers : decide_answer store n g release (length before) ≡ answered (release_check (table_of store n g))
      unfolding decide_answer decide_grounds release_check
      decide-answers = answer-none (decide_grounds store n g release (length before)) _ refl decide_accepts

      abbrev decided_left : Decision → List ℕ
      decided_left d = cond (eqb d.verdict 1) (overwrite (smallest_path (table_of store n g)) before) before

      pub as_decide : (decide_answer store n g release (length before) ≡ answered (release_check (table_of store n g)))
          × AsDecide (release_check (table_of store n g)) (decide_buffer store n g release before) both (left before)
      unfolding decide_buffer
      as_decide =
          let T = table_of store n g in
          let says-T = subst (λ (u : Table). SaysSafe u (release_check u) ⊎ SaysUnsafe u (release_check u)) same-certain (says-certain store n g possible ok) in (
            decide-answers,
            subst (λ (xs : List ℕ). AsDecide (release_check T) xs both (left before)) (sym (ap (unless_refused before decided_left) decide-answers))
                (subst
                (λ (u : Table).
                AsDecide (release_check T) (decided_left (release_check T))
                (modal_of (release_check C) (release_check u)) (modal_written C u (modal_of (release_check C) (release_check u)).verdict before))
                (sym same-possible)
                (subst
                (λ (u : Table).
                AsDecide (release_check T) (decided_left (release_check T))
                (modal_of (release_check u) (release_check T)) (modal_written u T (modal_of (release_check u) (release_check T)).verdict before))
                (sym same-certain) (one_table T before says-T))),
          )

-- ---- a call that is made

module _ (store : List ℕ) (n g : ℕ) (possible : List ℕ) (held : Store store n g) (equal : (s : ℕ) → s < n → set_at possible (WORDS * s) ≡ set_at store (row_at s)) where
  pub equal_clean : ((i : ℕ) → WORDS * n ≤ i → i < possible_words → get_or possible i 0 ≡ 0) → (malformed_rows possible n ≡ false) × (certain_impossible store n possible ≡ false)
  unfolding malformed_rows certain_impossible
  equal_clean zero = (
    or_none _ _ (no_any _ n (λ s h. ap (beyond n) (equal s h) ∙ (malformed_clean store n g held.clean).row s h)) (zero_non_zero possible (WORDS * n) possible_words zero),
    no_any _ n (λ s h. ap (λ (X : Set). not (subset (set_at store (row_at s)) X)) (equal s h) ∙ ap not (in_subset (λ u i. i))),
  )
