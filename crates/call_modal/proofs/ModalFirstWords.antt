-- The call reads the first words of the store and of the possible steps, and no other.
--
--   grounds_alike                  the grounds of two calls that are alike in those words
--   tables-alike                   their tables, on the same rows of either buffer
--   first-words                    their answers, and what they leave in the path buffer
use Prim.Native.Nat.{ℕ, ◌+◌, ◌*◌, ◌≤◌}
use native.Mathlib.Omega.{arith}
use mathlib.Core.Path.{◌≡◌, refl, sym, ap, ap₂, ◌∙◌, fun_ext}
use mathlib.Core.Logic.{⊎_elim}
use mathlib.Core.Bool.{true, false, not, ◌||◌}
use mathlib.Core.List.{List}
use borrow.Author.Tests.{ltb-true, ltb-false, le-ltb}
use lib.Dec.{ltb}
use lib.ListN.{length, take}
use Rattle.model.specs.Sets.{WORDS, max_states, Set, union, subset}
use Rattle.model.specs.Tables.{Table, Dialogue, hangs}
use Rattle.basics.specs.Refusals.{refuse, answer, unless_refused}
use Rattle.model.specs.Stores.{max_groups, store_words, row_at, set_at, dialogue_of, beyond, bad_states}
use Rattle.basics.proofs.BoundLaws.{decided, any_cong}
use Rattle.basics.proofs.RefusalLaws.{unless_value, answer_cong}
use Rattle.model.proofs.StoresFirstWords.{same_word, same-part, non_zero_cong, states_le, dialogue_words, malformed-same}
use Rattle.core_rows.specs.Rows.{rows_in}
use Rattle.call_modal.specs.Modal.{possible_words, certain_row, possible_row, table_with, modal_forbidden, modal_table, certain_table, possible_table, malformed_rows, certain_impossible, release_check, modal_grounds, ModalAnswer, modal_of, modal_answer, modal_written, modal_buffer}
use Rattle.call_modal.proofs.ModalGrounds.{accepted}

module _ (store store' possible possible' : List ℕ) (n g : ℕ)
    (a : store_words ≤ length store) (a' : store_words ≤ length store') (s : take store_words store ≡ take store_words store')
    (b : possible_words ≤ length possible) (b' : possible_words ≤ length possible') (p : take possible_words possible ≡ take possible_words possible') where
  part : (at : ℕ) → at + WORDS ≤ possible_words → set_at possible at ≡ set_at possible' at
  part = same-part possible_words possible possible' b b' p

  module _ (small : n ≤ max_states) where
    malformed_alike : malformed_rows possible n ≡ malformed_rows possible' n
    unfolding malformed_rows
    malformed_alike =
        ap₂ ◌||◌
        (any_cong _ _ n (λ r h. ap (beyond n) (part (WORDS * r) (omega arith))))
        (non_zero_cong possible possible' (WORDS * n) possible_words (λ i h. same_word possible_words possible possible' b b' p i h))

    impossible_alike : certain_impossible store n possible ≡ certain_impossible store' n possible'
    unfolding certain_impossible
    impossible_alike =
        any_cong _ _ n
        (λ r h.
        ap₂ (λ (X Y : Set). not (subset X Y)) (same-part store_words store store' a a' s (row_at r) (omega arith)) (part (WORDS * r) (omega arith)))

    rows_alike : possible_row possible n ≡ possible_row possible' n
    unfolding rows_in
    rows_alike =
        fun_ext
        (λ r.
        ⊎_elim
        (λ (q : ltb r n ≡ true). rw q (part (WORDS * r) (omega (arith, ltb-true r n q))))
        (λ (q : ltb r n ≡ false). rw q)
        (decided (ltb r n)))

    module _ (few : g ≤ max_groups) where
      certain_alike : certain_row store n ≡ certain_row store' n
      unfolding dialogue_of
      certain_alike = ap (λ (d : Dialogue). d.row) (dialogue_words store store' a a' s n g small few)

      table_alike : {row row' : ℕ → Set} → row ≡ row' → modal_table store n g possible row ≡ modal_table store' n g possible' row'
      unfolding table_with modal_forbidden dialogue_of
      table_alike {row} {row'} e =
          let d = dialogue_words store store' a a' s n g small few in λ i.
          record {
            n = n;
            initial = (d i).initial;
            forbidden = union (d i).marked (hangs n (rows_alike i) (d i).resting);
            groups = (d i).groups;
            row = e i;
          }

  grounds_alike : (room : ℕ) → refuse (modal_grounds store n g possible room) ≡ refuse (modal_grounds store' n g possible' room)
  unfolding modal_grounds refuse
  grounds_alike room =
      rw (
        le-ltb (length store) store_words a,
        le-ltb (length store') store_words a',
        le-ltb (length possible) possible_words b,
        le-ltb (length possible') possible_words b',
      )
      (⊎_elim
      (λ (q : bad_states n g ≡ true). rw q)
      (λ (q : bad_states n g ≡ false).
      ⊎_elim
      (λ (f : ltb max_groups g ≡ true). rw (q, f))
      (λ (f : ltb max_groups g ≡ false).
      let small = states_le n g q in
      rw (q, f, malformed-same store store' a a' s n g small (ltb-false max_groups g f), malformed_alike small, impossible_alike small))
      (decided (ltb max_groups g)))
      (decided (bad_states n g)))

  -- a call whose answer is made of the two tables
  same_call : {A : Type 0} (f : Table → Table → A) (room : ℕ)
      → answer (modal_grounds store n g possible room) (f (certain_table store n g possible) (possible_table store n g possible))
      ≡ answer (modal_grounds store' n g possible' room) (f (certain_table store' n g possible') (possible_table store' n g possible'))
  unfolding modal_grounds
  same_call f room =
      answer_cong (modal_grounds store n g possible room) (modal_grounds store' n g possible' room) _ _ refl refl (grounds_alike room)
      (λ z.
      let held = (accepted store n g possible room z).0.held in
      ap₂ f (table_alike held.small held.few (certain_alike held.small held.few)) (table_alike held.small held.few (rows_alike held.small)))

pub first-words : (store store' possible possible' : List ℕ) (n g : ℕ) (path : List ℕ)
    → store_words ≤ length store → store_words ≤ length store' → take store_words store ≡ take store_words store'
    → possible_words ≤ length possible → possible_words ≤ length possible' → take possible_words possible ≡ take possible_words possible'
    → (modal_answer store n g possible (length path) ≡ modal_answer store' n g possible' (length path))
    × (modal_buffer store n g possible path ≡ modal_buffer store' n g possible' path)
unfolding modal_answer modal_buffer
first-words store store' possible possible' n g path a a' s b b' p = (
  same_call store store' possible possible' n g a a' s b b' p answers (length path),
  unless_value (modal_grounds store n g possible (length path)) path _ _
      ∙ ap (unless_refused path (λ xs. xs))
      (same_call store store' possible possible' n g a a' s b b' p (λ t u. modal_written t u (answers t u).verdict path) (length path))
      ∙ sym (unless_value (modal_grounds store' n g possible' (length path)) path _ _),
)
  where
    answers : Table → Table → ModalAnswer
    answers t u = modal_of (release_check t) (release_check u)
