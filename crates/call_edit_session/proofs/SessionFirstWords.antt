-- The calls read and change the first words of a store and no other.
--
--   refusal-same                     the first ground that holds, of two stores that are alike in their first words
--   nothing-same, edited-same        whether an edit changes nothing, and the first words after it
--   first-words                      specs/SessionPromises
use Prim.Native.Nat.{ℕ, ◌+◌, ◌≤◌, ◌<◌}
use native.Mathlib.Omega.{arith}
use mathlib.Core.Path.{◌≡◌, refl, sym, ap, ap₂, ◌∙◌}
use mathlib.Core.Logic.{⊎_elim}
use mathlib.Core.Bool.{Bool, true, false, cond, not}
use mathlib.Core.List.{List, [], ◌∷◌}
use borrow.Author.Tests.{eqb-true, eqb-false}
use lib.Dec.{eqb}
use lib.ListN.{length, take, drop}
use Rattle.basics.specs.Refusals.{refuse}
use Rattle.model.specs.Sets.{max_states, Set, member}
use Rattle.model.specs.Tables.{Table}
use Rattle.model.specs.Stores.{store_words, row_at, set_at, table_of}
use Rattle.basics.proofs.BoundLaws.{decided}
use Rattle.basics.proofs.RefusalLaws.{answer_cong}
use Rattle.model.proofs.StoresTables.{row_is}
use Rattle.model.proofs.StoresAccepted.{Store}
use Rattle.model.proofs.StoresFirstWords.{table-words, grounds-same, same_call}
use Rattle.core_table.specs.Writing.{overwrite_from}
use Rattle.core_table.proofs.StoresPut.{put_take, put_drop}
use Rattle.call_edit_session.specs.Edits.{Edit, add, remove, source, target, has_step, changes_nothing, row_after, edited, opened, reachable_after, open_answer, state_ground, edit_grounds, edit_answer}
use Rattle.call_edit_session.specs.SessionPromises.{FirstWords}
use Rattle.call_edit_session.proofs.RowsEdited.{row_after-long, edited_store}
use Rattle.call_edit_session.proofs.SessionAnswered.{accepted, grounds, buffer-refused, buffer-answered}
use Rattle.call_edit_session.proofs.SessionEdits.{of_edit}

-- the row after an edit stands among the first words
row_first : (store : List ℕ) (e : Edit) → source e < max_states → row_at (source e) + length (row_after (set_at store (row_at (source e))) e) ≤ store_words
row_first store e h = omega (arith, row_after-long (set_at store (row_at (source e))) e)

module _ (store other : List ℕ) (long : store_words ≤ length store) (long' : store_words ≤ length other) (alike : take store_words store ≡ take store_words other) where
  refusal-same : (n g : ℕ) (e : Edit) → refuse (grounds store n g e) ≡ refuse (grounds other n g e)
  unfolding edit_grounds
  refusal-same n g e = grounds-same store other long long' alike n g (state_ground n (source e) (target e) ∷ [])

  module _ (n g : ℕ) (e : Edit) (z : refuse (grounds store n g e) ≡ 0) where
    states : Store store n g × (source e < n) × (target e < n)
    states = accepted store n g (source e) (target e) (sym z)

    states' : Store other n g × (source e < n) × (target e < n)
    states' = accepted other n g (source e) (target e) (sym z ∙ refusal-same n g e)

    low : source e < max_states
    low = omega (arith, states.1, states.0.small)

    row_same : set_at store (row_at (source e)) ≡ set_at other (row_at (source e))
    row_same =
        sym (row_is store n g (source e) states.1)
        ∙ ap (λ (t : Table). t.row (source e)) (table-words store other long long' alike n g states.0.small states.0.few)
        ∙ row_is other n g (source e) states.1

    edited-same : take store_words (edited store e) ≡ take store_words (edited other e)
    unfolding edited
    edited-same =
        let at = row_at (source e) in
        put_take at _ store store_words (row_first store e low) long
        ∙ ap₂ (λ X xs. overwrite_from at (row_after X e) xs) row_same alike
        ∙ sym (put_take at _ other store_words (row_first other e low) long')

    table_same : table_of (edited store e) n g ≡ table_of (edited other e) n g
    table_same =
        table-words (edited store e) (edited other e)
        (edited_store store n g e states.0 states.1 states.2).long
        (edited_store other n g e states'.0 states'.1 states'.2).long
        edited-same n g states.0.small states.0.few

  nothing-same : (n g : ℕ) (e : Edit) → refuse (grounds store n g e) ≡ 0 → changes_nothing store e ≡ changes_nothing other e
  unfolding changes_nothing has_step
  nothing-same n g (add a b) z = ap (λ (X : Set). member X b) (row_same n g (add a b) z)
  nothing-same n g (remove a b) z = ap (λ (X : Set). not (member X b)) (row_same n g (remove a b) z)

  -- the first words at exit, where no ground holds
  kept_same : (n g : ℕ) (e : Edit) → refuse (grounds store n g e) ≡ 0
      → take store_words (cond (changes_nothing store e) store (edited store e)) ≡ take store_words (cond (changes_nothing other e) other (edited other e))
  kept_same n g e z =
      ⊎_elim
      (λ (m : changes_nothing store e ≡ true). rw (m, sym (nothing-same n g e z) ∙ m) alike)
      (λ (m : changes_nothing store e ≡ false). rw (m, sym (nothing-same n g e z) ∙ m) (edited-same n g e z))
      (decided (changes_nothing store e))

  pub first-words : FirstWords store other
  unfolding open_answer edit_answer edit_grounds edited
  first-words =
      record {
        opening = λ n g. same_call store other long long' alike opened n g [] refl;
        edit = λ n g X e.
            answer_cong (grounds store n g e) (grounds other n g e) _ _ refl refl (refusal-same n g e)
            (λ z. ap₂ (λ (b : Bool) (t : Table). cond b X (reachable_after t X e)) (nothing-same n g e z) (table_same n g e z));
        buffer = λ n g e.
            let k = refuse (grounds store n g e) in
            ⊎_elim
            (λ (q : eqb k 0 ≡ true).
            let z = eqb-true k 0 q in
            ap (take store_words) (buffer-answered store n g e z)
            ∙ kept_same n g e z
            ∙ sym (ap (take store_words) (buffer-answered other n g e (sym (refusal-same n g e) ∙ z))))
            (λ (q : eqb k 0 ≡ false).
            let f = eqb-false k 0 q in
            ap (take store_words) (buffer-refused store n g e f)
            ∙ alike
            ∙ sym (ap (take store_words) (buffer-refused other n g e (λ z. f (refusal-same n g e ∙ z)))))
            (decided (eqb k 0));
        rest = λ n g e.
            of_edit store n g [] e (λ a after. drop store_words after ≡ drop store_words store) (λ f. refl) (λ z m. refl)
            (λ z m. put_drop (row_at (source e)) _ store store_words (row_first store e (low n g e z)) long);
      }
