-- The proof of specs/Hangs: the forbidden states are those of the dialogue whose rows are the possible ones.
use Prim.Native.Nat.{ℕ, ◌*◌, ◌<◌}
use mathlib.Core.Path.{◌≡◌, refl, sym, ap, ◌∙◌}
use mathlib.Core.Logic.{⊎_elim, inl, inr}
use mathlib.Core.Bool.{Bool, cond}
use mathlib.Core.List.{List, []}
use borrow.Author.Tests.{lt-ltb}
use Rattle.model.specs.Sets.{WORDS, Set, member, empty}
use Rattle.model.specs.Tables.{Dialogue, table_from}
use Rattle.model.specs.Stores.{marked_at, resting_at, set_at, dialogue_of}
use Rattle.model.proofs.HangLaws.{forbidden-is}
use Rattle.core_rows.specs.Rows.{rows_in}
use Rattle.call_modal.specs.Modal.{possible_row, table_with, modal_forbidden}
use Rattle.call_modal.specs.Hangs.{HangsAre}

module _ (store : List ℕ) (n : ℕ) (possible : List ℕ) where
  abbrev on_possible : Dialogue
  on_possible =
      record { n = n; initial = set_at store 0; marked = set_at store marked_at; resting = set_at store resting_at; groups = []; row = possible_row possible n }

  row-there : (s : ℕ) → s < n → possible_row possible n s ≡ set_at possible (WORDS * s)
  unfolding rows_in
  row-there s h = ap (λ (b : Bool). cond b (set_at possible (WORDS * s)) empty) (lt-ltb s n h)

pub hangs_are : HangsAre
unfolding modal_forbidden table_with table_from dialogue_of
hangs_are =
    record {
      members = λ store n possible s l.
          let is = (forbidden-is (on_possible store n possible)).forbidden s l in
          let row = row-there store n possible s in (
            λ e. ⊎_elim inl (λ h. inr (h.0, (λ u. ap (λ (X : Set). member X u) (sym (row h.0)) ∙ h.1 u), h.2)) (is.0 e),
            λ h. is.1 (⊎_elim inl (λ k. inr (k.0, (λ u. ap (λ (X : Set). member X u) (row k.0) ∙ k.1 u), k.2)) h),
          );
      every_choice = λ store n g possible row. refl;
    }
