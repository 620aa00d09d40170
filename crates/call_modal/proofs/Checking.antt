-- Laws of the functions that check rows and find a path on them.
--
--   table_with_lem                 the store's table with other forbidden states and rows, by what `run` is lent
--   checked                    `check_on`
use Rattle.std.specs.Prelude.{Option, Some, None}
use Prim.Native.Nat.{ℕ}
use mathlib.Core.Path.{◌≡◌, refl, ap, ◌∙◌}
use mathlib.Core.Bool.{cond}
use mathlib.Core.List.{List}
use lib.Dec.{eqb}
use Rattle.model.specs.Sets.{Set}
use Rattle.model.specs.Tables.{Table}
use Rattle.model.specs.Rounds.{Outcome, run}
use Rattle.model.specs.Stores.{set_at, dialogue_of, table_of}
use Rattle.model.specs.Calls.{release, decision_of}
use Rattle.core_rows.specs.Rows.{groups_of, rows_in, groups_in, table_on}
use Rattle.core_rows.proofs.RowsLent.{groups_of_lem}
use Rattle.core_rounds.specs.RunAnswers.{outcome_of}
use Rattle.core_rounds.specs.declared.Ending.{Ending}
use Rattle.core_rounds.specs.declared.Ending.TheVariants.{Safe, Unsafe, Undecided}
use Rattle.core_state_set.specs.declared.StateSet.{StateSet}
use Rattle.call_modal.specs.Modal.{table_with, release_check}
use Rattle.call_modal.specs.ModalAnswers.{words_in, ChecksOut}

-- ---- a release check

-- the invariant that an ending has, if it is safe
abbrev kept_in : Ending → Option StateSet
kept_in (Safe i X) = Some X
kept_in (Unsafe i) = None
kept_in (Undecided i) = None

checks-ending : (t : Table) (x : Ending)
    → words_in (kept_in x) ≡ cond (eqb (decision_of t (outcome_of x)).verdict 0) (Some (decision_of t (outcome_of x)).invariant) None
unfolding decision_of
checks-ending t (Safe i X) = refl
checks-ending t (Unsafe i) = refl
checks-ending t (Undecided i) = refl

checks_out : (t : Table) (x : Ending) → outcome_of x ≡ run t release → ChecksOut t (kept_in x)
unfolding release_check
checks_out t x e =
    checks-ending t x ∙ ap (λ (o : Outcome). cond (eqb (decision_of t o).verdict 0) (Some (decision_of t o).invariant) None) e

-- (I: what the call of `set_at` gave)
module _ (store rows : List ℕ) (n : ℕ) (F : Set) {I : Set} (i : I ≡ set_at store 0) where
  table_with_lem : (g : ℕ) → table_on n I F (groups_in (groups_of store) g) rows ≡ table_with store n g F (rows_in rows n)
  unfolding table_on table_with table_of dialogue_of
  table_with_lem g = λ k. record { n = n; initial = i k; forbidden = F; groups = groups_of_lem store n g k; row = rows_in rows n }

  pub checked : (g : ℕ) (x : Ending) → outcome_of x ≡ run (table_on n I F (groups_in (groups_of store) g) rows) release
      → ChecksOut (table_with store n g F (rows_in rows n)) (kept_in x)
  checked g x e =
      checks_out (table_with store n g F (rows_in rows n)) x (e ∙ ap (λ (t : Table). run t release) (table_with_lem g))
