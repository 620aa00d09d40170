-- The proof of specs/WorkedFiles: what decide answers for a table is printed for its file, which read takes back.
--
--   tidy n X, tidy_within     X has eight words of 64 bits, and states below n only: the test, and the fact
--   printed                   of a table that decide is worked out for
use Prim.Native.Nat.{ℕ, zero, suc, ◌+◌, ◌^◌}
use native.Mathlib.Nat.{le_of_eq}
use native.Mathlib.Omega.{arith}
use mathlib.Core.Path.{◌≡◌, refl, sym, ap, ◌∙◌}
use mathlib.Core.Bool.{Bool, true, not, ◌&&◌}
use mathlib.Core.List.{List, [], ◌∷◌, ◌++◌, append-nil}
use borrow.Author.Tests.{ltb-true, eqb-true}
use lib.Dec.{eqb, ltb}
use lib.ListN.{length, get_or, drop, length-replicate}
use lib.Seq.{take_all, drop-length}
use Rattle.basics.specs.Bounds.{any, all, tabulate, filter, concat}
use Rattle.basics.specs.Refusals.{answered}
use Rattle.basics.proofs.BoundLaws.{and_true, not_true, all_at, length-tabulate}
use Rattle.model.specs.Sets.{WORDS, max_states, Set, bit, member, number, set_of, empty, members, size}
use Rattle.model.specs.Tables.{Dialogue}
use Rattle.model.specs.Stores.{store_words, set_at, dialogue_of, layout, beyond}
use Rattle.model.specs.Contents.{new_form, heads, sets}
use Rattle.model.specs.Files.{file_of}
use Rattle.model.specs.Calls.{overwrite, release, Decision, decide_answer, read_buffer}
use Rattle.model.specs.RoundTrip.{Bounded, WriteRead}
use Rattle.model.proofs.StoresTables.{Within, beyond_below}
use Rattle.model.proofs.StoresAccepted.{Store, check_of_lem}
use Rattle.model.proofs.RoundTrips.{Storable, new_read}
use Rattle.examples_tables.specs.Tables as table
use Rattle.examples_tables.specs.Worked.{held, Decides}
use Rattle.examples_tables.proofs.Worked.{worked}
use Rattle.core_report.specs.Text.{ascii, digits, decimal, spaced, states_line, verdict_line, invariant_line, path_line, safe_text, unsafe_text, report_text}
use Rattle.call_check.specs.CheckText.{zero_store, zero_path, check_table, release_check, check_text}
use Rattle.examples_files.specs.WorkedFiles.{WorkedFiles}

abbrev fit : List ℕ → Bool
fit [] = true
fit (x ∷ xs) = ltb x (2 ^ 64) && fit xs

fit_bounded : (xs : List ℕ) → fit xs ≡ true → Bounded (2 ^ 64) xs
fit_bounded [] e i = omega arith
fit_bounded (x ∷ xs) e zero = ltb-true x (2 ^ 64) (and_true (ltb x (2 ^ 64)) (fit xs) e).0
fit_bounded (x ∷ xs) e (suc i) = fit_bounded xs (and_true (ltb x (2 ^ 64)) (fit xs) e).1 i

abbrev tidy : ℕ → Set → Bool
tidy n X = eqb (length X) WORDS && (fit X && not (beyond n X))

tidy_within : (n : ℕ) (X : Set) → tidy n X ≡ true → Within n X
tidy_within n X e =
    let long = and_true (eqb (length X) WORDS) (fit X && not (beyond n X)) e in
    let rest = and_true (fit X) (not (beyond n X)) long.1 in
    record {
      proper = record { long = eqb-true (length X) WORDS long.0; fits = λ w h. fit_bounded X rest.0 w };
      below = beyond_below n X (not_true (beyond n X) rest.1);
    }

module _ (t : Dialogue) (d : Decision) (states : List ℕ) (is : Decides t release d states) (long : length (layout t) ≡ store_words) where
  abbrev n : ℕ
  n = t.n

  abbrev g : ℕ
  g = length t.groups

  path-long : length zero_path ≡ max_states
  path-long = length-replicate {A = ℕ} max_states 0

  store_long : length zero_store ≡ store_words
  store_long = length-replicate {A = ℕ} store_words 0

  decided : decide_answer (layout t) n g release max_states ≡ answered d
  decided = ap (decide_answer (layout t) n g release) (sym path-long) ∙ is.answers zero_path (le_of_eq (sym path-long))

  store : Store (layout t) n g
  store = (check_of_lem (layout t) n g release max_states decided).held

  -- each of the sets that are written is tidy
  module _ (each : all (heads new_form + g + n) (λ k. tidy n (get_or (sets new_form (held t)) k [])) ≡ true) where
    storable : Storable new_form (held t) g
    unfolding dialogue_of
    storable =
        record {
          many = length-tabulate _ g;
          small = store.small;
          few = store.few;
          within = λ k h. tidy_within n _ (all_at (λ j. tidy n (get_or (sets new_form (held t)) j [])) (heads new_form + g + n) each k h);
        }

    back : WriteRead (layout t) n g 0 (file_of new_form 0 (held t)) zero_store
    back = new_read (layout t) n g 0 zero_store store (omega arith) storable (le_of_eq (sym store_long))

    -- the store that read leaves has no word past the table's
    filled : read_buffer (file_of new_form 0 (held t)) 0 zero_store ≡ layout t
    unfolding overwrite
    filled =
        back.buffer
        ∙ ap (λ (xs : List ℕ). overwrite xs zero_store) (take_all store_words (layout t) (le_of_eq long))
        ∙ ap (λ (m : ℕ). layout t ++ drop m zero_store) (long ∙ sym store_long)
        ∙ ap (λ (xs : List ℕ). layout t ++ xs) (drop-length zero_store)
        ∙ append-nil (layout t)

    printed : check_text (file_of new_form 0 (held t)) 0 ≡ report_text n g d (overwrite states zero_path)
    unfolding release_check check_table
    printed = rw (← store_long) (rw (back.answer, filled, decided, is.writes zero_path (le_of_eq (sym path-long))) refl)

pub worked_files : WorkedFiles
unfolding any all tabulate filter concat bit member number set_of empty members size set_at dialogue_of layout beyond sets overwrite ascii digits decimal spaced states_line verdict_line invariant_line path_line safe_text unsafe_text report_text
worked_files =
    record {
      E = printed table.E _ _ worked.line_E.0 refl refl;
      B = printed table.B _ _ worked.line_B.0 refl refl;
      G = printed table.G _ _ worked.line_G.0 refl refl;
    }
