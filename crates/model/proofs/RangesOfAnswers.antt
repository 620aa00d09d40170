-- How large the numbers in an answer can be: for the casts of the calls exported to C, and for the text of a report.
--
--   DecisionRange, run_range         the count, size and d of a check of a table; decide_range: of decide
--   shortest_range          shortest path's d
--   ReadRange, read_range   read's n and g
--   write_range             write's length
use Prim.Native.Nat.{ℕ, ◌≤◌}
use native.Mathlib.Omega.{arith}
use mathlib.Core.Path.{◌≡◌, sym, subst}
use mathlib.Core.Logic.{⊎_elim}
use mathlib.Core.Bool.{Bool, true, false}
use mathlib.Core.List.{List}
use Rattle.model.specs.Sets.{max_states, meets}
use Rattle.model.specs.Tables.{Table}
use Rattle.model.specs.Rounds.{Outcome, safe, unsafe, undecided, run}
use Rattle.model.specs.Paths.{reaching, shortest, has_path}
use Rattle.basics.specs.Refusals.{answered}
use Rattle.model.specs.Stores.{max_groups, table_of}
use Rattle.model.specs.Contents.{new_form}
use Rattle.model.specs.Files.{max_file}
use Rattle.model.specs.Calls.{Decision, max_allowance, decision_of, decide_answer, Shortest, path_found, shortest_grounds, shortest_answer, TableRead, read_answer, write_answer}
use Rattle.basics.proofs.BoundLaws.{first_le}
use Rattle.basics.proofs.RefusalLaws.{clear_refuse, answered_clear, answered_value}
use Rattle.model.proofs.SetsCounted.{size-most}
use Rattle.model.proofs.Fixpoints.{backward-is}
use Rattle.model.proofs.RoundLaws.{count_of, count-backward}
use Rattle.model.proofs.FileLaws.{file_length-most}
use Rattle.model.proofs.CallLaws.{written, read_none, readable, draft-says}
use Rattle.model.proofs.StoresAccepted.{accepted_store, check_of_lem}

-- ---- decide and shortest path

pub record DecisionRange (a : Decision) : Type 0 where
  pub count : a.count ≤ max_allowance
  pub size : a.size ≤ max_states
  pub steps : a.steps ≤ max_states

shortest_le : (t : Table) → t.n ≤ max_states → shortest t ≤ max_states
unfolding shortest
shortest_le t h = omega (arith, first_le (λ k. meets t.initial (reaching t k)) t.n)

outcome_range : (t : Table) → t.n ≤ max_states → (o : Outcome) → count_of o ≤ max_allowance → DecisionRange (decision_of t o)
unfolding decision_of
outcome_range t h (safe i X) c = record { count = c; size = size-most X; steps = omega arith }
outcome_range t h (unsafe i) c = record { count = c; size = omega arith; steps = shortest_le t h }
outcome_range t h (undecided i) c = record { count = c; size = omega arith; steps = omega arith }

pub run_range : (t : Table) → t.n ≤ max_states → (allowance : ℕ) → DecisionRange (decision_of t (run t allowance))
run_range t small allowance =
    outcome_range t small (run t allowance) (omega (arith, count-backward t allowance, (backward-is t).bounded, small))

pub decide_range : (store : List ℕ) (n g allowance room : ℕ) {a : Decision} → decide_answer store n g allowance room ≡ answered a → DecisionRange a
unfolding table_of
decide_range store n g allowance room e =
    let check = check_of_lem store n g allowance room e in
    subst DecisionRange (sym check.answer) (run_range (table_of store n g) check.held.small allowance)

found_range : (t : Table) (b : Bool) → t.n ≤ max_states → (path_found t b).steps ≤ max_states
found_range t true h = shortest_le t h
found_range t false h = omega arith

pub shortest_range : (store : List ℕ) (n g room : ℕ) {a : Shortest} → shortest_answer store n g room ≡ answered a → a.steps ≤ max_states
unfolding shortest_answer shortest_grounds table_of
shortest_range store n g room e =
    let grounds = shortest_grounds store n g room in
    let t = table_of store n g in
    let held = (accepted_store store n g _ (clear_refuse grounds (answered_clear grounds _ e))).0 in
    subst (λ (a : Shortest). a.steps ≤ max_states) (sym (answered_value grounds _ e)) (found_range t (has_path t) held.small)

-- ---- read and write

pub record ReadRange (a : TableRead) : Type 0 where
  pub n : a.n ≤ max_states
  pub g : a.g ≤ max_groups

pub read_range : (input : List ℕ) (site room : ℕ) {a : TableRead} → read_answer input site room ≡ answered a → ReadRange a
read_range input site room e =
    let says = read_none new_form input site room e in
    subst ReadRange (sym says.1)
    (⊎_elim
    (λ none. let draft = draft-says new_form input none in record { n = omega (arith, draft.0); g = omega (arith, draft.1) })
    (λ r. record { n = r.small; g = r.few })
    (readable new_form input site room says.0).2)

pub write_range : (store : List ℕ) (n g site room : ℕ) {l : ℕ} → write_answer store n g site room ≡ answered l → l ≤ max_file
write_range store n g site room e =
    let w = written store n g site room e in
    omega (arith, w.1, file_length-most new_form n g w.0.held.small w.0.held.few)
