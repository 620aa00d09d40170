-- The call `decide`: its refusals, and its answer from how the rounds ended.
--
--   accepted                                   what a check that is answered knows of its arguments
--   ended_is                                   what the rounds of a store's parts say of its table
--   refused-answer, safe-answer, unsafe-answer, undecided-answer     the contract of the call in each case
use Prim.Native.Nat.{ℕ, ◌≤◌}
use mathlib.Core.Path.{◌≡◌, refl, sym, ap, ◌∙◌}
use mathlib.Core.Bool.{true, cond}
use mathlib.Core.List.{List, []}
use borrow.Author.Tests.{ltb-false}
use lib.Dec.{eqb}
use lib.ListN.{length}
use Rattle.model.specs.Sets.{max_states, Set, size}
use Rattle.model.specs.Tables.{Table}
use Rattle.model.specs.Rounds.{Outcome, safe, unsafe, undecided, run}
use Rattle.model.specs.Paths.{shortest, has_path, smallest_path}
use Rattle.basics.specs.Refusals.{refuse, Answered, answered, unless_refused}
use Rattle.model.specs.Stores.{set_at, table_of}
use Rattle.model.specs.Calls.{overwrite, Decision as Answer, decide_limits, decide_grounds, decision_of, decide_answer, decide_buffer}
use Rattle.basics.proofs.RefusalLaws.{refuse_clear, answer-none}
use Rattle.model.proofs.StoresAccepted.{Store, accepted_store, well_formed}
use Rattle.model.proofs.RoundLaws.{unsafe-path}
use Rattle.model.proofs.PathLaws.{has_path_lem}
use Rattle.std.specs.Prelude.{Option, Result, Ok, Err}
use Rattle.std.specs.Option.{unwrap_or}
use Rattle.core_refusals.specs.declared.Refusal.{Refusal}
use Rattle.core_refusals.specs.Refusals.{number}
use Rattle.core_refusals.proofs.RefusalNumbers.{answer_refused}
use Rattle.core_state_set.specs.declared.StateSet.{StateSet}
use Rattle.core_rows.specs.Rows.{rows_of, groups_of, groups_in, table_on}
use Rattle.call_paths.specs.PathAnswers.{found_in, path_written}
use Rattle.call_paths.proofs.Groups.{store_table_lem}
use Rattle.call_decide.specs.declared.Verdict.{Verdict}
use Rattle.call_decide.specs.declared.Verdict.TheVariants.{Safe, Unsafe, Undecided}
use Rattle.call_decide.specs.DecideAnswers.{answer_in, CalledDecide}

-- ---- refusals

module _ (store : List ℕ) (n g allowance room : ℕ) where
  pub accepted : 0 ≡ refuse (decide_grounds store n g allowance room) → Store store n g × (max_states ≤ room)
  unfolding decide_grounds
  accepted e =
      let parts = accepted_store store n g (decide_limits allowance room) (sym e) in
      (parts.0, ltb-false room max_states (refuse_clear (decide_limits allowance room) [] refl parts.1).0.1.0)

-- ---- answers

-- what `run` ensures of the parts of a store (f and i: what the calls of `forbidden` and of `set_at` gave)
pub ended_is : (store : List ℕ) (n g allowance : ℕ) {F I : Set} {o : Outcome} → F ≡ (table_of store n 0).forbidden → I ≡ set_at store 0
    → o ≡ run (table_on n I F (groups_in (groups_of store) g) (rows_of store)) allowance → o ≡ run (table_of store n g) allowance
ended_is store n g allowance f i e = e ∙ ap (λ (t : Table). run t allowance) (store_table_lem store n g f i)

module _ (store : List ℕ) (n g allowance : ℕ) (path : List ℕ) where
  abbrev pub Gives : Result Verdict Refusal → List ℕ → Type 0
  Gives = CalledDecide store n g allowance path

  abbrev left : Answered Answer → List ℕ
  left = unless_refused path (λ (a : Answer). cond (eqb a.verdict 1) (overwrite (smallest_path (table_of store n g)) path) path)

  -- the buffer follows from the numbers
  gives : (v : Verdict) → answered (answer_in v) ≡ decide_answer store n g allowance (length path) → Gives (Ok v) (left (answered (answer_in v)))
  unfolding decide_buffer
  gives v q = (q, ap left q)

  pub refused-answer : (r : Refusal) → number r ≡ refuse (decide_grounds store n g allowance (length path)) → Gives (Err r) path
  unfolding decide_answer decide_buffer
  refused-answer r e = let q = answer_refused answer_in (decide_grounds store n g allowance (length path)) _ r e in (q, ap left q)

  module _ (e : 0 ≡ refuse (decide_grounds store n g allowance (length path))) where
    decided-answer : {o : Outcome} → o ≡ run (table_of store n g) allowance
        → answered (decision_of (table_of store n g) o) ≡ decide_answer store n g allowance (length path)
    unfolding decide_answer decide_grounds
    decided-answer q =
        ap (λ (o : Outcome). answered (decision_of (table_of store n g) o)) q
        ∙ sym (answer-none (decide_grounds store n g allowance (length path)) _ refl (sym e))

    pub safe-answer : {i m : ℕ} {X : StateSet} → safe i X.words ≡ run (table_of store n g) allowance → m ≡ size X.words → Gives (Ok (Safe i X m)) path
    unfolding decision_of
    safe-answer {i} {X = X} q h = gives (Safe i X _) (ap (λ (m : ℕ). answered (answer_in (Safe i X m))) h ∙ decided-answer q)

    pub undecided-answer : {i : ℕ} → undecided i ≡ run (table_of store n g) allowance → Gives (Ok (Undecided i)) path
    unfolding decision_of
    undecided-answer {i} q = gives (Undecided i) (decided-answer q)

    -- an unsafe check has a path, and finds it
    path-found : {i : ℕ} → unsafe i ≡ run (table_of store n g) allowance → has_path (table_of store n g) ≡ true
    path-found q =
        let ok = well_formed store n g (accepted store n g allowance (length path) e).0 in
        let w = unsafe-path (table_of store n g) ok allowance (sym q) in
        has_path_lem ok w.0 w.1

    pub unsafe-answer : {i d : ℕ} {found : Option ℕ} {after : List ℕ} → unsafe i ≡ run (table_of store n g) allowance
        → (found ≡ found_in (table_of store n g)) × (after ≡ path_written (table_of store n g) path) → d ≡ unwrap_or found 0
        → Gives (Ok (Unsafe i d)) after
    unfolding decision_of found_in path_written
    unsafe-answer {i} {d} q f h =
        let p = path-found q in
        let steps : d ≡ shortest (table_of store n g) = rw (h, f.0, found_in, p) in
        let all = gives (Unsafe i d) (ap (λ (m : ℕ). answered (answer_in (Unsafe i m))) steps ∙ decided-answer q) in
        (all.0, rw (f.1, path_written, p) all.1)
