-- The proof of specs/RewriteCalls: the model's promises of the new file, by the contracts of the calls.
use Prim.Native.Nat.{ℕ, ◌≤◌}
use native.Mathlib.Nat.{le_refl, le_of_eq}
use mathlib.Core.Path.{◌≡◌, sym, ap, ◌∙◌, subst}
use mathlib.Core.List.{List}
use lib.ListN.{length, take, drop, length-replicate}
use Rattle.basics.specs.Refusals.{refuse, Answered, refused, answered, unless_refused}
use Rattle.basics.proofs.RefusalLaws.{clear_refuse, refuse_clear, answered_clear, refused-is}
use Rattle.model.specs.Sets.{max_states}
use Rattle.model.specs.Stores.{store_words}
use Rattle.model.specs.Contents.{old_form}
use Rattle.model.specs.Calls.{overwrite, release, Decision, TableRead, states_in, groups_in, read_grounds_as, read_answer, read_buffer, decide_answer, decide_buffer}
use Rattle.model.proofs.ListsInParts.{length-overwrite, take-overwrite, drop-overwrite}
use Rattle.model.proofs.CallLaws.{read-numbered}
use Rattle.std.specs.Prelude.{Result}
use Rattle.core_refusals.specs.declared.Refusal.{Refusal}
use Rattle.file_writing.specs.WriteAnswers.{written_of}
use Rattle.call_check.specs.CheckText.{zero_store, zero_path, and_then, check_table, release_check, text_for, verdict_for}
use Rattle.theorems_rewriting.specs.Rewriting.{OldFile, new_file}
use Rattle.theorems_rewriting.proofs.Rewritten.{rewriting}
use Rattle.call_rewrite.specs.RewriteAnswers.{rewrite_grounds, rewrite_answer, rewrite_buffer, CalledRewrite}
use Rattle.call_rewrite.proofs.RewriteAnswered.{answered_old}
use Rattle.theorems_calls.specs.RewriteCalls.{old_decision, path_after, Rewrites, RewriteCalls}

-- ---- what rewrite gave

module _ (input before : List ℕ) (w : Result ℕ Refusal) (after : List ℕ) (called : CalledRewrite input before w after) where
  module _ (l : ℕ) (e : written_of w ≡ answered l) where
    old_file : OldFile input
    unfolding rewrite_answer rewrite_grounds
    old_file =
        let grounds = rewrite_grounds input (length before) in
        let old = read_grounds_as old_form input 0 store_words in
        clear_refuse old (refuse_clear old _ (read-numbered old_form input 0 store_words) (clear_refuse grounds (answered_clear grounds _ (sym called.0 ∙ e)))).0

    past : (take l after ≡ new_file input) × (drop l after ≡ drop l before) × (length after ≡ length before)
    unfolding rewrite_buffer
    past =
        let given = sym called.0 ∙ e in
        let new = answered_old input (length before) given in
        let left = called.1 ∙ ap (unless_refused before (λ (l : ℕ). overwrite (new_file input) before)) given in (
          ap (take l) left ∙ take-overwrite (new_file input) before l (sym new.1),
          ap (drop l) left ∙ drop-overwrite (new_file input) before l (sym new.1),
          ap length left ∙ length-overwrite (new_file input) before (subst (λ (m : ℕ). m ≤ length before) new.1 new.2),
        )

  refusal : (k : ℕ) → written_of w ≡ refused k → (k ≡ refuse (rewrite_grounds input (length before))) × (after ≡ before)
  unfolding rewrite_answer rewrite_buffer
  refusal k e =
      let no = sym called.0 ∙ e in
      (refused-is (rewrite_grounds input (length before)) _ no, called.1 ∙ ap (unless_refused before (λ (l : ℕ). overwrite (new_file input) before)) no)

module _ (input file : List ℕ) (w : Rewrites input file) where
  file_old : OldFile input
  file_old = old_file input w.before w.written w.after w.called w.bytes w.answer

  file_new : file ≡ new_file input
  file_new = w.file-is ∙ (past input w.before w.written w.after w.called w.bytes w.answer).0

-- ---- its release check

module _ (input : List ℕ) (old : OldFile input) where
  store_long : store_words ≤ length zero_store
  store_long = le_of_eq (sym (length-replicate {A = ℕ} store_words 0))

  path-long : max_states ≤ length zero_path
  path-long = le_of_eq (sym (length-replicate {A = ℕ} max_states 0))

  read_zero : read_answer (new_file input) 0 store_words ≡ answered (record { n = states_in input; g = groups_in old_form input })
  read_zero = ap (read_answer (new_file input) 0) (sym (length-replicate {A = ℕ} store_words 0)) ∙ rewriting.accepted input zero_store old store_long

  checked : release_check (new_file input) 0
      ≡ answered
      (record {
        n = states_in input;
        g = groups_in old_form input;
        decision = old_decision input release;
        path = path_after input (old_decision input release) zero_path;
      })
  unfolding release_check check_table
  checked =
      let n = states_in input in
      let g = groups_in old_form input in
      let store = read_buffer (new_file input) 0 zero_store in
      let same = rewriting.decisions input zero_store old store_long in
      ap (λ (x : Answered TableRead). and_then x (λ (a : TableRead). check_table store a.n a.g)) read_zero
      ∙ ap (λ (x : Answered Decision). and_then x (λ (a : Decision). answered (record { n = n; g = g; decision = a; path = decide_buffer store n g release zero_path })))
      (same.answers release max_states (le_refl release) (le_refl max_states))
      ∙ ap (λ (p : List ℕ). answered (record { n = n; g = g; decision = old_decision input release; path = p }))
      (same.buffers release zero_path (le_refl release) path-long)

pub rewrite-calls : RewriteCalls
rewrite-calls =
    record {
      read = λ input file store r store' w c long.
          c.0
          ∙ ap (λ (f : List ℕ). read_answer f 0 (length store)) (file_new input file w)
          ∙ rewriting.accepted input store (file_old input file w) long;
      decide = λ input file store r store' allowance path d path' w c long called h l.
          let n = states_in input in
          let g = groups_in old_form input in
          let held = c.1 ∙ ap (λ (f : List ℕ). read_buffer f 0 store) (file_new input file w) in
          let same = rewriting.decisions input store (file_old input file w) long in (
            called.0 ∙ ap (λ (xs : List ℕ). decide_answer xs n g allowance (length path)) held ∙ same.answers allowance (length path) h l,
            called.1 ∙ ap (λ (xs : List ℕ). decide_buffer xs n g allowance path) held ∙ same.buffers allowance path h l,
          );
      check = λ input file w.
          let said = ap (λ (f : List ℕ). release_check f 0) (file_new input file w) ∙ checked input (file_old input file w) in
          (ap text_for said, ap verdict_for said);
      past = λ input before w after l called e. past input before w after called l e;
      refusal = λ input before w after k called e. refusal input before w after called k e;
    }
