-- An old file through the calls: rewrite, then read and decide, or check. What a call gave is said by its own contract. `RewriteCallsKept.rewrite-calls`
-- proves it.
--
--   old_decision input allowance    what decide answers for the table that an old file means: the marked states, and no other, are forbidden
--   path_after input a path         a path buffer after that answer
--   Rewrites                       an old file that rewrite accepted, and the file that it put at the front of the output
--   RewriteCalls                   the new file has the answers that the old one had; what a call leaves in its output
use Rattle.std.specs.Prelude.{ℕ, ◌≤◌, ◌≡◌, cond, List, Result, eqb, length, take, drop}
use Rattle.basics.specs.Refusals.{refuse, refused, answered}
use Rattle.model.specs.Sets.{max_states}
use Rattle.model.specs.Tables.{Table}
use Rattle.model.specs.Rounds.{run}
use Rattle.model.specs.Paths.{smallest_path}
use Rattle.model.specs.Stores.{store_words}
use Rattle.model.specs.Contents.{old_form}
use Rattle.model.specs.Calls.{overwrite, max_allowance, release, Decision as Answer, decision_of, states_in, groups_in}
use Rattle.core_refusals.specs.declared.Refusal.{Refusal}
use Rattle.call_decide.specs.declared.Verdict.{Verdict}
use Rattle.call_decide.specs.DecideAnswers.{decided_of, CalledDecide}
use Rattle.file_writing.specs.WriteAnswers.{written_of}
use Rattle.file_reading.specs.declared.TableSize.{TableSize}
use Rattle.file_reading.specs.ReadAnswers.{read_of, CalledRead}
use Rattle.core_report.specs.Text.{report_text}
use Rattle.call_check.specs.CheckText.{zero_path, safe, unsafe, check_text, file_verdict}
use Rattle.theorems_rewriting.specs.Rewriting.{old_table, old_dialogue, new_file}
use Rattle.call_rewrite.specs.RewriteAnswers.{rewrite_grounds, CalledRewrite}

abbrev pub old_table_in : List ℕ → Table
old_table_in input = old_table (old_dialogue input)

abbrev pub old_decision : List ℕ → ℕ → Answer
old_decision input allowance = decision_of (old_table_in input) (run (old_table_in input) allowance)

abbrev pub path_after : List ℕ → Answer → List ℕ → List ℕ
path_after input a path = cond (eqb a.verdict 1) (overwrite (smallest_path (old_table_in input)) path) path

pub record Rewrites (input file : List ℕ) : Type 0 where
  pub before : List ℕ
  pub after : List ℕ
  pub written : Result ℕ Refusal
  pub bytes : ℕ
  pub called : CalledRewrite input before written after
  pub answer : written_of written ≡ answered bytes
  pub file-is : file ≡ take bytes after

pub record RewriteCalls : Type 0 where
  -- read accepts the new file, with n and g as they were
  pub read : (input file : List ℕ) (store : List ℕ) (r : Result TableSize Refusal) (store' : List ℕ)
      → Rewrites input file → CalledRead file 0 store r store' → store_words ≤ length store
      → read_of r ≡ answered (record { n = states_in input; g = groups_in old_form input })
  -- decide answers as before: verdict, count, invariant and path
  pub decide : (input file : List ℕ) (store : List ℕ) (r : Result TableSize Refusal) (store' : List ℕ) (allowance : ℕ) (path : List ℕ) (d : Result Verdict Refusal) (path' : List ℕ)
      → Rewrites input file → CalledRead file 0 store r store' → store_words ≤ length store
      → CalledDecide store' (states_in input) (groups_in old_form input) allowance path d path' → allowance ≤ max_allowance → max_states ≤ length path
      → (decided_of d ≡ answered (old_decision input allowance)) × (path' ≡ path_after input (old_decision input allowance) path)
  -- and check prints that
  pub check : (input file : List ℕ) → Rewrites input file
      → let a = old_decision input release in
      let n = states_in input in
      (check_text file 0 ≡ report_text n (groups_in old_form input) a (path_after input a zero_path))
      × (file_verdict file 0 ≡ cond (eqb a.verdict 0) (safe n) (unsafe n))
  -- no byte past the new file is touched
  pub past : (input before : List ℕ) (w : Result ℕ Refusal) (after : List ℕ) (l : ℕ) → CalledRewrite input before w after → written_of w ≡ answered l
      → (take l after ≡ new_file input) × (drop l after ≡ drop l before) × (length after ≡ length before)
  -- a refused call gives the number of the first ground that holds, and leaves the output as it was
  pub refusal : (input before : List ℕ) (w : Result ℕ Refusal) (after : List ℕ) (k : ℕ) → CalledRewrite input before w after → written_of w ≡ refused k
      → (k ≡ refuse (rewrite_grounds input (length before))) × (after ≡ before)
