-- Which text it is, from what the call gave.
--
--   text_done       it wrote the new file
--   text-refused    it is refused: by the old form, since the new file finds room
use Prim.Native.Nat.{ℕ, ◌≤◌}
use native.Mathlib.Omega.{arith}
use mathlib.Core.Path.{◌≡◌, sym, ap, ◌∙◌, subst}
use mathlib.Core.List.{List}
use lib.ListN.{length}
use Rattle.basics.specs.Refusals.{refused, answered, unless_refused}
use Rattle.model.specs.Files.{max_file}
use Rattle.model.specs.Calls.{overwrite, TableRead}
use Rattle.program_input.proofs.Counting.{counts}
use Rattle.core_report.specs.Text.{refused_text, text_of}
use Rattle.core_report.specs.Put.{Front}
use Rattle.theorems_rewriting.specs.Rewriting.{new_file}
use Rattle.call_rewrite.specs.RewriteAnswers.{rewrite_answer, rewrite_buffer}
use Rattle.call_rewrite.proofs.RewriteAnswered.{answered_old, refused_old}
use Rattle.program_rewrite.specs.RewriteText.{rewrite_text}

module _ (input before : List ℕ) {after : List ℕ} (b : after ≡ rewrite_buffer input before) where
  pub text_done : {l : ℕ} → answered l ≡ rewrite_answer input (length before) → length after ≡ length before → Front (rewrite_text input) before l after
  unfolding rewrite_text rewrite_buffer
  text_done {l} e same =
      let old = answered_old input (length before) (sym e) in
      let bytes : after ≡ overwrite (new_file input) before = b ∙ sym (ap (unless_refused before (λ (k : ℕ). overwrite (new_file input) before)) e) in
      let text : new_file input ≡ rewrite_text input = sym (ap (text_of (λ (a : TableRead). new_file input)) old.0) in
      subst (λ (xs : List ℕ). Front xs before l after) text
      (record { ends = old.1; bytes = bytes; within = counts l after (omega (arith, old.2, same)) })

  pub text-refused : {k end : ℕ} {text : List ℕ} → refused k ≡ rewrite_answer input (length before) → max_file ≤ length before
      → Front (refused_text k) after end text → Front (rewrite_text input) before end text
  unfolding rewrite_text rewrite_buffer
  text-refused {k} {end} {text} e room f =
      let old = refused_old input (length before) room (sym e) in
      let same : after ≡ before = b ∙ sym (ap (unless_refused before (λ (l : ℕ). overwrite (new_file input) before)) e) in
      let is : refused_text k ≡ rewrite_text input = sym (ap (text_of (λ (a : TableRead). new_file input)) old) in
      subst (λ (xs : List ℕ). Front xs before end text) is (subst (λ (xs : List ℕ). Front (refused_text k) xs end text) same f)
