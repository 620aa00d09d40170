-- What the call gave, in a buffer that holds any text, for site 0.
--
--   text_put         the text of the file, at the front
--   never-refused    and no refusal
use Prim.Native.Nat.{ℕ, ◌≤◌}
use native.Mathlib.Omega.{arith}
use mathlib.Core.Path.{◌≡◌, sym, ap, ◌∙◌}
use mathlib.Core.List.{List}
use borrow.Author.Tests.{le-ltb}
use lib.ListN.{length, drop, length-append}
use Rattle.basics.specs.Refusals.{refused, answered, unless_refused}
use Rattle.basics.proofs.RefusalLaws.{answer_clear, answered-is, answered_not_refused}
use Rattle.model.specs.Blocks.{max_site}
use Rattle.model.specs.Calls.{overwrite}
use Rattle.core_report.specs.Put.{text_room, Front}
use Rattle.call_check.specs.CheckText.{release_check, FileVerdict, check_text}
use Rattle.call_check.specs.CheckAnswers.{CheckedFile, checked_file, check_grounds, check_answer, check_buffer}
use Rattle.program_input.proofs.Counting.{counts}

clear : (input : List ℕ) (room : ℕ) → text_room ≤ room → check_answer input 0 room ≡ answered (checked_file (release_check input 0))
unfolding check_answer
clear input room roomy = answer_clear (check_grounds 0 room) _ (le-ltb max_site 0 (omega arith), (le-ltb room text_room roomy, tt))

pub text_put : (input before : List ℕ) {after : List ℕ} {l : ℕ} {v : FileVerdict} → text_room ≤ length before
    → answered (record { text_length = l; verdict = v }) ≡ check_answer input 0 (length before)
    → after ≡ check_buffer input 0 before → length after ≡ length before → Front (check_text input 0) before l after
unfolding check_buffer overwrite
text_put input before {after} {l} roomy e b same =
    let text = check_text input 0 in
    let given = clear input (length before) roomy in
    let ends : l ≡ length text = ap (λ (c : CheckedFile). c.text_length) (answered-is (e ∙ given)) in
    let bytes : after ≡ overwrite text before = b ∙ ap (unless_refused before (λ (c : CheckedFile). overwrite text before)) given in
    record {
      ends = ends;
      bytes = bytes;
      within = counts l after (omega (arith, ends, ap length bytes, length-append text (drop (length text) before)));
    }

pub never-refused : (input : List ℕ) {k room : ℕ} → refused k ≡ check_answer input 0 room → text_room ≤ room → ⊥
never-refused input {k} {room} e roomy = answered_not_refused (sym (e ∙ clear input room roomy))
