-- The file of a load: what write makes of the store that generate filled.
--
--   made_file      where the load is not refused
--   made_refused   where it is
--   made_short     it is no longer than the largest
use Prim.Native.Nat.{ℕ, ◌≤◌}
use native.Mathlib.Omega.{arith}
use mathlib.Core.Path.{◌≡◌, refl, sym, ap, ap₂, ◌∙◌}
use mathlib.Core.Bool.{cond}
use Rattle.std.specs.Prelude.{Result, Ok, Err, IfOk}
use mathlib.Core.List.{List, []}
use lib.Dec.{eqb}
use lib.ListN.{length}
use Rattle.basics.specs.Bounds.{concat}
use Rattle.basics.specs.Refusals.{Ground, Answered, refused, unless_refused}
use Rattle.basics.proofs.BoundLaws.{length-tabulate}
use Rattle.basics.proofs.RefusalLaws.{clear_refuse, answer-refused, answer_clear, answered_clear, refused-is}
use Rattle.model.specs.Stores.{store_words, dialogue_of}
use Rattle.model.specs.Blocks.{blocks_for, block_of}
use Rattle.model.specs.Contents.{new_form}
use Rattle.model.specs.Files.{block_file, file_length, file_of, max_file}
use Rattle.model.specs.Calls.{overwrite, write_answer, write_buffer}
use Rattle.model.proofs.ContentLaws.{contents_cong}
use Rattle.model.proofs.FileLaws.{file_length-most}
use Rattle.model.proofs.RangesOfAnswers.{write_range}
use Rattle.file_writing.specs.WriteAnswers.{written_of}
use Rattle.core_refusals.specs.declared.Refusal.{Refusal}
use Rattle.core_refusals.specs.Refusals.{number}
use Rattle.core_refusals.proofs.RefusalNumbers.{number_some}
use Rattle.call_generate.specs.Load.{load_from, load, generate_grounds, generate_answer}
use Rattle.call_generate.specs.GenerateAnswers.{generated_of, CalledGenerate}
use Rattle.call_generate.proofs.GenerateAnswered.{accepted-load}
use Rattle.call_generate.proofs.LoadsKept.{loads}
use Rattle.program_generate.specs.LoadFile.{file_made, file_buffer}

module _ (seed n f : ℕ) (lent store : List ℕ) (r : Result (Unit {0}) Refusal) (called : CalledGenerate seed n f lent r store) (long : length lent ≡ store_words) where
  abbrev grounds : List Ground
  grounds = generate_grounds n f store_words

  -- what the call told of the store that it was lent
  told : generated_of r ≡ generate_answer n f store_words
  told = called.0 ∙ ap (generate_answer n f) long

  pub made_file : r ≡ Ok tt → (out : List ℕ) → max_file ≤ length out
      → (write_answer store n 0 0 (length out) ≡ file_made n f) × (write_buffer store n 0 0 out ≡ file_buffer seed n f out)
  unfolding generate_answer file_made file_buffer write_buffer file_of block_file dialogue_of load load_from
  made_file filled out room =
      let is = ap generated_of filled in
      let clear = answered_clear grounds tt (sym told ∙ is) in
      let held = accepted-load n f store_words (sym (clear_refuse grounds clear)) in
      let fits : file_length new_form n 0 ≤ length out = omega (arith, file_length-most new_form n 0 held.small (omega arith)) in
      let answers : write_answer store n 0 0 (length out) ≡ file_made n f =
      (loads.accepted seed n f lent r store called is).write 0 (length out) (omega arith) fits ∙ sym (answer_clear grounds (file_length new_form n 0) clear) in
      let same : file_of new_form 0 (dialogue_of store n 0) ≡ file_of new_form 0 (load seed n f) =
      ap (λ bytes. cond (eqb n 0) [] (concat (blocks_for (length bytes)) (block_of 0 bytes)))
      (contents_cong new_form (dialogue_of store n 0) (load seed n f) refl (length-tabulate _ 0) (loads.table seed n f lent r store called is)) in
      (answers, ap₂ (λ (x : Answered ℕ) (xs : List ℕ). unless_refused out (λ l. overwrite xs out) x) answers same)

  pub made_refused : (k : Refusal) (out : List ℕ) → r ≡ Err k → (refused (number k) ≡ file_made n f) × (out ≡ file_buffer seed n f out)
  unfolding generate_answer file_made file_buffer
  made_refused k out e =
      let no = refused-is grounds tt (sym told ∙ ap generated_of e) in
      let answers = answer-refused grounds (file_length new_form n 0) no (number_some k) in
      (sym answers, sym (ap (unless_refused out (λ (l : ℕ). overwrite (file_of new_form 0 (load seed n f)) out)) answers))

pub made_short : (store : List ℕ) (n g site room : ℕ) (r : Result ℕ Refusal) → written_of r ≡ write_answer store n g site room → IfOk r (λ l. l ≤ max_file)
made_short store n g site room (Ok l) e = write_range store n g site room (sym e)
made_short store n g site room (Err k) e = tt
