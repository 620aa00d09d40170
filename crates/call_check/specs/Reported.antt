-- What the text and the verdict of a file say of its table; `ReportedKept.reported` proves it.
--
--   file_table input site a      the table in a file that read accepts with the answer a
--   NoPath t, SomePath t        no path leads from an initial to a forbidden state; some path does
--   SafeReport, UnsafeReport    the two reports of decide's answer d, each with its verdict and what it says of the table
--   after_line text              what stands after the first line of a text
--   Reported                    of every list of bytes and every site
use Rattle.std.specs.Prelude.{ℕ, ◌≤◌, ◌<◌, ◌≡◌, ◌⊎◌, true, false, cond, List, [], ◌∷◌, ◌++◌, eqb, length, take, drop, Result}
use Prim.Native.Char.{code}
use Rattle.basics.specs.Refusals.{refuse, refused, answered}
use Rattle.model.specs.Sets.{max_states}
use Rattle.model.specs.Tables.{Table}
use Rattle.model.specs.Paths.{is_path}
use Rattle.model.specs.Stores.{store_words, table_of}
use Rattle.model.specs.Blocks.{max_site}
use Rattle.model.specs.Files.{max_file}
use Rattle.model.specs.Calls.{release, Decision, decide_answer, TableRead, read_answer, read_buffer}
use Rattle.model.specs.Promises.{IsInvariant, IsSmallest}
use Rattle.core_report.specs.Text.{ascii, verdict_line, invariant_line, path_line, safe_text, unsafe_text, refused_text}
use Rattle.core_refusals.specs.declared.Refusal.{Refusal}
use Rattle.call_check.specs.declared.Checked.{Checked}
use Rattle.call_check.specs.CheckText.{zero_store, safe, unsafe, refused_file, check_text, file_verdict}
use Rattle.call_check.specs.CheckAnswers.{CheckedFile, check_grounds, checked_of, CalledCheck}

abbrev pub file_table : List ℕ → ℕ → TableRead → Table
file_table input site a = table_of (read_buffer input site zero_store) a.n a.g

abbrev pub NoPath : Table → Type 0
NoPath t = (xs : List ℕ) → is_path t xs ≡ false

abbrev pub SomePath : Table → Type 0
SomePath t = (xs : List ℕ) × (is_path t xs ≡ true)

unfoldable pub after_line : List ℕ → List ℕ
after_line [] = []
after_line (x ∷ xs) = cond (eqb x (code "\n")) xs (after_line xs)

pub record SafeReport (input : List ℕ) (site : ℕ) (a : TableRead) (d : Decision) : Type 0 where
  pub none : NoPath (file_table input site a)
  pub verdict : file_verdict input site ≡ safe a.n
  pub holds : IsInvariant (file_table input site a) d.invariant
  pub text : check_text input site ≡ safe_text a.n a.g d.count d.invariant
  pub second_line : after_line (check_text input site) ≡ verdict_line (ascii "safe") d.count ++ invariant_line d.invariant

pub record UnsafeReport (input : List ℕ) (site : ℕ) (a : TableRead) (d : Decision) : Type 0 where
  pub verdict : file_verdict input site ≡ unsafe a.n
  pub path : List ℕ
  pub smallest : IsSmallest (file_table input site a) path
  pub text : check_text input site ≡ unsafe_text a.n a.g d.count path
  pub second_line : after_line (check_text input site) ≡ verdict_line (ascii "unsafe") d.count ++ path_line path

pub record Reported : Type 0 where
  -- of a file that read accepts one of the two reports is printed, so safe exactly where there is no path; no refusal, and never undecided
  pub decided : (input : List ℕ) (site : ℕ) (a : TableRead) → read_answer input site store_words ≡ answered a
      → (d : Decision) × (decide_answer (read_buffer input site zero_store) a.n a.g release max_states ≡ answered d)
      × (SafeReport input site a d ⊎ UnsafeReport input site a d)
  -- of any other the refusal
  pub refusal : (input : List ℕ) (site k : ℕ) → read_answer input site store_words ≡ refused k
      → (check_text input site ≡ refused_text k) × (file_verdict input site ≡ refused_file k)
  -- whatever the bytes are: where line 2 begins with the word safe, they are a file of this site, and there is no path in its table
  pub safe_line : (input : List ℕ) (site : ℕ) → take 5 (after_line (check_text input site)) ≡ ascii "safe "
      → (a : TableRead) × (read_answer input site store_words ≡ answered a) × NoPath (file_table input site a)
  -- with the word unsafe: they are such a file, and there is a path
  pub unsafe_line : (input : List ℕ) (site : ℕ) → take 7 (after_line (check_text input site)) ≡ ascii "unsafe "
      → (a : TableRead) × (read_answer input site store_words ≡ answered a) × SomePath (file_table input site a)
  -- where line 1 begins with the word refused: read refuses them, and the text says with which number
  pub refused_line : (input : List ℕ) (site : ℕ) → take 8 (check_text input site) ≡ ascii "refused "
      → (k : ℕ) × (read_answer input site store_words ≡ refused k) × (check_text input site ≡ refused_text k)
  -- the same of the call that says safe, unsafe or a refused file; n is that of the table
  pub safe_call : (input : List ℕ) (site : ℕ) (before : List ℕ) (r : Result Checked Refusal) (after : List ℕ) (l n : ℕ)
      → CalledCheck input site before r after → checked_of r ≡ answered (record { text_length = l; verdict = safe n })
      → (a : TableRead) × (read_answer input site store_words ≡ answered a) × (n ≡ a.n) × NoPath (file_table input site a)
  pub unsafe_call : (input : List ℕ) (site : ℕ) (before : List ℕ) (r : Result Checked Refusal) (after : List ℕ) (l n : ℕ)
      → CalledCheck input site before r after → checked_of r ≡ answered (record { text_length = l; verdict = unsafe n })
      → (a : TableRead) × (read_answer input site store_words ≡ answered a) × (n ≡ a.n) × SomePath (file_table input site a)
  pub refused-file_call : (input : List ℕ) (site : ℕ) (before : List ℕ) (r : Result Checked Refusal) (after : List ℕ) (l k : ℕ)
      → CalledCheck input site before r after → checked_of r ≡ answered (record { text_length = l; verdict = refused_file k })
      → read_answer input site store_words ≡ refused k
  -- the text stands at the front of the output, as long as the answer says, and no byte past it is touched
  pub past : (input : List ℕ) (site : ℕ) (before : List ℕ) (r : Result Checked Refusal) (after : List ℕ) (f : CheckedFile)
      → CalledCheck input site before r after → checked_of r ≡ answered f
      → (length (check_text input site) ≡ f.text_length) × (take f.text_length after ≡ check_text input site)
      × (drop f.text_length after ≡ drop f.text_length before)
  -- a call that is refused is so for its site or its output, and leaves the output as it was
  pub refused_call : (input : List ℕ) (site : ℕ) (before : List ℕ) (r : Result Checked Refusal) (after : List ℕ) (k : ℕ)
      → CalledCheck input site before r after → checked_of r ≡ refused k
      → (k ≡ refuse (check_grounds site (length before))) × (after ≡ before)
  -- an untouched draft
  pub draft : (site : ℕ) → site ≤ max_site → check_text [] site ≡ ascii "states 0 groups 0\nsafe refinements 0\ninvariant 0: none\n"
  -- a file longer than the largest, and so its part that fills the room into which `program_check` reads (`program_input::input_room`)
  pub longer : (input : List ℕ) (site : ℕ) → site ≤ max_site → max_file < length input → check_text input site ≡ refused_text 11
