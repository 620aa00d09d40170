-- The release check of a file: what is printed for it, and the verdict (the specification, "The program").
--
--   zero_store, zero_path         the store and the path buffer that the call lends, all 0
--   ReleaseCheck                n and g of a table, decide's answer, and the path buffer as decide left it
--   and_then x f                 the next call, with the answer of the one before, whose refusal is passed on
--   check_table store n g        the release check of the table that a store holds
--   release_check input site     that of the table in a file
--   text_for, verdict_for         what is printed for a check, and its verdict
--   check_text, file_verdict      the same of a file
use Rattle.std.specs.Prelude.{ℕ, cond, List, eqb, replicate}
use Rattle.basics.specs.Refusals.{Answered, refused, answered}
use Rattle.model.specs.Sets.{max_states}
use Rattle.model.specs.Stores.{store_words}
use Rattle.model.specs.Calls.{release, Decision, decide_answer, decide_buffer, read_answer, read_buffer}
use Rattle.core_report.specs.Text.{report_text, text_of}

abbrev pub zero_store : List ℕ
zero_store = replicate store_words 0

abbrev pub zero_path : List ℕ
zero_path = replicate max_states 0

pub record ReleaseCheck : Type 0 where
  pub n : ℕ
  pub g : ℕ
  pub decision : Decision
  pub path : List ℕ

abbrev pub and_then : {A B : Type 0} → Answered A → (A → Answered B) → Answered B
and_then (refused k) f = refused k
and_then (answered a) f = f a

unfoldable pub check_table : List ℕ → ℕ → ℕ → Answered ReleaseCheck
check_table store n g =
    and_then (decide_answer store n g release max_states)
    (λ a. answered (record { n = n; g = g; decision = a; path = decide_buffer store n g release zero_path }))

unfoldable pub release_check : List ℕ → ℕ → Answered ReleaseCheck
release_check input site =
    and_then (read_answer input site store_words) (λ a. check_table (read_buffer input site zero_store) a.n a.g)

abbrev pub text_for : Answered ReleaseCheck → List ℕ
text_for = text_of (λ c. report_text c.n c.g c.decision c.path)

-- Safe and unsafe with n, a refused file with its number.
pub data FileVerdict : Type 0 where
  safe : ℕ → FileVerdict
  unsafe : ℕ → FileVerdict
  refused_file : ℕ → FileVerdict

-- Whatever is not safe is unsafe, so undecided too, which a release check never is.
abbrev pub verdict_for : Answered ReleaseCheck → FileVerdict
verdict_for (refused k) = refused_file k
verdict_for (answered c) = cond (eqb c.decision.verdict 0) (safe c.n) (unsafe c.n)

abbrev pub check_text : List ℕ → ℕ → List ℕ
check_text input site = text_for (release_check input site)

abbrev pub file_verdict : List ℕ → ℕ → FileVerdict
file_verdict input site = verdict_for (release_check input site)
