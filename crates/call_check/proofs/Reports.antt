-- What the call gives, from what its own calls gave.
--
--   told                             decide's answer, by the case that it gave
--   report_range                     what a report asks of the numbers of a release check
--   safe_reported, unsafe_reported, undecided_reported, refused_reported
--                                    check_table: the text and the verdict for each of decide's cases
--   file-refused, file-read          check: read refuses the file, or reads it
--   site_refused, room-refused       a ground of the call's own holds; called: none does
use Prim.Native.Nat.{ℕ, ◌+◌, ◌≤◌, ◌<◌}
use native.Mathlib.Omega.{arith}
use mathlib.Core.Path.{◌≡◌, refl, sym, ap, ◌∙◌, subst}
use mathlib.Core.List.{List}
use borrow.Author.Tests.{ltb-true, lt-ltb, le-ltb}
use lib.ListN.{length, take}
use Rattle.std.specs.Prelude.{Result, Ok, Err}
use Rattle.basics.specs.Refusals.{refuse, Answered, refused, answered, unless_refused}
use Rattle.basics.proofs.RefusalLaws.{refuse-first, answer-refused, answer_clear}
use Rattle.model.specs.Sets.{max_states}
use Rattle.model.specs.Tables.{Table}
use Rattle.model.specs.Rounds.{Outcome, safe, unsafe, undecided, run}
use Rattle.model.specs.Paths.{shortest, has_path}
use Rattle.model.specs.Stores.{max_groups, store_words, table_of}
use Rattle.model.specs.Blocks.{max_site}
use Rattle.model.specs.Calls.{overwrite, release, Decision, decision_of, decide_answer, decide_buffer, read_answer, read_buffer}
use Rattle.model.specs.WellFormed.{WellFormed}
use Rattle.model.proofs.RoundLaws.{unsafe-path}
use Rattle.model.proofs.PathLaws.{has_path_lem}
use Rattle.model.proofs.StoresAccepted.{well_formed, check_of_lem}
use Rattle.model.proofs.RangesOfAnswers.{decide_range}
use Rattle.call_decide.specs.declared.Verdict.{Verdict}
use Rattle.call_decide.specs.declared.Verdict.TheVariants as verdict
use Rattle.call_decide.specs.DecideAnswers.{decided_of}
use Rattle.core_refusals.specs.declared.Refusal.{Refusal}
use Rattle.core_refusals.specs.declared.Refusal.TheVariants.{Site, OutputShort}
use Rattle.core_refusals.specs.Refusals.{number}
use Rattle.core_state_set.specs.declared.StateSet.{StateSet}
use Rattle.core_report.specs.Text.{safe_text, unsafe_text, undecided_text, report_text, refused_text}
use Rattle.core_report.specs.Put.{text_room, Front}
use Rattle.call_check.specs.declared.FileVerdict.TheVariants as file
use Rattle.call_check.specs.CheckText.{zero_store, zero_path, check_table, release_check, FileVerdict, check_text}
use Rattle.call_check.specs.CheckText as check
use Rattle.call_check.specs.CheckAnswers.{CheckedFile, checked_file, check_grounds, check_answer, check_buffer, checked_of, Reports, CalledCheck}

-- ---- check_table

-- a path has fewer steps than there can be states
steps-few : (t : Table) → WellFormed t → t.n ≤ max_states → (o : Outcome) → run t release ≡ o → (decision_of t o).steps < max_states
unfolding decision_of has_path
steps-few t w h (safe i R) q = omega arith
steps-few t w h (unsafe i) q =
    let path = unsafe-path t w release q in
    omega (arith, ltb-true (shortest t) t.n (has_path_lem w path.0 path.1))
steps-few t w h (undecided i) q = omega arith

length_is : (v : FileVerdict) {l m : ℕ} → l ≡ m → ◌≡◌ {A = Answered CheckedFile} (answered (record { text_length = l; verdict = v })) (answered (record { text_length = m; verdict = v }))
length_is v e = ap (λ (k : ℕ). answered (record { text_length = k; verdict = v })) e

-- decide's answer, by the case that it gave
pub told : {r : Result Verdict Refusal} {v w : Verdict} {x : Answered Decision} → r ≡ Ok v → v ≡ w → decided_of r ≡ x → decided_of (Ok w) ≡ x
told e f d = sym (ap decided_of (e ∙ ap Ok f)) ∙ d

module _ (store : List ℕ) (n g : ℕ) where
  pub report_range : {a : Decision} → answered a ≡ decide_answer store n g release max_states
      → (n ≤ max_states) × (g ≤ max_groups) × (a.count ≤ release) × (a.steps < max_states)
  unfolding table_of
  report_range {a} e =
      let checked = check_of_lem store n g release max_states (sym e) in
      let held = checked.held in
      let t = table_of store n g in
      let steps =
      subst (λ (b : Decision). b.steps < max_states) (sym checked.answer)
      (steps-few t (well_formed store n g held) held.small (run t release) refl) in
      (held.small, held.few, (decide_range store n g release max_states (sym e)).count, steps)

  module _ {before after : List ℕ} {end : ℕ} where
    pub safe_reported : {i k : ℕ} {X : StateSet} → decided_of (Ok (verdict.Safe i X k)) ≡ decide_answer store n g release max_states
        → Front (safe_text n g i X.words) before end after
        → Reports (check_table store n g) before (checked_of (Ok (record { length = end; verdict = file.Safe n }))) after
    unfolding check_table report_text
    safe_reported e f = rw (← e) (length_is (check.safe n) f.ends, f.bytes)

    pub unsafe_reported : {i d : ℕ} {path : List ℕ} → decided_of (Ok (verdict.Unsafe i d)) ≡ decide_answer store n g release max_states
        → path ≡ decide_buffer store n g release zero_path
        → Front (unsafe_text n g i (take (d + 1) path)) before end after
        → Reports (check_table store n g) before (checked_of (Ok (record { length = end; verdict = file.Unsafe n }))) after
    unfolding check_table report_text
    unsafe_reported e p f = rw (← e, ← p) (length_is (check.unsafe n) f.ends, f.bytes)

    pub undecided_reported : {i : ℕ} → decided_of (Ok (verdict.Undecided i)) ≡ decide_answer store n g release max_states
        → Front (undecided_text n g i) before end after
        → Reports (check_table store n g) before (checked_of (Ok (record { length = end; verdict = file.Unsafe n }))) after
    unfolding check_table report_text
    undecided_reported e f = rw (← e) (length_is (check.unsafe n) f.ends, f.bytes)

  pub refused_reported : (before after : List ℕ) {k : ℕ} {r : Answered CheckedFile} → refused k ≡ decide_answer store n g release max_states
      → Reports (refused k) before r after → Reports (check_table store n g) before r after
  unfolding check_table
  refused_reported before after e f = rw (← e) f

-- ---- refused_file

pub refused_told : (r : Refusal) {before after : List ℕ} {end : ℕ} → Front (refused_text (number r)) before end after
    → Reports (refused (number r)) before (checked_of (Ok (record { length = end; verdict = file.Refused r }))) after
refused_told r f = (length_is (check.refused_file (number r)) f.ends, f.bytes)

-- ---- check

module _ (input : List ℕ) (site : ℕ) (before : List ℕ) {after : List ℕ} where
  pub file-refused : {k : ℕ} {r : Answered CheckedFile} → refused k ≡ read_answer input site store_words
      → Reports (refused k) before r after → Reports (release_check input site) before r after
  unfolding release_check
  file-refused e f = rw (← e) f

  pub file-read : {n g : ℕ} {store : List ℕ} {r : Answered CheckedFile} → answered (record { n = n; g = g }) ≡ read_answer input site store_words
      → store ≡ read_buffer input site zero_store
      → Reports (check_table store n g) before r after → Reports (release_check input site) before r after
  unfolding release_check
  file-read e s f = rw (← e, ← s) f

  pub called : {r : Answered CheckedFile} → site ≤ max_site → text_room ≤ length before
      → Reports (release_check input site) before r after → (r ≡ check_answer input site (length before)) × (after ≡ check_buffer input site before)
  unfolding check_answer check_buffer
  called known roomy f =
      let grounds = check_grounds site (length before) in
      let clear = answer_clear grounds (checked_file (release_check input site)) (le-ltb max_site site known, (le-ltb (length before) text_room roomy, tt)) in
      (f.0 ∙ sym clear, f.1 ∙ sym (ap (unless_refused before (λ (a : CheckedFile). overwrite (check_text input site) before)) clear))

module _ (input : List ℕ) (site : ℕ) (before : List ℕ) where
  call_refused : (r : Refusal) → number r ≡ refuse (check_grounds site (length before)) → (number r ≡ 0 → ⊥) → CalledCheck input site before (Err r) before
  unfolding check_answer check_buffer
  call_refused r e some =
      let no = answer-refused (check_grounds site (length before)) (checked_file (release_check input site)) e some in
      (sym no, sym (ap (unless_refused before (λ (a : CheckedFile). overwrite (check_text input site) before)) no))

  pub site_refused : max_site < site → CalledCheck input site before (Err Site) before
  site_refused h = call_refused Site (refuse-first 0 _ (lt-ltb max_site site h)) (λ e. omega arith)

  pub room-refused : site ≤ max_site → length before < text_room → CalledCheck input site before (Err OutputShort) before
  room-refused known h =
      call_refused OutputShort (refuse-first 1 _ (le-ltb max_site site known, lt-ltb (length before) text_room h)) (λ e. omega arith)
