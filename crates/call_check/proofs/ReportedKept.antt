-- The proof of specs/Reported.
--
--   file-held       the store that read leaves holds a table
--   file-decided    so that a release check of it is answered; file_checked: and is that of the file
--   file_report     and says safe or unsafe; file-refusal: of a file that read refuses
--   by_file         a file is safe, unsafe or refused; so each word, and each verdict, says which (WORD-line, WORD-verdict)
--   call_says       what a call that is answered gave; call_past: and left past its text
--   reported        specs/Reported
use Prim.Native.Nat.{ℕ, suc, ◌≤◌, ◌<◌}
use native.Mathlib.Numerals.{add-one}
use native.Mathlib.Omega.{arith}
use mathlib.Core.Path.{◌≡◌, refl, sym, ap, ◌∙◌, subst}
use mathlib.Core.Logic.{◌⊎◌, inl, inr, ⊎_elim}
use mathlib.Core.Bool.{cond, or-true}
use mathlib.Core.List.{List, []}
use borrow.Author.Tests.{lt-ltb, le-ltb, ne_eqb}
use lib.Dec.{eqb}
use lib.ListN.{length, get_or, take, drop}
use Rattle.std.specs.Prelude.{Result}
use Rattle.basics.specs.Bounds.{tabulate, filter}
use Rattle.basics.specs.Refusals.{refuse, Answered, refused, answered, unless_refused}
use Rattle.basics.proofs.BoundLaws.{is_false}
use Rattle.basics.proofs.RefusalLaws.{answer-none, answered_value, refused-is}
use Rattle.model.specs.Sets.{max_states, bit, member, number, set_of, empty, members, size}
use Rattle.model.specs.Rounds.{run}
use Rattle.model.specs.Paths.{is_path}
use Rattle.model.specs.Stores.{store_words}
use Rattle.model.specs.Blocks.{max_site}
use Rattle.model.specs.Contents.{new_form}
use Rattle.model.specs.Files.{max_file}
use Rattle.model.specs.Calls.{overwrite, release, Decision, decide_limits, decide_grounds, decision_of, decide_answer, decide_buffer, TableRead, states_in, groups_in, bad_length, file_grounds, read_grounds_as, read_answer, read_buffer}
use Rattle.model.specs.Promises.{Demand2}
use Rattle.model.proofs.ListsInParts.{take-overwrite, drop-overwrite}
use Rattle.model.proofs.StoresAccepted.{Store, store_accepted}
use Rattle.model.proofs.CallLaws.{read-refused, read_none, read-buffer}
use Rattle.model.proofs.RoundTrips.{taken, filled_held}
use Rattle.model.proofs.PromisesKept.{promises}
use Rattle.model.proofs.Drafts.{draft}
use Rattle.core_report.specs.Text.{ascii, digits, decimal, spaced, states_line, verdict_line, invariant_line, safe_text, unsafe_text, report_text, refused_text}
use Rattle.core_refusals.specs.declared.Refusal.{Refusal}
use Rattle.call_check.specs.declared.Checked.{Checked}
use Rattle.call_check.specs.CheckText.{zero_store, zero_path, ReleaseCheck, check_table, release_check, text_for, verdict_for, FileVerdict, safe, unsafe, refused_file, check_text, file_verdict}
use Rattle.call_check.specs.CheckAnswers.{CheckedFile, checked_file, check_grounds, check_answer, check_buffer, checked_of, CalledCheck}
use Rattle.call_check.specs.Reported.{file_table, NoPath, SomePath, SafeReport, UnsafeReport, after_line, Reported}
use Rattle.call_check.proofs.Lines.{safe_behind, unsafe_behind, refused_behind, first_letter}

-- ---- a file that read accepts

module _ (input : List ℕ) (site : ℕ) {a : TableRead} (e : read_answer input site store_words ≡ answered a) where
  abbrev store : List ℕ
  store = read_buffer input site zero_store

  abbrev decision : Decision
  decision = decision_of (file_table input site a) (run (file_table input site a) release)

  file-held : Store store a.n a.g
  file-held =
      let told = read_none new_form input site store_words e in
      let held = filled_held new_form input zero_store (states_in input) (groups_in new_form input) (omega arith) (taken new_form input site store_words told.0) in
      subst (λ (b : TableRead). Store store b.n b.g) (sym told.1)
      (subst (λ (xs : List ℕ). Store xs (states_in input) (groups_in new_form input)) (sym (read-buffer new_form input site zero_store told.0)) held)

  file-decided : decide_answer store a.n a.g release max_states ≡ answered decision
  unfolding decide_answer decide_grounds refuse
  file-decided =
      answer-none (decide_grounds store a.n a.g release max_states) decision refl (store_accepted store a.n a.g (decide_limits release max_states) file-held)

  abbrev whole : ReleaseCheck
  whole = record { n = a.n; g = a.g; decision = decision; path = decide_buffer store a.n a.g release zero_path }

  file_checked : release_check input site ≡ answered whole
  unfolding release_check check_table
  file_checked = rw (e, file-decided) refl

  file_demand : Demand2 (file_table input site a) decision (decide_buffer store a.n a.g release zero_path)
  file_demand = promises.demand2 store a.n a.g zero_path decision file-decided

  file-safe : decision.verdict ≡ 0 → SafeReport input site a decision
  unfolding report_text
  file-safe v =
      let said : check_text input site ≡ safe_text a.n a.g decision.count decision.invariant = ap text_for file_checked ∙ rw v refl in
      record {
        none = λ xs. is_false (is_path (file_table input site a) xs) (λ h. omega (arith, v, file_demand.path-unsafe xs h));
        verdict = ap verdict_for file_checked ∙ ap (λ (k : ℕ). cond (eqb k 0) (safe a.n) (unsafe a.n)) v;
        holds = file_demand.invariant v;
        text = said;
        second_line = ap after_line said ∙ safe_behind a.n a.g decision.count decision.invariant;
      }

  file-unsafe : decision.verdict ≡ 1 → UnsafeReport input site a decision
  unfolding report_text
  file-unsafe v =
      let states = take (suc decision.steps) (decide_buffer store a.n a.g release zero_path) in
      let said : check_text input site ≡ unsafe_text a.n a.g decision.count states = ap text_for file_checked ∙ rw (v, add-one) refl in
      record {
        verdict = ap verdict_for file_checked ∙ ap (λ (k : ℕ). cond (eqb k 0) (safe a.n) (unsafe a.n)) v;
        path = states;
        smallest = file_demand.smallest-path v;
        text = said;
        second_line = ap after_line said ∙ unsafe_behind a.n a.g decision.count states;
      }

  file_report : SafeReport input site a decision ⊎ UnsafeReport input site a decision
  file_report = ⊎_elim (λ v. inl (file-safe v)) (λ v. inr (file-unsafe v)) file_demand.decided

-- ---- one that it refuses

file-refusal : (input : List ℕ) (site k : ℕ) → read_answer input site store_words ≡ refused k
    → (check_text input site ≡ refused_text k) × (file_verdict input site ≡ refused_file k)
unfolding release_check
file-refusal input site k e = rw e (refl, refl)

-- ---- each of the three

by_read : {A : Type 0} (x : Answered A) (P : Type 0) → ((k : ℕ) → x ≡ refused k → P) → ((a : A) → x ≡ answered a → P) → P
by_read (refused k) P f g = f k refl
by_read (answered a) P f g = g a refl

-- the verdicts, by a number each, and what they are given with
abbrev kind : FileVerdict → ℕ
kind (safe n) = 0
kind (unsafe n) = 1
kind (refused_file k) = 2

abbrev number_in : FileVerdict → ℕ
number_in (safe n) = n
number_in (unsafe n) = n
number_in (refused_file k) = k

module _ (input : List ℕ) (site : ℕ) where
  abbrev Read : TableRead → Type 0
  Read a = read_answer input site store_words ≡ answered a

  abbrev RefusedWith : ℕ → Type 0
  RefusedWith k = read_answer input site store_words ≡ refused k

  by_file : (P : Type 0) → ((k : ℕ) → RefusedWith k → P) → ((a : TableRead) (d : Decision) → Read a → SafeReport input site a d → P)
      → ((a : TableRead) (d : Decision) → Read a → UnsafeReport input site a d → P) → P
  by_file P k s u =
      by_read (read_answer input site store_words) P k (λ a e. ⊎_elim (s a _ e) (u a _ e) (file_report input site e))

  -- what line 2 begins with: s, u or nothing
  abbrev letter : ℕ
  letter = get_or (after_line (check_text input site)) 0 0

  safe_letter : {a : TableRead} {d : Decision} → SafeReport input site a d → letter ≡ 115
  unfolding ascii verdict_line
  safe_letter r = ap (λ (xs : List ℕ). get_or xs 0 0) r.second_line

  unsafe_letter : {a : TableRead} {d : Decision} → UnsafeReport input site a d → letter ≡ 117
  unfolding ascii verdict_line
  unsafe_letter r = ap (λ (xs : List ℕ). get_or xs 0 0) r.second_line

  refused_letter : (k : ℕ) → RefusedWith k → letter ≡ 0
  refused_letter k e = ap (λ (xs : List ℕ). get_or xs 0 0) (ap after_line (file-refusal input site k e).0 ∙ refused_behind k)

  safe_line : take 5 (after_line (check_text input site)) ≡ ascii "safe " → (a : TableRead) × Read a × NoPath (file_table input site a)
  unfolding ascii
  safe_line l =
      let s : letter ≡ 115 = first_letter 5 (after_line (check_text input site)) (omega arith) l in
      by_file _ (λ k e. absurd (omega (arith, s, refused_letter k e))) (λ a d e r. (a, e, r.none)) (λ a d e r. absurd (omega (arith, s, unsafe_letter r)))

  unsafe_line : take 7 (after_line (check_text input site)) ≡ ascii "unsafe " → (a : TableRead) × Read a × SomePath (file_table input site a)
  unfolding ascii
  unsafe_line l =
      let u : letter ≡ 117 = first_letter 7 (after_line (check_text input site)) (omega arith) l in
      by_file _ (λ k e. absurd (omega (arith, u, refused_letter k e))) (λ a d e r. absurd (omega (arith, u, safe_letter r)))
      (λ a d e r. (a, e, (r.path, r.smallest.path)))

  refused_line : take 8 (check_text input site) ≡ ascii "refused " → (k : ℕ) × RefusedWith k × (check_text input site ≡ refused_text k)
  unfolding ascii states_line safe_text unsafe_text
  refused_line l =
      let first : get_or (check_text input site) 0 0 ≡ 114 = first_letter 8 (check_text input site) (omega arith) l in
      let states : (xs : List ℕ) → check_text input site ≡ xs → get_or xs 0 0 ≡ 115 → ⊥ = λ xs e s. omega (arith, first, ap (λ (ys : List ℕ). get_or ys 0 0) e, s) in
      by_file _ (λ k e. (k, e, (file-refusal input site k e).0)) (λ a d e r. absurd (states _ r.text refl)) (λ a d e r. absurd (states _ r.text refl))

  safe-verdict : (n : ℕ) → safe n ≡ file_verdict input site → (a : TableRead) × Read a × (n ≡ a.n) × NoPath (file_table input site a)
  safe-verdict n v =
      by_file _ (λ k e. absurd (omega (arith, ap kind (v ∙ (file-refusal input site k e).1))))
      (λ a d e r. (a, e, ap number_in (v ∙ r.verdict), r.none)) (λ a d e r. absurd (omega (arith, ap kind (v ∙ r.verdict))))

  unsafe-verdict : (n : ℕ) → unsafe n ≡ file_verdict input site → (a : TableRead) × Read a × (n ≡ a.n) × SomePath (file_table input site a)
  unsafe-verdict n v =
      by_file _ (λ k e. absurd (omega (arith, ap kind (v ∙ (file-refusal input site k e).1)))) (λ a d e r. absurd (omega (arith, ap kind (v ∙ r.verdict))))
      (λ a d e r. (a, e, ap number_in (v ∙ r.verdict), (r.path, r.smallest.path)))

  refused-verdict : (k : ℕ) → refused_file k ≡ file_verdict input site → RefusedWith k
  refused-verdict k v =
      by_file _ (λ j e. e ∙ ap refused (sym (ap number_in (v ∙ (file-refusal input site j e).1))))
      (λ a d e r. absurd (omega (arith, ap kind (v ∙ r.verdict)))) (λ a d e r. absurd (omega (arith, ap kind (v ∙ r.verdict))))

-- ---- a call that is answered

module _ (input : List ℕ) (site : ℕ) (before : List ℕ) (r : Result Checked Refusal) (after : List ℕ) (f : CheckedFile)
    (called : CalledCheck input site before r after) (e : checked_of r ≡ answered f) where
  call_says : f ≡ checked_file (release_check input site)
  unfolding check_answer
  call_says = answered_value (check_grounds site (length before)) (checked_file (release_check input site)) (sym called.0 ∙ e)

  call_verdict : f.verdict ≡ file_verdict input site
  call_verdict = ap (λ (x : CheckedFile). x.verdict) call_says

  call_past : (length (check_text input site) ≡ f.text_length) × (take f.text_length after ≡ check_text input site)
      × (drop f.text_length after ≡ drop f.text_length before)
  unfolding check_buffer
  call_past =
      let text = check_text input site in
      let long : length text ≡ f.text_length = sym (ap (λ (x : CheckedFile). x.text_length) call_says) in
      let left = called.1 ∙ ap (unless_refused before (λ (x : CheckedFile). overwrite text before)) (sym called.0 ∙ e) in (
        long,
        ap (take f.text_length) left ∙ take-overwrite text before f.text_length long,
        ap (drop f.text_length) left ∙ drop-overwrite text before f.text_length long,
      )

-- ---- the three lines of a draft, and a file that is too long

draft-text : (site : ℕ) → site ≤ max_site → check_text [] site ≡ ascii "states 0 groups 0\nsafe refinements 0\ninvariant 0: none\n"
unfolding tabulate bit member number set_of empty filter members size ascii digits decimal spaced states_line verdict_line invariant_line safe_text report_text
draft-text site known =
    let e = (draft.read site zero_store known (omega arith)).0 in
    let is = (draft.decide (read_buffer [] site zero_store) release zero_path _ (file-decided [] site e)).0 in
    ap text_for (file_checked [] site e) ∙ rw is refl

longer-text : (input : List ℕ) (site : ℕ) → site ≤ max_site → max_file < length input → check_text input site ≡ refused_text 11
unfolding read_grounds_as file_grounds bad_length refuse
longer-text input site known h =
    (file-refusal input site 11
    (read-refused new_form input site store_words (rw (le-ltb max_site site known, ne_eqb (length input) 0 (λ e. omega arith), lt-ltb max_file (length input) h, or-true) refl) (λ e. omega arith))).0

pub reported : Reported
unfolding check_answer check_buffer
reported =
    record {
      decided = λ input site a e. (_, file-decided input site e, file_report input site e);
      refusal = file-refusal;
      safe_line = safe_line;
      unsafe_line = unsafe_line;
      refused_line = refused_line;
      safe_call = λ input site before r after l n c e. safe-verdict input site n (call_verdict input site before r after _ c e);
      unsafe_call = λ input site before r after l n c e. unsafe-verdict input site n (call_verdict input site before r after _ c e);
      refused-file_call = λ input site before r after l k c e. refused-verdict input site k (call_verdict input site before r after _ c e);
      past = call_past;
      refused_call = λ input site before r after k c e. (
        refused-is (check_grounds site (length before)) (checked_file (release_check input site)) (sym c.0 ∙ e),
        c.1 ∙ ap (unless_refused before (λ (x : CheckedFile). overwrite (check_text input site) before)) (sym c.0 ∙ e),
      );
      draft = draft-text;
      longer = longer-text;
    }
