-- The proof of specs/Draft.
--
--   draft-layout                     the table of contents without states is laid out as words that are 0
--   draft-safe, draft_R, draft-run   the rounds of a table without states: safe at once
--   draft                            specs/Draft
use Prim.Native.Nat.{ℕ, zero, suc, ◌+◌, ◌≤◌, zero-le}
use native.Mathlib.Nat.{not-suc-le-zero}
use native.Mathlib.Omega.{arith}
use mathlib.Core.Path.{◌≡◌, refl, sym, ap, ap₂, ◌∙◌}
use mathlib.Core.Bool.{true, false, cond}
use mathlib.Core.List.{List, [], ◌++◌, append-nil}
use borrow.Author.Tests.{le-ltb, eq-eqb, ne_eqb}
use lib.Dec.{eqb}
use lib.ListN.{length}
use lib.Seq.{take_all}
use Rattle.basics.specs.Bounds.{tabulate}
use Rattle.model.specs.Sets.{WORDS, Set, empty, image}
use Rattle.model.specs.Tables.{post}
use Rattle.model.specs.Rounds.{iterate, forward, is_safe, round_of, first_round, safe, settle, rounds, run}
use Rattle.model.specs.Paths.{shortest, has_path, smallest_path}
use Rattle.basics.specs.Refusals.{Ground, refuse, answered, unless_refused}
use Rattle.model.specs.Stores.{marked_at, resting_at, group_at, row_at, store_words, set_at, dialogue_of, table_of, layout, bad_states, shared_grounds}
use Rattle.model.specs.Blocks.{contents_of}
use Rattle.model.specs.Contents.{Form, new_form, heads, set_in, set_number, dialogue_in}
use Rattle.model.specs.Calls.{overwrite, Decision, decision_of, decide_buffer, Shortest, path_found, shortest_grounds, shortest_answer, shortest_buffer, states_in, blocks_grounds, content_grounds, read_grounds, read_answer, read_buffer}
use Rattle.model.specs.Draft.{Draft}
use Rattle.basics.proofs.BoundLaws.{length-tabulate, get_or-tabulate}
use Rattle.model.proofs.SetsMembers.{set_of_cong, empty_in, first_states_in}
use Rattle.model.proofs.Fixpoints.{backward-is}
use Rattle.model.proofs.ListsInParts.{get_or_past}
use Rattle.basics.proofs.RefusalLaws.{refuse-first, refuse_behind, clear_refuse, answered_value}
use Rattle.model.proofs.ContentLaws.{by_resting}
use Rattle.model.proofs.StoresTables.{set_at-empty, Holds, holds-layout}
use Rattle.model.proofs.FileLaws.{file-draft, length-draft}
use Rattle.model.proofs.RoundLaws.{is_safe_intro}
use Rattle.model.proofs.StoresAccepted.{Store, accepted_store, store_accepted, well_formed, check_of_lem}
use Rattle.model.proofs.CallLaws.{Writable, written, write-refused, write_behind, write-answer, write-buffer, blocks_clear, read-refused, behind_length, draft-refusal, read_answer_lem, read-buffer, draft-says}
use Rattle.model.proofs.RoundTrips.{round_trips}
use Rattle.model.proofs.SetsCounted.{size-empty}

-- ---- words that are 0

abbrev zeros : List ℕ
zeros = tabulate store_words (λ i. 0)

zeros_long : length zeros ≡ store_words
zeros_long = length-tabulate (λ (i : ℕ). 0) store_words

zeros_empty : (at : ℕ) → at + WORDS ≤ store_words → set_at zeros at ≡ empty
zeros_empty at h = set_at-empty zeros at (omega (arith, zeros_long)) (λ w l. get_or-tabulate (λ (i : ℕ). 0) store_words (at + w) 0 (omega arith))

set_number-none : (bytes : List ℕ) (k : ℕ) → set_number bytes 0 k ≡ empty
unfolding set_number set_in empty
set_number-none bytes k = set_of_cong _ _ (λ s h. rw (le-ltb s 0 (omega arith)))

zeros_hold : (form : Form) (bytes : List ℕ) → Holds zeros (dialogue_in form bytes 0 0)
unfolding dialogue_in
zeros_hold form bytes =
    record {
      initial = zeros_empty 0 (omega arith) ∙ sym (set_number-none bytes 0);
      marked = zeros_empty marked_at (omega arith) ∙ sym (set_number-none bytes 1);
      resting = zeros_empty resting_at (omega arith) ∙ by_resting form bytes 0 (λ X. empty ≡ X) (λ l. sym (set_number-none bytes 2)) (λ l. refl);
      group = λ j h.
          let group : ℕ → Set = λ i. set_number bytes 0 (heads form + i) in
          zeros_empty (group_at j) (omega arith) ∙ sym (get_or_past (tabulate 0 group) j empty (omega (arith, length-tabulate group 0)));
      row = λ s h. zeros_empty (row_at s) (omega arith) ∙ sym (rw (le-ltb s 0 (omega arith)));
    }

pub draft-layout : (form : Form) (bytes : List ℕ) → layout (dialogue_in form bytes 0 0) ≡ tabulate store_words (λ i. 0)
draft-layout form bytes = holds-layout zeros (dialogue_in form bytes 0 0) (zeros_hold form bytes) ∙ take_all store_words zeros (omega (arith, zeros_long))

-- ---- the rounds and the path

module _ (store : List ℕ) (held : Store store 0 0) where
  draft-safe : is_safe (table_of store 0 0) (first_round (table_of store 0 0)) ≡ true
  unfolding table_of post image
  draft-safe =
      is_safe_intro (table_of store 0 0) (first_round (table_of store 0 0))
      (λ s a. absurd (not-suc-le-zero (first_states_in ((well_formed store 0 0 held).initial s a)))) (λ s b. absurd (empty_in b))

  draft_R : (first_round (table_of store 0 0)).R ≡ empty
  unfolding table_of first_round round_of forward iterate
  draft_R = refl

  draft-run : (allowance : ℕ) → run (table_of store 0 0) allowance ≡ safe 0 empty
  unfolding run rounds settle
  draft-run zero = rw (draft-safe, draft_R)
  draft-run (suc allowance) = rw (draft-safe, draft_R)

no_path : (store : List ℕ) → has_path (table_of store 0 0) ≡ false
unfolding has_path table_of
no_path store = le-ltb (shortest (table_of store 0 0)) 0 zero-le

-- ---- the calls

groups_alone : (store : List ℕ) (g : ℕ) (later : List Ground) → store_words ≤ length store → (g ≡ 0 → ⊥) → refuse (shared_grounds store 0 g ++ later) ≡ 14
unfolding bad_states
groups_alone store g later h f = sym (refuse-first 1 _ (le-ltb (length store) store_words h, rw (ne_eqb g 0 f)))

draft-answer : (site room : ℕ) → refuse (read_grounds [] site room) ≡ 0 → read_answer [] site room ≡ answered (record { n = 0; g = 0 })
draft-answer site room none =
    let says = draft-says new_form [] refl in
    read_answer_lem new_form [] site room none ∙ ap₂ (λ (a b : ℕ). answered (record { n = a; g = b })) says.0 says.1

pub draft : Draft
unfolding decision_of decide_buffer shortest_answer shortest_buffer overwrite dialogue_of content_grounds
draft =
    record {
      read = λ site store k h.
          let none = draft-refusal new_form [] site (length store) h k refl in
          let says = draft-says new_form [] refl in (
            draft-answer site (length store) none,
            read-buffer new_form [] site store none
                ∙ ap₂ (λ (a b : ℕ). overwrite (layout (dialogue_in new_form (contents_of []) a b)) store) says.0 says.1
                ∙ ap (λ xs. overwrite xs store) (draft-layout new_form (contents_of [])),
          );
      read-accepted = λ site store k h.
          let none = draft-refusal new_form [] site (length store) h k refl in
          let back = round_trips.read-write [] site store [] _ (λ i. omega arith) (omega arith) (draft-answer site (length store) none) in
          store_accepted (read_buffer [] site store) 0 0 [] (written (read_buffer [] site store) 0 0 site 0 back.answer).0.held ∙ clear_refuse [] tt;
      decide = λ store allowance path a e.
          let t = table_of store 0 0 in
          let check = check_of_lem store 0 0 allowance (length path) e in
          let is =
          check.answer
          ∙ ap (decision_of t) (draft-run store check.held allowance)
          ∙ ap (λ (m : ℕ). record { verdict = 0; count = 0; invariant = empty; size = m; steps = 0 }) size-empty in
          (is, ap (unless_refused _ (λ (b : Decision). cond (eqb b.verdict 1) (overwrite (smallest_path t) path) path)) (e ∙ ap answered is));
      backward-number = λ t e. omega (arith, (backward-is t).bounded);
      shortest-path = λ store path a e.
          let t = table_of store 0 0 in
          let is = answered_value (shortest_grounds store 0 0 (length path)) _ e ∙ ap (path_found t) (no_path store) in
          (is, ap (unless_refused path (λ (b : Shortest). cond (eqb b.found 1) (overwrite (smallest_path t) path) path)) (e ∙ ap answered is));
      write = λ store site output k e.
          let w : Writable store 0 0 site (length output) =
          record { held = (accepted_store store 0 0 [] e).0; known = k; fits = omega (arith, length-draft new_form 0 0 refl) } in (
            write-answer store 0 0 site (length output) w ∙ ap answered (length-draft new_form 0 0 refl),
            write-buffer store 0 0 site output w ∙ ap (λ xs. overwrite xs output) (file-draft new_form site (dialogue_of store 0 0) refl),
          );
      groups_alone = groups_alone;
      groups-written = λ store g site room h k f.
          write-refused store 0 g site room (write_behind store 0 g site room h k ∙ groups_alone store g _ h f) (λ z. omega arith);
      block-without-states = λ input site room h k some whole blocks none.
          read-refused new_form input site room
          (behind_length new_form input site room h k some whole
          ∙ refuse_behind (blocks_grounds input site) _ (blocks_clear input site [] (ap refuse (append-nil (blocks_grounds input site)) ∙ blocks)).0
          ∙ sym (refuse-first 0 _ (rw (eq-eqb (states_in input) 0 none))))
          (λ z. omega arith);
    }
