-- The proof of specs/FailsSafe.
use Prim.Native.Nat.{ℕ, zero, suc, ◌+◌, ◌≤◌, ◌<◌}
use native.Mathlib.Nat.{not-suc-le-zero}
use native.Mathlib.Omega.{arith}
use mathlib.Core.Path.{◌≡◌, refl, sym, ap, ◌∙◌, subst}
use mathlib.Core.Logic.{⊎_elim}
use mathlib.Core.Bool.{Bool, true, false, cond, ◌||◌}
use mathlib.Core.List.{List}
use lib.Dec.{ltb}
use lib.ListN.{length}
use Rattle.basics.specs.Refusals.{Ground, Answered, refused, answered, answer, unless_refused}
use Rattle.basics.proofs.BoundLaws.{lt_or_ge}
use Rattle.basics.proofs.RefusalLaws.{numbered, numbered-append, answer-none, answered_not_refused, refused-is}
use Rattle.model.specs.Sets.{Set, empty}
use Rattle.model.specs.Stores.{store_words, bad_states, shared_grounds}
use Rattle.model.specs.Blocks.{max_site}
use Rattle.model.specs.Contents.{old_form}
use Rattle.model.specs.Calls.{decide_grounds, decide_answer, shortest_grounds, shortest_answer, read_answer_as, read_grounds_as, write_grounds, write_answer}
use Rattle.model.proofs.CallLaws.{read-numbered}
use Rattle.model.proofs.PromisesKept.{untouched}
use Rattle.model.proofs.RangesOfAnswers.{read_range}
use Rattle.call_paths.specs.Within.{within_answer}
use Rattle.call_distances.specs.Distances.{distances_grounds, distances_answer}
use Rattle.call_first_order.specs.OrderAnswers.{order_answer}
use Rattle.call_generate.specs.Load.{generate_grounds, generate_answer}
use Rattle.call_replay.specs.Logs.{replay_grounds, replay_answer}
use Rattle.call_edit_session.specs.Edits.{source, target, edit_grounds, open_answer, edit_answer}
use Rattle.call_edit_session.proofs.SessionEdits.{of_edit}
use Rattle.call_modal.specs.Modal.{possible_words, modal_grounds, modal_answer, modal_buffer}
use Rattle.call_release_windows.specs.WindowAnswers.{Opening, minute, never, span, grounds, waiting, next_open_answer}
use Rattle.call_release_windows.proofs.WindowsAnswered.{sound_answer, opens, shuts}
use Rattle.call_check.specs.CheckAnswers.{check_answer}
use Rattle.call_rewrite.specs.RewriteAnswers.{rewrite_grounds, rewrite_answer}
use Rattle.shuntberry_fields.specs.Fields.{no_table, no_minute, decision_fields, session_fields, modal_fields}
use Rattle.shuntberry_fields.specs.FailsSafe.{HandedOn, Numbered, RefusedSets, FailsSafe}

-- ---- what is handed on

-- one ground or the next
first_of : {A : Type 0} (b : Bool) (j k : ℕ) → ◌≡◌ {A = Answered A} (cond b (refused j) (refused k)) (refused (cond b j k))
first_of true j k = refl
first_of false j k = refl

first_of_three : {A : Type 0} (b c : Bool) (i j k : ℕ)
    → ◌≡◌ {A = Answered A} (cond b (refused i) (cond c (refused j) (refused k))) (refused (cond b i (cond c j k)))
first_of_three true c i j k = refl
first_of_three false c i j k = first_of c j k

handed_on : HandedOn no_table
unfolding answer bad_states decide_answer decide_grounds shortest_answer shortest_grounds write_answer write_grounds distances_answer distances_grounds within_answer order_answer generate_answer generate_grounds replay_answer replay_grounds open_answer edit_answer edit_grounds modal_answer modal_grounds
handed_on =
    record {
      decide = λ store g allowance room. first_of (ltb (length store) store_words) 10 14;
      shortest-path = λ store g room. first_of (ltb (length store) store_words) 10 14;
      distances = λ store g room. first_of (ltb (length store) store_words) 10 14;
      within = λ store g k. first_of (ltb (length store) store_words) 10 14;
      first_order = λ store g. first_of (ltb (length store) store_words) 10 14;
      write = λ store g site room. first_of_three (ltb (length store) store_words) (ltb max_site site) 10 24 14;
      generate = λ fan-out room. first_of (ltb room store_words) 10 14;
      replay = λ store g log. first_of (ltb (length store) store_words) 10 14;
      opening = λ store g. first_of (ltb (length store) store_words) 10 14;
      edit = λ store g X e. first_of (ltb (length store) store_words) 10 14;
      decide_modal = λ store g possible room. first_of (ltb (length store) store_words || ltb (length possible) possible_words) 10 14;
    }

-- ---- no refusal is numbered 0

some : {A : Type 0} (gs : List Ground) (b : A) → numbered gs ≡ true → (k : ℕ) → answer gs b ≡ refused k → 0 < k
some gs b m zero e = absurd (answered_not_refused (sym (answer-none gs b m (sym (refused-is gs b e))) ∙ e))
some gs b m (suc k) e = omega arith

numbers : Numbered
unfolding decide_answer decide_grounds shortest_answer shortest_grounds read_answer_as write_answer write_grounds rewrite_answer rewrite_grounds check_answer distances_answer distances_grounds within_answer order_answer generate_answer generate_grounds replay_answer replay_grounds open_answer edit_answer edit_grounds modal_answer modal_grounds next_open_answer grounds
numbers =
    record {
      decide = λ store n g allowance room. some (decide_grounds store n g allowance room) _ refl;
      shortest-path = λ store n g room. some (shortest_grounds store n g room) _ refl;
      distances = λ store n g room. some (distances_grounds store n g room) _ refl;
      within = λ store n g j. some _ _ refl;
      first_order = λ store n g. some _ _ refl;
      read = λ form input site room. some (read_grounds_as form input site room) _ (read-numbered form input site room);
      write = λ store n g site room. some (write_grounds store n g site room) _ refl;
      rewrite = λ input room.
          some (rewrite_grounds input room) _ (numbered-append (read_grounds_as old_form input 0 store_words) _ (read-numbered old_form input 0 store_words) refl);
      check = λ input site room. some _ _ refl;
      generate = λ n fan-out room. some (generate_grounds n fan-out room) _ refl;
      replay = λ store n g log. some (replay_grounds store n g (length log)) _ refl;
      opening = λ store n g. some _ _ refl;
      edit = λ store n g X e. some _ _ refl;
      decide_modal = λ store n g possible room. some (modal_grounds store n g possible room) _ refl;
      next_open = λ time windows days. some (grounds time windows days) _ refl;
    }

-- ---- the set beside a refusal

-- where `fields` says 0 of an answer, and of a refusal its number beside the set X, a number above 0 is that of a refusal, beside X
beside : {A F P : Type 0} (fields : Answered A → F) (number : F → ℕ) (set : F → Set) {X : Set} {j : ℕ} {r : F}
    → ((k : ℕ) → (number (fields (refused k)) ≡ k) × (set (fields (refused k)) ≡ X)) → ((a : A) → number (fields (answered a)) ≡ 0)
    → (x : Answered A) → ((k : ℕ) → x ≡ refused k → (k ≡ j) × P) → r ≡ fields x → 0 < number r → (number r ≡ j) × (set r ≡ X) × P
beside fields number set says none (refused k) follows e h =
    let l = follows k refl in
    (ap number e ∙ (says k).0 ∙ l.0, ap set e ∙ (says k).1, l.1)
beside fields number set says none (answered a) follows e h = absurd (not-suc-le-zero (subst (λ (m : ℕ). 0 < m) (ap number e ∙ none a) h))

sets : RefusedSets
unfolding modal_answer modal_buffer open_answer edit_answer
sets =
    record {
      decide = λ store n g allowance before r after c h.
          beside decision_fields (λ f. f.refusal) (λ f. f.invariant) (λ k. (refl, refl)) (λ a. refl) (decide_answer store n g allowance (length before))
          (λ k e. let left = untouched.decide store n g allowance before k e in (left.0, c.1 ∙ left.1))
          c.0 h;
      decide_modal = λ store n g possible before r after c h.
          beside modal_fields (λ f. f.refusal) (λ f. f.invariant) (λ k. (refl, refl)) (λ a. refl) (modal_answer store n g possible (length before))
          (λ k e. (refused-is (modal_grounds store n g possible (length before)) _ e, c.1 ∙ ap (unless_refused before _) e))
          c.0 h;
      opening = λ store n g r c h.
          let all = beside (session_fields empty) (λ f. f.refusal) (λ f. f.reachable) (λ k. (refl, refl)) (λ a. refl) (open_answer store n g)
          (λ k e. (refused-is (shared_grounds store n g) _ e, tt {0})) c h in
          (all.0, all.1);
      edit = λ store n g X e r after c h.
          beside (session_fields X) (λ f. f.refusal) (λ f. f.reachable) (λ k. (refl, refl)) (λ a. refl) (edit_answer store n g X e)
          (λ k q. (
            refused-is (edit_grounds store n g (source e) (target e)) _ q,
            c.1
                ∙ of_edit store n g X e (λ a xs. a ≡ refused k → xs ≡ store) (λ f p. refl) (λ z m p. refl) (λ z m p. absurd (answered_not_refused p)) q,
          ))
          c.0 h;
    }

-- ---- the minute

abbrev minute_in : Opening → ℕ
minute_in (minute m) = m
minute_in never = 0

later : (time : ℕ) (windows days : List ℕ) (m : ℕ) → next_open_answer time windows days ≡ answered (minute m) → m < no_minute
later time windows days m e =
    let wait = waiting time windows days in
    ⊎_elim
    (λ (l : wait < span). let q : m ≡ time + wait = ap minute_in (opens time windows days e l) in omega (arith, q, l, (sound_answer time windows days e).no_later))
    (λ (l : span ≤ wait). let q : m ≡ 0 = ap minute_in (shuts time windows days e l) in omega (arith, q))
    (lt_or_ge wait span)

pub fails_safe : FailsSafe
unfolding next_open_answer grounds answer
fails_safe =
    record {
      numbered = numbers;
      sets = sets;
      decide = λ k. omega arith;
      decide_modal = λ k. omega arith;
      check = λ k. (omega arith, refl);
      check-file = λ l k. (omega arith, refl);
      shortest-path = λ k. omega arith;
      within = λ k. omega arith;
      next_open = λ k. omega arith;
      minute = λ k time windows days m e. later time windows days m e;
      minute-never = λ k. refl;
      no_time = λ k windows days. refl;
      table = λ k input site room a e. let range = read_range input site room e in (omega (arith, range.n), omega (arith, range.g));
      read = λ k. handed_on;
    }
