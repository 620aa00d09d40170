-- The promises of `Loads`, of every call of generate.
use Rattle.std.proofs.Common.{◌≡◌, ℕ, ◌+◌, ◌-◌, ◌*◌, ◌%◌, ◌<◌, false, eqb, List, [], ◌∷◌, length, get_or, drop, Result, sym, refl, ap, ◌∙◌, subst, not-suc-le-zero, mod-lt, arith, le-ltb, eqb-true}
use Rattle.core_refusals.specs.declared.Refusal.{Refusal}
use Rattle.model.specs.Sets.{max_states, empty, single}
use Rattle.basics.specs.Refusals.{refuse, Answered, refused, answered, unless_refused}
use Rattle.model.specs.Stores.{store_words, resting_at, set_at, dialogue_of, layout, beyond}
use Rattle.model.specs.Contents.{new_form, sets}
use Rattle.model.specs.Calls.{overwrite, max_allowance, path_ground, decide_limits, decide_grounds, decide_answer, shortest_grounds, shortest_answer}
use Rattle.basics.proofs.BoundLaws.{any_find}
use Rattle.basics.proofs.RefusalLaws.{clear_refuse, answer-none, answered_clear, refused-is}
use Rattle.model.proofs.SetsMembers.{set_of_in, empty_in, single_in}
use Rattle.model.proofs.ListsInParts.{length-overwrite, drop-overwrite}
use Rattle.model.proofs.StoresTables.{Holds, Laid, length-layout, overwrite-holds, below_beyond, Clean, clean_malformed, holds-sets, holds_clean}
use Rattle.model.proofs.CallLaws.{write-answer}
use Rattle.model.proofs.StoresAccepted.{Store, store_accepted}
use Rattle.call_generate.specs.Load.{long_lag, numbers, remainders, successors, load_from, load, generate_grounds, generate_answer, generate_buffer}
use Rattle.call_generate.specs.GenerateAnswers.{generated_of, CalledGenerate}
use Rattle.call_generate.specs.Loads.{Accepts, Loads}
use Rattle.call_generate.proofs.StoresGenerated.{laid}
use Rattle.call_generate.proofs.GenerateAnswered.{Accepted, accepted-load}

-- ---- the states of a load are states of the table

module _ (n : ℕ) where
  single_below : (s : ℕ) → s < n → beyond n (single s) ≡ false
  single_below s h = below_beyond n (single s) (λ x i. subst (λ (y : ℕ). y < n) (sym (single_in i)) h)

  remainders_below : (xs : List ℕ) → 0 < n → beyond n (remainders xs n) ≡ false
  unfolding remainders
  remainders_below xs some =
      below_beyond n (remainders xs n)
      (λ x i.
      let w = any_find (λ j. eqb x (get_or xs j 0 % n)) (length xs) (set_of_in _ i) in
      subst (λ (y : ℕ). y < n) (sym (eqb-true x _ w.2)) (mod-lt (get_or xs w.0 0) some))

-- ---- every call accepts a store of which no ground that they share holds

module _ (store : List ℕ) (n g : ℕ) (s : Store store n g) where
  pub accepts : Accepts store n g
  unfolding decide_answer decide_grounds shortest_answer shortest_grounds refuse
  accepts =
      record {
        held = store_accepted store n g [] s;
        write = λ site room k h. write-answer store n g site room (record { held = s; known = k; fits = h });
        decide = λ allowance room h l. (
          _,
          answer-none (decide_grounds store n g allowance room) _ refl
              (store_accepted store n g (decide_limits allowance room) s ∙ rw (le-ltb max_allowance allowance h, le-ltb room max_states l)),
        );
        shortest = λ room h. (
          _,
          answer-none (shortest_grounds store n g room) _ refl (store_accepted store n g (path_ground room ∷ []) s ∙ rw (le-ltb room max_states h)),
        );
      }

-- ---- the call

module _ (seed n f : ℕ) (before : List ℕ) (r : Result (Unit {0}) Refusal) (after : List ℕ) (called : CalledGenerate seed n f before r after) where
  abbrev left : Answered (Unit {0}) → List ℕ
  left = unless_refused before (λ done. overwrite (layout (load seed n f)) before)

  left_is : {a : Answered (Unit {0})} → generated_of r ≡ a → after ≡ left a
  unfolding generate_buffer
  left_is e = called.1 ∙ ap left (sym called.0 ∙ e)

  load_laid : Laid (load seed n f)
  unfolding load
  load_laid = laid (numbers seed (long_lag + n * f)) n f

  module _ (e : generated_of r ≡ answered tt) where
    held : Accepted n f (length before)
    unfolding generate_answer
    held =
        let grounds = generate_grounds n f (length before) in
        accepted-load n f (length before) (sym (clear_refuse grounds (answered_clear grounds tt (sym called.0 ∙ e))))

    holds : Holds after (load seed n f)
    holds = subst (λ (store : List ℕ). Holds store (load seed n f)) (sym (left_is e)) (overwrite-holds (load seed n f) load_laid before)

    clean : Clean after n 0
    unfolding load load_from successors
    clean =
        holds_clean after (load seed n f) holds refl (omega arith) held.small (single_below n 0 held.some) (single_below n (n - 1) (omega (arith, held.some)))
        (below_beyond n empty (λ s h. absurd (empty_in h))) (λ j h. absurd (not-suc-le-zero h)) (λ s h. remainders_below n _ held.some)

    store : Store after n 0
    store =
        let size = length-layout (load seed n f) load_laid in
        record {
          long = omega (arith, held.long, size, ap length (left_is e), length-overwrite (layout (load seed n f)) before (omega (arith, held.long, size)));
          draft = λ z. refl;
          small = held.small;
          few = omega arith;
          clean = clean_malformed after n 0 clean;
        }

    table : sets new_form (dialogue_of after n 0) ≡ sets new_form (load seed n f)
    unfolding load load_from
    table = holds-sets after (load seed n f) holds refl (omega arith) held.small

    none-resting : set_at after resting_at ≡ empty
    unfolding load load_from
    none-resting = holds.resting

  refusal : (k : ℕ) → generated_of r ≡ refused k → (k ≡ refuse (generate_grounds n f (length before))) × (after ≡ before)
  unfolding generate_answer
  refusal k e = (refused-is (generate_grounds n f (length before)) tt (sym called.0 ∙ e), left_is e)

  past : drop store_words after ≡ drop store_words before
  past = ap (drop store_words) (left_is refl) ∙ go (generated_of r)
    where
      go : (a : Answered (Unit {0})) → drop store_words (left a) ≡ drop store_words before
      go (refused k) = refl
      go (answered done) =
          let t = load seed n f in
          drop-overwrite (layout t) before store_words (length-layout t load_laid)

pub loads : Loads
loads =
    record {
      accepted = λ seed n f before r after called e. accepts after n 0 (store seed n f before r after called e);
      table = table;
      none-resting = none-resting;
      refusal = λ seed n f before r after k called. refusal seed n f before r after called k;
      past = past;
    }
