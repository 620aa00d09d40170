-- The call generate, refused and answered.
--
--   Accepted, accepted-load     what it says of n, f and the store that no ground holds
--   refused_load, filled_load   what was returned and left in the store, where a ground holds and where none does
use Rattle.std.proofs.Common.{◌≡◌, ℕ, ◌+◌, ◌*◌, ◌<◌, ◌≤◌, eqb, ltb, List, [], length, Ok, Err, sym, refl, ap, ◌∙◌, mul-le-mul, arith, ltb-false}
use borrow.Author.Tests.{eqb-false}
use Rattle.model.specs.Sets.{max_states}
use Rattle.basics.specs.Refusals.{refuse}
use Rattle.model.specs.Stores.{store_words, layout}
use Rattle.model.specs.Calls.{overwrite}
use Rattle.basics.proofs.BoundLaws.{or_false}
use Rattle.basics.proofs.RefusalLaws.{refuse_clear}
use Rattle.core_refusals.specs.declared.Refusal.{Refusal}
use Rattle.core_refusals.specs.Refusals.{number}
use Rattle.core_refusals.proofs.RefusalNumbers.{answer_refused, answer_given}
use Rattle.call_generate.specs.Load.{max_fan_out, long_lag, numbers, load_from, load, generate_grounds, generate_answer, generate_buffer}
use Rattle.call_generate.specs.GenerateAnswers.{CalledGenerate}

pub record Accepted (n f room : ℕ) : Type 0 where
  pub long : store_words ≤ room
  pub some : 0 < n
  pub small : n ≤ max_states
  -- so many numbers does the largest load take
  pub most : n * f ≤ max_states * max_fan_out

pub accepted-load : (n f room : ℕ) → 0 ≡ refuse (generate_grounds n f room) → Accepted n f room
unfolding generate_grounds
accepted-load n f room z =
    let clear = (refuse_clear (generate_grounds n f room) [] refl (sym z)).0 in
    let states = or_false (eqb n 0) (ltb max_states n) clear.1.0 in
    let small = ltb-false max_states n states.1 in
    record {
      long = ltb-false room store_words clear.0;
      some = omega (arith, eqb-false n 0 states.0);
      small = small;
      most = mul-le-mul small (ltb-false max_fan_out f clear.1.1.0);
    }

module _ (seed n f : ℕ) (before : List ℕ) where
  pub refused_load : (r : Refusal) → number r ≡ refuse (generate_grounds n f (length before)) → CalledGenerate seed n f before (Err r) before
  unfolding generate_answer generate_buffer
  refused_load r e = let no = answer_refused (λ done. done) (generate_grounds n f (length before)) tt r e in (no, rw (← no))

  pub filled_load : 0 ≡ refuse (generate_grounds n f (length before)) → (after xs : List ℕ) → xs ≡ numbers seed (long_lag + n * f)
      → after ≡ overwrite (layout (load_from xs n f)) before → CalledGenerate seed n f before (Ok tt) after
  unfolding generate_grounds generate_answer generate_buffer load
  filled_load z after xs is made =
      let given = answer_given (λ done. done) (generate_grounds n f (length before)) tt tt refl z refl in
      (given, made ∙ ap (λ ys. overwrite (layout (load_from ys n f)) before) is ∙ rw (← given))
