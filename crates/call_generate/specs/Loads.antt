-- What is promised of the call generate; `LoadsKept.loads` proves it.
--
--   Accepts store n g    no ground that the calls share holds of the store. So it is accepted by write, with output enough, by decide, with a path
--                        buffer and an allowance in bounds, and by shortest path, with a path buffer (by every other call: `theorems_calls`, Accepting)
--   Loads                of every call of generate: what it filled, what it left alone
use Rattle.std.specs.Prelude.{◌≡◌, ℕ, ◌≤◌, List, length, drop, Result}
use Rattle.basics.specs.Refusals.{refuse, refused, answered}
use Rattle.core_refusals.specs.declared.Refusal.{Refusal}
use Rattle.model.specs.Sets.{max_states, empty}
use Rattle.model.specs.Stores.{store_words, resting_at, set_at, dialogue_of, AcceptedStore}
use Rattle.model.specs.Blocks.{max_site}
use Rattle.model.specs.Contents.{new_form, sets}
use Rattle.model.specs.Files.{file_length}
use Rattle.model.specs.Calls.{max_allowance, Decision, decide_answer, Shortest, shortest_answer, write_answer}
use Rattle.call_generate.specs.Load.{load, generate_grounds}
use Rattle.call_generate.specs.GenerateAnswers.{generated_of, CalledGenerate}

pub record Accepts (store : List ℕ) (n g : ℕ) : Type 0 where
  pub held : AcceptedStore store n g
  pub write : (site room : ℕ) → site ≤ max_site → file_length new_form n g ≤ room → write_answer store n g site room ≡ answered (file_length new_form n g)
  pub decide : (allowance room : ℕ) → allowance ≤ max_allowance → max_states ≤ room → (a : Decision) × (decide_answer store n g allowance room ≡ answered a)
  pub shortest : (room : ℕ) → max_states ≤ room → (a : Shortest) × (shortest_answer store n g room ≡ answered a)

pub record Loads : Type 0 where
  -- for every accepted seed, n and f
  pub accepted : (seed n f : ℕ) (before : List ℕ) (r : Result (Unit {0}) Refusal) (after : List ℕ)
      → CalledGenerate seed n f before r after → generated_of r ≡ answered tt → Accepts after n 0
  -- the table in the store is the one that the seed gives
  pub table : (seed n f : ℕ) (before : List ℕ) (r : Result (Unit {0}) Refusal) (after : List ℕ)
      → CalledGenerate seed n f before r after → generated_of r ≡ answered tt → sets new_form (dialogue_of after n 0) ≡ sets new_form (load seed n f)
  -- no state of it is resting
  pub none-resting : (seed n f : ℕ) (before : List ℕ) (r : Result (Unit {0}) Refusal) (after : List ℕ)
      → CalledGenerate seed n f before r after → generated_of r ≡ answered tt → set_at after resting_at ≡ empty
  pub refusal : (seed n f : ℕ) (before : List ℕ) (r : Result (Unit {0}) Refusal) (after : List ℕ) (k : ℕ)
      → CalledGenerate seed n f before r after → generated_of r ≡ refused k
      → (k ≡ refuse (generate_grounds n f (length before))) × (after ≡ before)
  pub past : (seed n f : ℕ) (before : List ℕ) (r : Result (Unit {0}) Refusal) (after : List ℕ)
      → CalledGenerate seed n f before r after → drop store_words after ≡ drop store_words before
