-- Which calls accept a table: each, where no ground that the calls share holds of its store, and what the call is given beside the store is in its
-- bounds. `AcceptingKept.every_call` proves it.
--
--   Accepting store n g     every call that is lent a table accepts this one
--   EveryCall               of every store that passes the shared grounds: so of a load, and of a file that was read
--   ExactPlaces             as many places as states are enough for distances, and one fewer is too few
use Rattle.std.specs.Prelude.{ℕ, ◌%◌, ◌≤◌, ◌<◌, ◌≡◌, Bool, false, List, Result, length}
use Rattle.basics.specs.Bounds.{tabulate}
use Rattle.basics.specs.Refusals.{refused, answered}
use Rattle.model.specs.Sets.{max_states, Set}
use Rattle.model.specs.Paths.{distance}
use Rattle.model.specs.Stores.{table_of, AcceptedStore}
use Rattle.model.specs.Calls.{TableRead as ReadAnswer}
use Rattle.call_paths.specs.Within.{within_answer}
use Rattle.core_refusals.specs.declared.Refusal.{Refusal}
use Rattle.call_distances.specs.Distances.{distances_answer, distances_of, CalledDistances}
use Rattle.call_first_order.specs.OrderAnswers.{OrderAnswer, order_answer}
use Rattle.file_reading.specs.declared.TableSize.{TableSize}
use Rattle.file_reading.specs.ReadAnswers.{read_of, CalledRead}
use Rattle.call_generate.specs.GenerateAnswers.{generated_of, CalledGenerate}
use Rattle.call_generate.specs.Loads.{Accepts}
use Rattle.call_replay.specs.Logs.{entry_bytes, max_log, Replay, replay_answer}
use Rattle.call_edit_session.specs.Edits.{Edit, source, target, open_answer, edit_answer}
use Rattle.call_modal.specs.Modal.{possible_words, malformed_rows, certain_impossible, ModalAnswer, modal_answer}

pub record Accepting (store : List ℕ) (n g : ℕ) : Type 0 where
  pub write-decide-shortest : Accepts store n g
  -- a place for each state
  pub distances : (room : ℕ) → n ≤ room → distances_answer store n g room ≡ answered tt
  pub within : (k : ℕ) → (a : Bool) × (within_answer store n g k ≡ answered a)
  pub first_order : (a : OrderAnswer) × (order_answer store n g ≡ answered a)
  -- a log of whole entries, not too long
  pub replay : (log : List ℕ) → length log % entry_bytes ≡ 0 → length log ≤ max_log → (a : Replay) × (replay_answer store n g log ≡ answered a)
  pub opening : (X : Set) × (open_answer store n g ≡ answered X)
  -- a step between states of the table
  pub edit : (X : Set) (e : Edit) → source e < n → target e < n → (Y : Set) × (edit_answer store n g X e ≡ answered Y)
  -- rows of possible steps that are well formed too and hold the certain ones
  pub decide_modal : (possible : List ℕ) (room : ℕ) → possible_words ≤ length possible → malformed_rows possible n ≡ false → certain_impossible store n possible ≡ false
      → max_states ≤ room → (a : ModalAnswer) × (modal_answer store n g possible room ≡ answered a)

pub record EveryCall : Type 0 where
  pub accepted : (store : List ℕ) (n g : ℕ) → AcceptedStore store n g → Accepting store n g
  -- what generate filled
  pub load : (seed n f : ℕ) (before : List ℕ) (r : Result (Unit {0}) Refusal) (after : List ℕ)
      → CalledGenerate seed n f before r after → generated_of r ≡ answered tt → Accepting after n 0
  -- what read filled
  pub file : (input : List ℕ) (site : ℕ) (before : List ℕ) (r : Result TableSize Refusal) (after : List ℕ) (a : ReadAnswer)
      → CalledRead input site before r after → read_of r ≡ answered a → Accepting after a.n a.g

-- Of every table that passes the shared grounds.
pub record ExactPlaces : Type 0 where
  pub enough : (store : List ℕ) (n g : ℕ) (before : List ℕ) (r : Result (Unit {0}) Refusal) (after : List ℕ)
      → AcceptedStore store n g → CalledDistances store n g before r after → length before ≡ n
      → (distances_of r ≡ answered tt) × (after ≡ tabulate n (distance (table_of store n g)))
  pub too_few : (store : List ℕ) (n g : ℕ) (before : List ℕ) (r : Result (Unit {0}) Refusal) (after : List ℕ)
      → AcceptedStore store n g → CalledDistances store n g before r after → length before < n
      → (distances_of r ≡ refused 23) × (after ≡ before)
