-- Demands 1 and 2 (docs/PROMISES.md, "Demands") of the call shortest path itself: of its result, and of the path buffer before and after. `refusal` is of
-- demand 1, `path` of demand 2.
--
--   PathDemands    what holds of every call that is refused, and of every one that is answered
--
-- A call and what it gave is `CalledShortest`, the contract of shortest_path.
use Rattle.std.specs.Prelude.{ℕ, ◌≡◌, List, Option, Result, length}
use Rattle.basics.specs.Refusals.{refuse, refused, answered}
use Rattle.model.specs.Stores.{table_of}
use Rattle.model.specs.Calls.{Shortest as Answer, shortest_grounds}
use Rattle.model.specs.Promises.{PathAnswer}
use Rattle.core_refusals.specs.declared.Refusal.{Refusal}
use Rattle.call_paths.specs.PathAnswers.{shortest_of, CalledShortest}

pub record PathDemands : Type 0 where
  -- a refused call: the number is that of the first ground that holds, and the buffer is as it was
  pub refusal : (store : List ℕ) (n g : ℕ) (before : List ℕ) (r : Result (Option ℕ) Refusal) (after : List ℕ) (k : ℕ)
      → CalledShortest store n g before r after → shortest_of r ≡ refused k
      → (k ≡ refuse (shortest_grounds store n g (length before))) × (after ≡ before)
  -- a path is found exactly where there is one, and it is the smallest of the shortest
  pub path : (store : List ℕ) (n g : ℕ) (before : List ℕ) (r : Result (Option ℕ) Refusal) (after : List ℕ) (a : Answer)
      → CalledShortest store n g before r after → shortest_of r ≡ answered a → PathAnswer (table_of store n g) a before after
