-- What find_path and the call shortest path answer.
--
--   found_in t, path_written t path     find_path: the steps of a shortest path, and the buffer with the path at its front
--   steps_in                           those steps, or 0
--   shortest_of                        the call's answer, in the specification's numbers
--   CalledShortest                    a call of shortest_path and what it gave: its contract
use Rattle.std.specs.Prelude.{ℕ, ◌≡◌, cond, List, Option, Some, None, Result, length}
use Rattle.basics.specs.Refusals.{Answered}
use Rattle.core_refusals.specs.declared.Refusal.{Refusal}
use Rattle.core_refusals.specs.Refusals.{answer_of}
use Rattle.model.specs.Tables.{Table}
use Rattle.model.specs.Paths.{shortest, has_path, smallest_path}
use Rattle.model.specs.Calls.{overwrite, Shortest as Answer, shortest_answer, shortest_buffer}

unfoldable pub found_in : Table → Option ℕ
found_in t = cond (has_path t) (Some (shortest t)) None

-- the steps of the path that find_path found, or 0
abbrev pub steps_in : Option ℕ → ℕ
steps_in (Some d) = d
steps_in None = 0

unfoldable pub path_written : Table → List ℕ → List ℕ
path_written t path = cond (has_path t) (overwrite (smallest_path t) path) path

abbrev pub path_answer : Option ℕ → Answer
path_answer (Some steps) = record { found = 1; steps = steps }
path_answer None = record { found = 0; steps = 0 }

abbrev pub shortest_of : Result (Option ℕ) Refusal → Answered Answer
shortest_of = answer_of path_answer

-- The contract of shortest_path: its answer, and the path buffer before and after.
abbrev pub CalledShortest : List ℕ → ℕ → ℕ → List ℕ → Result (Option ℕ) Refusal → List ℕ → Type 0
CalledShortest store n g before r after =
    (shortest_of r ≡ shortest_answer store n g (length before)) × (after ≡ shortest_buffer store n g before)
