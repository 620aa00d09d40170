-- The call distances: the distance of each state in a lent buffer (Paths.distance), refusals included.
--
--   distances_grounds     the grounds in order; `room` is the places that the buffer has
--   distances_answer      the answer, which has no value
--   distances_buffer      the buffer at exit: the distances of the n states at its front, the places past n untouched
--   distances_of          what the answer says
--   CalledDistances      a call and what it gave: the contract of `distances`
use Rattle.std.specs.Prelude.{ℕ, ◌≡◌, List, [], ◌∷◌, ◌++◌, ltb, Result, length}
use Rattle.basics.specs.Bounds.{tabulate}
use Rattle.basics.specs.Refusals.{Ground, Answered, answer, unless_refused}
use Rattle.core_refusals.specs.declared.Refusal.{Refusal}
use Rattle.core_refusals.specs.Refusals.{answer_of}
use Rattle.model.specs.Paths.{distance}
use Rattle.model.specs.Stores.{table_of, shared_grounds}
use Rattle.model.specs.Calls.{overwrite}

unfoldable pub distances_grounds : List ℕ → ℕ → ℕ → ℕ → List Ground
distances_grounds store n g room = shared_grounds store n g ++ ((ltb room n, 23) ∷ [])

unfoldable pub distances_answer : List ℕ → ℕ → ℕ → ℕ → Answered (Unit {0})
distances_answer store n g room = answer (distances_grounds store n g room) tt

unfoldable pub distances_buffer : List ℕ → ℕ → ℕ → List ℕ → List ℕ
distances_buffer store n g before =
    unless_refused before (λ done. overwrite (tabulate n (distance (table_of store n g))) before) (distances_answer store n g (length before))

abbrev pub distances_of : Result (Unit {0}) Refusal → Answered (Unit {0})
distances_of = answer_of (λ done. done)

abbrev pub CalledDistances : List ℕ → ℕ → ℕ → List ℕ → Result (Unit {0}) Refusal → List ℕ → Type 0
CalledDistances store n g before r after =
    (distances_of r ≡ distances_answer store n g (length before)) × (after ≡ distances_buffer store n g before)
