-- The call `rewrite` and its contract (the specification, "Rewriting an old file").
--
--   rested_store store n                             a store with the dead ends of its n states resting, and no other
--   rewrite_grounds, rewrite_answer, rewrite_buffer    the grounds in order, the answer, which is the new file's length, and the output at exit
--   CalledRewrite                                   a call and what it gave: its contract
use Rattle.std.specs.Prelude.{ℕ, ◌≡◌, List, [], ◌∷◌, ◌++◌, Result, ltb, length}
use Rattle.basics.specs.Refusals.{Ground, Answered, answer, unless_refused}
use Rattle.model.specs.Sets.{first_states, empty}
use Rattle.model.specs.Stores.{store_words, resting_at}
use Rattle.model.specs.Contents.{old_form}
use Rattle.model.specs.Calls.{overwrite, read_grounds_as}
use Rattle.core_rows.specs.Rows.{rows_of, meet_hold}
use Rattle.core_table.specs.Writing.{overwrite_from}
use Rattle.core_refusals.specs.declared.Refusal.{Refusal}
use Rattle.file_writing.specs.WriteAnswers.{written_of}
use Rattle.theorems_rewriting.specs.Rewriting.{new_file}

-- The states whose every successor is in the empty set have none.
unfoldable pub rested_store : List ℕ → ℕ → List ℕ
rested_store store n = overwrite_from resting_at (meet_hold (rows_of store) (first_states n) empty) store

-- Those on which the old form refuses a file, of site 0; then the output, of `room` bytes, is shorter than the new file.
unfoldable pub rewrite_grounds : List ℕ → ℕ → List Ground
rewrite_grounds input room = read_grounds_as old_form input 0 store_words ++ ((ltb room (length (new_file input)), 19) ∷ [])

unfoldable pub rewrite_answer : List ℕ → ℕ → Answered ℕ
rewrite_answer input room = answer (rewrite_grounds input room) (length (new_file input))

unfoldable pub rewrite_buffer : List ℕ → List ℕ → List ℕ
rewrite_buffer input output = unless_refused output (λ l. overwrite (new_file input) output) (rewrite_answer input (length output))

-- The output before the call and after it.
abbrev pub CalledRewrite : List ℕ → List ℕ → Result ℕ Refusal → List ℕ → Type 0
CalledRewrite input before r after =
    (written_of r ≡ rewrite_answer input (length before))
    × (after ≡ rewrite_buffer input before)
