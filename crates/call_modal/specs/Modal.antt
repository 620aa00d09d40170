-- Tables some of whose steps are only possible (a modal transition system: certain steps are its must steps, possible ones its may
-- steps), and the call decide_modal (the specification, "Possible steps").
--
--   possible_words                      the words that the rows of possible steps take: row s begins at WORDS * s
--   certain_row, possible_row            the certain steps, in the store; the possible ones, in the second buffer
--   modal_forbidden store n possible    the forbidden states, the same for every choice: marked, or a hang by the possible steps
--   table_with, modal_table              the store's table with other forbidden states and rows; with these forbidden states
--   release_check t                     what a release check says of a table
--   malformed_rows, certain_impossible           ground 17 of the second buffer; ground 28: a certain step that is not possible
--   modal_grounds                       the grounds, in order
--   ModalAnswer, modal_of               the answer; that of the two release checks
--   modal_answer, modal_buffer           what the call returns, and the path buffer at exit
use Rattle.std.specs.Prelude.{ℕ, ◌*◌, Bool, cond, not, ◌||◌, List, [], ◌∷◌, eqb, ltb, length}
use Rattle.basics.specs.Bounds.{any}
use Rattle.model.specs.Sets.{WORDS, max_states, Set, empty, union, subset}
use Rattle.model.specs.Tables.{Table, hangs}
use Rattle.model.specs.Rounds.{run}
use Rattle.model.specs.Paths.{smallest_path}
use Rattle.basics.specs.Refusals.{Ground, Answered, answer, unless_refused}
use Rattle.model.specs.Stores.{max_groups, store_words, row_at, set_at, dialogue_of, beyond, non_zero, malformed, bad_states}
use Rattle.model.specs.Calls.{overwrite, release, Decision, decision_of, path_ground}

-- ---- the two rows of a state

abbrev pub possible_words : ℕ
possible_words = WORDS * max_states

abbrev pub certain_row : List ℕ → ℕ → ℕ → Set
certain_row store n = (dialogue_of store n 0).row

abbrev pub possible_row : List ℕ → ℕ → ℕ → Set
possible_row possible n = λ s. cond (ltb s n) (set_at possible (WORDS * s)) empty

-- ---- the table of a choice of rows

unfoldable pub table_with : List ℕ → ℕ → ℕ → Set → (ℕ → Set) → Table
unfolding dialogue_of
table_with store n g forbidden row =
    let d = dialogue_of store n g in
    record { n = n; initial = d.initial; forbidden = forbidden; groups = d.groups; row = row }

unfoldable pub modal_forbidden : List ℕ → ℕ → List ℕ → Set
unfolding dialogue_of
modal_forbidden store n possible =
    let d = dialogue_of store n 0 in
    union d.marked (hangs n (possible_row possible n) d.resting)

abbrev pub modal_table : List ℕ → ℕ → ℕ → List ℕ → (ℕ → Set) → Table
modal_table store n g possible row = table_with store n g (modal_forbidden store n possible) row

abbrev pub certain_table : List ℕ → ℕ → ℕ → List ℕ → Table
certain_table store n g possible = modal_table store n g possible (certain_row store n)

abbrev pub possible_table : List ℕ → ℕ → ℕ → List ℕ → Table
possible_table store n g possible = modal_table store n g possible (possible_row possible n)

-- ---- refusals

-- A 1 bit for a state from n up, or a word of an unused row not 0.
unfoldable pub malformed_rows : List ℕ → ℕ → Bool
malformed_rows possible n = any n (λ s. beyond n (set_at possible (WORDS * s))) || non_zero possible (WORDS * n) possible_words

-- A certain step is not possible.
unfoldable pub certain_impossible : List ℕ → ℕ → List ℕ → Bool
certain_impossible store n possible = any n (λ s. not (subset (set_at store (row_at s)) (set_at possible (WORDS * s))))

unfoldable pub modal_grounds : List ℕ → ℕ → ℕ → List ℕ → ℕ → List Ground
modal_grounds store n g possible room =
    (ltb (length store) store_words || ltb (length possible) possible_words, 10)
    ∷ (bad_states n g, 14)
    ∷ (ltb max_groups g, 15)
    ∷ (malformed store n g || malformed_rows possible n, 17)
    ∷ (certain_impossible store n possible, 28)
    ∷ path_ground room
    ∷ []

-- ---- the answer

pub record ModalAnswer : Type 0 where
  pub verdict : ℕ  -- 0 safe, 1 unsafe, 3 depends
  pub invariant : Set  -- empty where unsafe
  pub size : ℕ  -- of the invariant
  pub steps : ℕ  -- d, 0 where safe

unfoldable pub release_check : Table → Decision
release_check t = decision_of t (run t release)

-- From the release checks on the certain and on the possible steps.
unfoldable pub modal_of : Decision → Decision → ModalAnswer
modal_of certain possible =
    let safe : ModalAnswer = record { verdict = 0; invariant = possible.invariant; size = possible.size; steps = 0 } in
    let unsafe : ModalAnswer = record { verdict = 1; invariant = empty; size = 0; steps = certain.steps } in
    let depends : ModalAnswer = record { verdict = 3; invariant = certain.invariant; size = certain.size; steps = possible.steps } in
    cond (eqb possible.verdict 0) safe (cond (eqb certain.verdict 1) unsafe depends)

unfoldable pub modal_answer : List ℕ → ℕ → ℕ → List ℕ → ℕ → Answered ModalAnswer
modal_answer store n g possible room =
    answer (modal_grounds store n g possible room)
    (modal_of (release_check (certain_table store n g possible)) (release_check (possible_table store n g possible)))

-- The path that belongs to an answer: on the certain steps where unsafe, on the possible ones where it depends.
unfoldable pub modal_written : Table → Table → ℕ → List ℕ → List ℕ
modal_written certain possible verdict path =
    let unsafe = overwrite (smallest_path certain) path in
    let depends = overwrite (smallest_path possible) path in
    cond (eqb verdict 1) unsafe (cond (eqb verdict 3) depends path)

unfoldable pub modal_buffer : List ℕ → ℕ → ℕ → List ℕ → List ℕ → List ℕ
modal_buffer store n g possible path =
    unless_refused path (λ a. modal_written (certain_table store n g possible) (possible_table store n g possible) a.verdict path)
    (modal_answer store n g possible (length path))
