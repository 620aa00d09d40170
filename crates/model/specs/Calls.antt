-- The four calls: what each returns and leaves in its buffer, refusals included (the specification, "Paths", "Files" and "Refusals"). An
-- answer has the specification's numbers. A refused call gives its number and no answer, and leaves every buffer as it was.
--
--   max_allowance, release                  the greatest allowance, which is that of a release check
--   overwrite xs old                       xs at the front of a buffer that held old, the rest of it untouched
--   Decision, decide_answer, decide_buffer   decide: the grounds in order, the answer, the path buffer at exit
--   Shortest, shortest_answer, shortest_buffer           shortest path; path_found: with a path and without
--   states_in, groups_in                     n and g, as an input says; second_in: the second number
--   TableRead, read_answer, read_buffer      read: the grounds in order, the answer; the buffer is the store (..As form: of either form)
--   write_answer, write_buffer               write: the answer is the file's length, the buffer is the output
--
-- A buffer's length is the length of the list that it holds. Decide, shortest path and write are lent the store to read only. Read and write are
-- given the site of the file, any number.
use Rattle.std.specs.Prelude.{ℕ, ◌+◌, ◌*◌, ◌-◌, ◌/◌, ◌%◌, Bool, true, false, cond, not, ◌||◌, List, [], ◌∷◌, ◌++◌, eqb, ltb, length, drop}
use Rattle.basics.specs.Bounds.{any, concat}
use Rattle.model.specs.Sets.{max_states, Set, empty, size}
use Rattle.model.specs.Tables.{Table}
use Rattle.model.specs.Rounds.{Outcome, safe, unsafe, undecided, run}
use Rattle.model.specs.Paths.{shortest, has_path, smallest_path}
use Rattle.basics.specs.Refusals.{Ground, Answered, answer, unless_refused}
use Rattle.model.specs.Stores.{max_groups, dialogue_of, table_of, layout, beyond, non_zero, store_ground, table_grounds, shared_grounds}
use Rattle.model.specs.Blocks.{block_bytes, content_bytes, site_ground, le16_at, blocks_for, part, contents_of, block_grounds}
use Rattle.model.specs.Contents.{Form, new_form, heads, added, content_length, set_number, dialogue_in}
use Rattle.model.specs.Files.{file_of, file_length, max_file}

unfoldable pub overwrite : List ℕ → List ℕ → List ℕ
overwrite xs old = xs ++ drop (length xs) old

-- ---- decide

-- As many refinements as there can be states.
abbrev pub max_allowance : ℕ
max_allowance = max_states

abbrev pub release : ℕ
release = max_allowance

pub record Decision : Type 0 where
  pub verdict : ℕ  -- 0 safe, 1 unsafe, 2 undecided
  pub count : ℕ  -- of refinements
  pub invariant : Set  -- empty unless safe
  pub size : ℕ  -- of the invariant
  pub steps : ℕ  -- d, 0 unless unsafe

-- For a path buffer of `room` places.
abbrev pub path_ground : ℕ → Ground
path_ground room = (ltb room max_states, 21)

-- The grounds that decide adds to the shared ones.
abbrev pub decide_limits : ℕ → ℕ → List Ground
decide_limits allowance room = (ltb max_allowance allowance, 20) ∷ path_ground room ∷ []

unfoldable pub decide_grounds : List ℕ → ℕ → ℕ → ℕ → ℕ → List Ground
decide_grounds store n g allowance room = shared_grounds store n g ++ decide_limits allowance room

unfoldable pub decision_of : Table → Outcome → Decision
decision_of t (safe i R) = record { verdict = 0; count = i; invariant = R; size = size R; steps = 0 }
decision_of t (unsafe i) = record { verdict = 1; count = i; invariant = empty; size = 0; steps = shortest t }
decision_of t (undecided i) = record { verdict = 2; count = i; invariant = empty; size = 0; steps = 0 }

unfoldable pub decide_answer : List ℕ → ℕ → ℕ → ℕ → ℕ → Answered Decision
decide_answer store n g allowance room =
    let t = table_of store n g in
    answer (decide_grounds store n g allowance room) (decision_of t (run t allowance))

unfoldable pub decide_buffer : List ℕ → ℕ → ℕ → ℕ → List ℕ → List ℕ
decide_buffer store n g allowance path =
    let found = overwrite (smallest_path (table_of store n g)) path in
    unless_refused path (λ a. cond (eqb a.verdict 1) found path) (decide_answer store n g allowance (length path))

-- ---- shortest path

pub record Shortest : Type 0 where
  pub found : ℕ  -- 1 if there is a path, 0 if not
  pub steps : ℕ  -- d, 0 if there is none

unfoldable pub shortest_grounds : List ℕ → ℕ → ℕ → ℕ → List Ground
shortest_grounds store n g room = shared_grounds store n g ++ (path_ground room ∷ [])

abbrev pub path_found : Table → Bool → Shortest
path_found t true = record { found = 1; steps = shortest t }
path_found t false = record { found = 0; steps = 0 }

unfoldable pub shortest_answer : List ℕ → ℕ → ℕ → ℕ → Answered Shortest
shortest_answer store n g room =
    let t = table_of store n g in
    answer (shortest_grounds store n g room) (path_found t (has_path t))

unfoldable pub shortest_buffer : List ℕ → ℕ → ℕ → List ℕ → List ℕ
shortest_buffer store n g path =
    let found = overwrite (smallest_path (table_of store n g)) path in
    unless_refused path (λ a. cond (eqb a.found 1) found path) (shortest_answer store n g (length path))

-- ---- read

pub record TableRead : Type 0 where
  pub n : ℕ
  pub g : ℕ

-- n and g, as the contents of an input say: the second number is g with what the form adds.
abbrev pub states_in : List ℕ → ℕ
states_in input = le16_at (contents_of input) 0

abbrev pub second_in : List ℕ → ℕ
second_in input = le16_at (contents_of input) 2

abbrev pub groups_in : Form → List ℕ → ℕ
groups_in form input = second_in input - added form

-- The blocks in order, and the grounds in order in each.
unfoldable pub blocks_grounds : List ℕ → ℕ → List Ground
blocks_grounds input site = concat (length input / block_bytes) (λ k. block_grounds site (part input k) k)

-- The second number is below what the form adds, or over that and the greatest g.
unfoldable pub bad_second : Form → ℕ → Bool
bad_second form second = ltb second (added form) || ltb (added form + max_groups) second

-- Those after them, of contents that say n and a second number: here n is not 0.
unfoldable pub content_grounds : Form → List ℕ → ℕ → ℕ → List Ground
content_grounds form input n second =
    let g = second - added form in
    let blocks = length input / block_bytes in
    let bytes = contents_of input in
    (eqb n 0 || ltb max_states n, 14)
    ∷ (bad_second form second, 15)
    ∷ (not (eqb blocks (blocks_for (content_length form n g))), 16)
    ∷ (any (heads form + g + n) (λ k. beyond n (set_number bytes n k)), 17)
    ∷ (non_zero bytes (content_length form n g) (content_bytes * blocks), 18)
    ∷ []

unfoldable pub bad_length : List ℕ → Bool
bad_length input = not (eqb (length input % block_bytes) 0) || ltb max_file (length input)

unfoldable pub file_grounds : Form → List ℕ → ℕ → List Ground
file_grounds form input site =
    (bad_length input, 11)
    ∷ (blocks_grounds input site ++ content_grounds form input (states_in input) (second_in input))

-- An input of no bytes is the file of a draft: none of them is looked at.
unfoldable pub read_grounds_as : Form → List ℕ → ℕ → ℕ → List Ground
read_grounds_as form input site room = store_ground room ∷ site_ground site ∷ cond (eqb (length input) 0) [] (file_grounds form input site)

unfoldable pub read_answer_as : Form → List ℕ → ℕ → ℕ → Answered TableRead
read_answer_as form input site room =
    answer (read_grounds_as form input site room) (record { n = states_in input; g = groups_in form input })

unfoldable pub read_buffer_as : Form → List ℕ → ℕ → List ℕ → List ℕ
read_buffer_as form input site store =
    unless_refused store (λ a. overwrite (layout (dialogue_in form (contents_of input) a.n a.g)) store)
    (read_answer_as form input site (length store))

-- The call reads the new form.
abbrev pub read_grounds : List ℕ → ℕ → ℕ → List Ground
read_grounds = read_grounds_as new_form

abbrev pub read_answer : List ℕ → ℕ → ℕ → Answered TableRead
read_answer = read_answer_as new_form

abbrev pub read_buffer : List ℕ → ℕ → List ℕ → List ℕ
read_buffer = read_buffer_as new_form

-- ---- write

-- The call writes the new form. For an output of `room` bytes.
abbrev pub output_ground : ℕ → ℕ → ℕ → Ground
output_ground n g room = (ltb room (file_length new_form n g), 19)

unfoldable pub write_grounds : List ℕ → ℕ → ℕ → ℕ → ℕ → List Ground
write_grounds store n g site room = store_ground (length store) ∷ site_ground site ∷ (table_grounds store n g ++ (output_ground n g room ∷ []))

-- The length of the file.
unfoldable pub write_answer : List ℕ → ℕ → ℕ → ℕ → ℕ → Answered ℕ
write_answer store n g site room = answer (write_grounds store n g site room) (file_length new_form n g)

unfoldable pub write_buffer : List ℕ → ℕ → ℕ → ℕ → List ℕ → List ℕ
write_buffer store n g site output =
    unless_refused output (λ l. overwrite (file_of new_form site (dialogue_of store n g)) output) (write_answer store n g site (length output))
