-- What is promised of the call decide_modal; `ModalKept.modal_promises` proves it.
--
--   Choice store n possible row     rows that have each certain step and no step that is not possible, state by state (an implementation of the modal
--                                   transition system)
--   Safe, Unsafe                    no path leads from an initial to a forbidden state; some path does
--   OfChoices                       what the verdict says of every choice
--   ComesWith                       what comes with the verdict: what a release check gives, on the certain or on the possible steps
--   AsDecide                        where both rows of each state are equal: what decide answers
--   ModalPromises                   of every call
--
-- A call and what it gave is `CalledModal`, the contract of decide_modal.
use Rattle.std.specs.Prelude.{ℕ, suc, ◌*◌, ◌≤◌, ◌<◌, ◌≡◌, ◌⊎◌, ◌↔◌, true, false, List, length, get_or, take}
use Rattle.model.specs.Sets.{WORDS, max_states, Set, member, empty, subset}
use Rattle.model.specs.Tables.{Table}
use Rattle.model.specs.Paths.{is_path, smallest_path}
use Rattle.basics.specs.Refusals.{refuse, refused, answered}
use Rattle.model.specs.Stores.{store_words, row_at, set_at, shared_grounds, AcceptedStore}
use Rattle.model.specs.Calls.{overwrite, release, Decision, decide_answer, decide_buffer}
use Rattle.model.specs.Promises.{IsInvariant, IsSmallest}
use Rattle.call_modal.specs.Modal.{possible_words, certain_row, possible_row, modal_table, certain_table, possible_table, certain_impossible, release_check, modal_grounds, ModalAnswer, modal_answer, modal_buffer}
use Rattle.call_modal.specs.ModalAnswers.{ModalDecision, modal_decided_of, invariant_given, CalledModal}

pub record Choice (store : List ℕ) (n : ℕ) (possible : List ℕ) (row : ℕ → Set) : Type 0 where
  pub has_certain : (s : ℕ) → subset (certain_row store n s) (row s) ≡ true
  pub within-possible : (s : ℕ) → subset (row s) (possible_row possible n s) ≡ true

abbrev pub Safe : Table → Type 0
Safe t = (xs : List ℕ) → is_path t xs ≡ true → ⊥

abbrev pub Unsafe : Table → Type 0
Unsafe t = (xs : List ℕ) × (is_path t xs ≡ true)

pub record OfChoices (store : List ℕ) (n g : ℕ) (possible : List ℕ) (a : ModalAnswer) : Type 0 where
  pub verdict : (a.verdict ≡ 0) ⊎ ((a.verdict ≡ 1) ⊎ (a.verdict ≡ 3))
  pub safe : (a.verdict ≡ 0) ↔ ((row : ℕ → Set) → Choice store n possible row → Safe (modal_table store n g possible row))
  pub unsafe : (a.verdict ≡ 1) ↔ ((row : ℕ → Set) → Choice store n possible row → Unsafe (modal_table store n g possible row))
  -- the certain steps alone are then a safe choice, all possible ones an unsafe one
  pub depends : a.verdict ≡ 3 → Safe (certain_table store n g possible) × Unsafe (possible_table store n g possible)
  pub certain_choice : Choice store n possible (certain_row store n)
  pub possible_choice : Choice store n possible (possible_row possible n)
  -- a choice is safe, or unsafe, exactly if a release check says so
  pub checked_safe : (row : ℕ → Set) → Choice store n possible row
      → ((release_check (modal_table store n g possible row)).verdict ≡ 0) ↔ Safe (modal_table store n g possible row)
  pub checked_unsafe : (row : ℕ → Set) → Choice store n possible row
      → ((release_check (modal_table store n g possible row)).verdict ≡ 1) ↔ Unsafe (modal_table store n g possible row)

-- What a release check gives: where it says safe, and where it says unsafe.
abbrev pub GivesInvariant : Table → ModalAnswer → Type 0
GivesInvariant t a =
    ((release_check t).verdict ≡ 0)
    × (a.invariant ≡ (release_check t).invariant)
    × (a.size ≡ (release_check t).size)
    × IsInvariant t a.invariant

abbrev pub GivesPath : Table → ModalAnswer → List ℕ → List ℕ → Type 0
GivesPath t a before after =
    ((release_check t).verdict ≡ 1)
    × (a.steps ≡ (release_check t).steps)
    × IsSmallest t (smallest_path t)
    × (length (smallest_path t) ≡ suc a.steps)
    × (after ≡ overwrite (smallest_path t) before)

pub record ComesWith (store : List ℕ) (n g : ℕ) (possible : List ℕ) (a : ModalAnswer) (before after : List ℕ) : Type 0 where
  pub with_safe : a.verdict ≡ 0 → GivesInvariant (possible_table store n g possible) a × (a.steps ≡ 0) × (after ≡ before)
  pub with_unsafe : a.verdict ≡ 1
      → GivesPath (certain_table store n g possible) a before after × (a.invariant ≡ empty) × (a.size ≡ 0)
  pub with_depends : a.verdict ≡ 3
      → GivesInvariant (certain_table store n g possible) a × GivesPath (possible_table store n g possible) a before after
  -- the one is an invariant, the other a path, of every choice
  pub invariant_of_each : a.verdict ≡ 0 → (row : ℕ → Set) → Choice store n possible row → IsInvariant (modal_table store n g possible row) a.invariant
  pub path_of_each : a.verdict ≡ 1 → (row : ℕ → Set) → Choice store n possible row
      → is_path (modal_table store n g possible row) (smallest_path (certain_table store n g possible)) ≡ true

pub record AsDecide (d : Decision) (left : List ℕ) (a : ModalAnswer) (after : List ℕ) : Type 0 where
  pub verdict : a.verdict ≡ d.verdict
  pub invariant : a.invariant ≡ d.invariant
  pub size : a.size ≡ d.size
  pub steps : a.steps ≡ d.steps
  pub buffer : after ≡ left

pub record ModalPromises : Type 0 where
  -- of every call that is answered
  pub choices : (store : List ℕ) (n g : ℕ) (possible before : List ℕ) (r : ModalDecision) (after : List ℕ) (a : ModalAnswer)
      → CalledModal store n g possible before r after → modal_decided_of r ≡ answered a → OfChoices store n g possible a
  pub comes_with : (store : List ℕ) (n g : ℕ) (possible before : List ℕ) (r : ModalDecision) (after : List ℕ) (a : ModalAnswer)
      → CalledModal store n g possible before r after → modal_decided_of r ≡ answered a → ComesWith store n g possible a before after
  pub equal_rows : (store : List ℕ) (n g : ℕ) (possible before : List ℕ) (r : ModalDecision) (after : List ℕ) (a : ModalAnswer)
      → CalledModal store n g possible before r after → modal_decided_of r ≡ answered a
      → ((s : ℕ) → s < n → set_at possible (WORDS * s) ≡ set_at store (row_at s))
      → (d : Decision) × (decide_answer store n g release (length before) ≡ answered d) × AsDecide d (decide_buffer store n g release before) a after
  -- such a call is answered, where the store is accepted, the words of unused rows are 0, and there is room
  pub equal_rows-answered : (store : List ℕ) (n g : ℕ) (possible before : List ℕ) (r : ModalDecision) (after : List ℕ)
      → CalledModal store n g possible before r after → AcceptedStore store n g → possible_words ≤ length possible → max_states ≤ length before
      → ((s : ℕ) → s < n → set_at possible (WORDS * s) ≡ set_at store (row_at s))
      → ((i : ℕ) → WORDS * n ≤ i → i < possible_words → get_or possible i 0 ≡ 0) → (a : ModalAnswer) × (modal_decided_of r ≡ answered a)
  -- ground 28: some state of the table has a certain step that is not possible
  pub impossible : (store : List ℕ) (n : ℕ) (possible : List ℕ)
      → (certain_impossible store n possible ≡ true)
      ↔ ((s : ℕ) × (u : ℕ) × (s < n) × (member (set_at store (row_at s)) u ≡ true) × (member (set_at possible (WORDS * s)) u ≡ false))
  -- of every call that is refused: the number of the first ground that holds; the set beside it is empty, and the buffer is as it was
  pub refusal : (store : List ℕ) (n g : ℕ) (possible before : List ℕ) (r : ModalDecision) (after : List ℕ) (k : ℕ)
      → CalledModal store n g possible before r after → modal_decided_of r ≡ refused k
      → (k ≡ refuse (modal_grounds store n g possible (length before))) × (invariant_given r ≡ empty) × (after ≡ before)
  -- a table without states is safe where the words of possible steps are all 0, and is refused with 17 where one is not
  pub draft : (store possible before : List ℕ) → refuse (shared_grounds store 0 0) ≡ 0 → possible_words ≤ length possible → max_states ≤ length before
      → ((i : ℕ) → i < possible_words → get_or possible i 0 ≡ 0)
      → modal_answer store 0 0 possible (length before) ≡ answered (record { verdict = 0; invariant = empty; size = 0; steps = 0 })
  pub draft_17 : (store possible before : List ℕ) → refuse (shared_grounds store 0 0) ≡ 0 → possible_words ≤ length possible
      → (i : ℕ) → i < possible_words → (get_or possible i 0 ≡ 0 → ⊥) → modal_answer store 0 0 possible (length before) ≡ refused 17
  -- none but the first words of the store and of the possible steps is read
  pub first-words : (store store' possible possible' : List ℕ) (n g : ℕ) (path : List ℕ)
      → store_words ≤ length store → store_words ≤ length store' → take store_words store ≡ take store_words store'
      → possible_words ≤ length possible → possible_words ≤ length possible' → take possible_words possible ≡ take possible_words possible'
      → (modal_answer store n g possible (length path) ≡ modal_answer store' n g possible' (length path))
      × (modal_buffer store n g possible path ≡ modal_buffer store' n g possible' path)
