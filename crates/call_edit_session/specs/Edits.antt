-- Steps added and removed (02: drawn and rubbed out; the specification, "Edit sessions").
--
--   Edit, source e, target e            a step to add or to remove; the states that it leads from and to; adds e: it is one to add
--   has_step store a b                   the step a → b exists
--   changes_nothing store e              a step to add that exists, or one to remove that does not
--   edited store e                      the store after an edit: row_after is the row of its source
--   opened t                            the states that can be reached from the initial ones, these included
--   reachable_after t X e                the set after an edit that makes t of the table
--   open_answer store n g                opening: the answer is the set
--   no_states n a b                      a or b is no state of a table of n states
--   edit_grounds store n g a b           the grounds of an edit, in order: those of opening come first
--   edit_answer, edit_buffer              an edit: the answer is the set after it, for any set X that was handed in; the store at exit
use Rattle.std.specs.Prelude.{ℕ, Bool, true, false, cond, not, ◌||◌, List, [], ◌∷◌, ◌++◌, leb}
use Rattle.basics.specs.Refusals.{Ground, Answered, answer, unless_refused}
use Rattle.model.specs.Sets.{Set, member, single, union, difference}
use Rattle.model.specs.Tables.{Table}
use Rattle.model.specs.Stores.{row_at, set_at, table_of, shared_grounds}
use Rattle.core_table.specs.Writing.{overwrite_from}
use Rattle.core_reach.specs.Reached.{reachable}

pub data Edit : Type 0 where
  add : ℕ → ℕ → Edit
  remove : ℕ → ℕ → Edit

abbrev pub source : Edit → ℕ
source (add a b) = a
source (remove a b) = a

abbrev pub target : Edit → ℕ
target (add a b) = b
target (remove a b) = b

abbrev pub adds : Edit → Bool
adds (add a b) = true
adds (remove a b) = false

-- ---- the table

unfoldable pub has_step : List ℕ → ℕ → ℕ → Bool
has_step store a b = member (set_at store (row_at a)) b

unfoldable pub changes_nothing : List ℕ → Edit → Bool
changes_nothing store (add a b) = has_step store a b
changes_nothing store (remove a b) = not (has_step store a b)

-- The successors X of an edit's source, after it.
unfoldable pub row_after : Set → Edit → Set
row_after X (add a b) = union X (single b)
row_after X (remove a b) = difference X (single b)

unfoldable pub edited : List ℕ → Edit → List ℕ
edited store e = let at = row_at (source e) in overwrite_from at (row_after (set_at store at) e) store

-- ---- the set

unfoldable pub opened : Table → Set
opened t = reachable t t.initial

-- From a state outside the set (02: unlit) it is left alone; from a state in it (lit) all that the target reaches is joined to it; a step less, and
-- it is worked out from the initial states.
unfoldable pub reachable_after : Table → Set → Edit → Set
reachable_after t X (add a b) = cond (member X a) (union X (reachable t (single b))) X
reachable_after t X (remove a b) = opened t

-- ---- the calls

unfoldable pub open_answer : List ℕ → ℕ → ℕ → Answered Set
open_answer store n g = answer (shared_grounds store n g) (opened (table_of store n g))

-- Either state number is n or more.
abbrev pub no_states : ℕ → ℕ → ℕ → Bool
no_states n a b = leb n a || leb n b

abbrev pub state_ground : ℕ → ℕ → ℕ → Ground
state_ground n a b = (no_states n a b, 27)

unfoldable pub edit_grounds : List ℕ → ℕ → ℕ → ℕ → ℕ → List Ground
edit_grounds store n g a b = shared_grounds store n g ++ (state_ground n a b ∷ [])

unfoldable pub edit_answer : List ℕ → ℕ → ℕ → Set → Edit → Answered Set
edit_answer store n g X e =
    answer (edit_grounds store n g (source e) (target e)) (cond (changes_nothing store e) X (reachable_after (table_of (edited store e) n g) X e))

unfoldable pub edit_buffer : List ℕ → ℕ → ℕ → Edit → List ℕ
edit_buffer store n g e =
    let after = cond (changes_nothing store e) store (edited store e) in
    unless_refused store (λ xs. xs) (answer (edit_grounds store n g (source e) (target e)) after)
