-- What is promised of an edit session, of calls and what they gave (`CalledOpen`, `CalledEdit`, their contracts). The proofs stand in
-- proofs/SessionKept.antt.
--
--   in_row s i, names es i        word i is of row s; of a row that an edit of the list names
--   step_after es a b was         whether a → b exists after a list of edits, if it did before or not: the last edit that names it decides
--   counted n es                 the list without the edits that are refused
--   Ran                          a run of calls over a list of edits: each is given the store and the set that the one before left
--   SessionIs                    what holds after a run in which the edits es were not refused
--   FirstWords                   of every call on two stores that are alike in their first words: none after them is read or changed
--   SessionPromises              of every session that was opened; of every refused call, and of every edit
use Rattle.std.specs.Prelude.{ℕ, ◌+◌, ◌/◌, ◌^◌, ◌≤◌, ◌<◌, ◌≡◌, Bool, true, false, cond, ◌&&◌, ◌||◌, List, [], ◌∷◌, eqb, leb, ltb, length, get_or, take, drop}
use Rattle.basics.specs.Refusals.{refuse, refused, answered}
use Rattle.model.specs.Sets.{WORDS, Set, member, empty, single, union, subset, first_states}
use Rattle.model.specs.Stores.{store_words, row_at, table_of, shared_grounds, AcceptedStore}
use Rattle.model.specs.RoundTrip.{Bounded}
use Rattle.core_reach.specs.Reached.{reachable}
use Rattle.call_edit_session.specs.Edits.{Edit, add, remove, source, target, adds, changes_nothing, edited, opened, open_answer, no_states, edit_grounds, edit_answer, edit_buffer}
use Rattle.call_edit_session.specs.SessionAnswers.{Session, session_of, held_after, CalledOpen, CalledEdit}

unfoldable pub in_row : ℕ → ℕ → Bool
in_row s i = leb (row_at s) i && ltb i (row_at s + WORDS)

unfoldable pub names : List Edit → ℕ → Bool
names [] i = false
names (e ∷ es) i = in_row (source e) i || names es i

unfoldable pub step_after : List Edit → ℕ → ℕ → Bool → Bool
step_after [] a b was = was
step_after (e ∷ es) a b was = step_after es a b (cond (eqb a (source e) && eqb b (target e)) (adds e) was)

-- A refused edit counts as no edit. In a session that was opened those with a state number of n or more are refused, and no other
-- (`SessionPromises.refused_where`).
unfoldable pub counted : ℕ → List Edit → List Edit
counted n [] = []
counted n (e ∷ es) = cond (no_states n (source e) (target e)) (counted n es) (e ∷ counted n es)

abbrev pub Ran : ℕ → ℕ → List ℕ → Set → List Edit → List ℕ → Set → Type 0
Ran n g store X [] after Y = (after ≡ store) × (Y ≡ X)
Ran n g store X (e ∷ es) after Y =
    (r : Session) × (next : List ℕ) × CalledEdit store n g X e r next × Ran n g next (held_after X r) es after Y

pub record SessionIs (n g : ℕ) (store : List ℕ) (es : List Edit) (after : List ℕ) (Y : Set) : Type 0 where
  -- the set is the one worked out afresh from the table as edited
  pub reachable-is : Y ≡ opened (table_of after n g)
  -- whose steps are those that the list leaves
  pub steps : (a b : ℕ) → a < n → b < n → member ((table_of after n g).row a) b ≡ step_after es a b (member ((table_of store n g).row a) b)
  -- only words of the named rows have changed: the initial, marked and resting states are the same, and the groups, and all other rows. (The
  -- forbidden states of the table may differ: an edit can give a hang a way out, or make one.)
  pub rows : (i : ℕ) → names es i ≡ false → get_or after i 0 ≡ get_or store i 0
  pub long : length after ≡ length store
  pub accepted : AcceptedStore after n g

pub record FirstWords (store other : List ℕ) : Type 0 where
  pub opening : (n g : ℕ) → open_answer store n g ≡ open_answer other n g
  pub edit : (n g : ℕ) (X : Set) (e : Edit) → edit_answer store n g X e ≡ edit_answer other n g X e
  pub buffer : (n g : ℕ) (e : Edit) → take store_words (edit_buffer store n g e) ≡ take store_words (edit_buffer other n g e)
  pub rest : (n g : ℕ) (e : Edit) → drop store_words (edit_buffer store n g e) ≡ drop store_words store

pub record SessionPromises : Type 0 where
  pub session : (store : List ℕ) (n g : ℕ) (r : Session) (X : Set) → CalledOpen store n g r → session_of r ≡ answered X
      → (es : List Edit) (after : List ℕ) (Y : Set) → Ran n g store X es after Y → SessionIs n g store (counted n es) after Y
  -- a refused call gives the number of the first ground that holds; an opening the empty set, an edit the set that it was handed, and the store
  -- is as it was
  pub open_refusal : (store : List ℕ) (n g : ℕ) (r : Session) (k : ℕ) → CalledOpen store n g r → session_of r ≡ refused k
      → (k ≡ refuse (shared_grounds store n g)) × (held_after empty r ≡ empty)
  pub edit-refusal : (store : List ℕ) (n g : ℕ) (X : Set) (e : Edit) (r : Session) (after : List ℕ) (k : ℕ)
      → CalledEdit store n g X e r after → session_of r ≡ refused k
      → (k ≡ refuse (edit_grounds store n g (source e) (target e))) × (held_after X r ≡ X) × (after ≡ store)
  -- where opening would be accepted, an edit is refused exactly if either state number is n or more, with 27; so every edit of a table without states
  pub refused_where : (store : List ℕ) (n g : ℕ) (X : Set) (e : Edit) (r : Session) (after : List ℕ)
      → CalledEdit store n g X e r after → AcceptedStore store n g
      → session_of r ≡ cond (no_states n (source e) (target e)) (refused 27) (answered (held_after X r))
  -- one word at most changes: that of the step
  pub one_word : (store : List ℕ) (n g : ℕ) (X : Set) (e : Edit) (r : Session) (after : List ℕ)
      → CalledEdit store n g X e r after → Bounded (2 ^ 64) store
      → (i : ℕ) → (i ≡ row_at (source e) + target e / 64 → ⊥) → get_or after i 0 ≡ get_or store i 0
  -- for any set X handed in: a step to add that exists, or one to remove that does not, changes nothing
  pub nothing : (store : List ℕ) (n g : ℕ) (X : Set) (e : Edit) (r : Session) (after : List ℕ) (Y : Set)
      → CalledEdit store n g X e r after → session_of r ≡ answered Y → member ((table_of store n g).row (source e)) (target e) ≡ adds e
      → (Y ≡ X) × (after ≡ store)
  -- a step added from a state outside of X leaves X alone; a new one from a state of X joins all that the target reaches
  pub unreached : (store : List ℕ) (n g : ℕ) (X : Set) (a b : ℕ) (r : Session) (after : List ℕ) (Y : Set)
      → CalledEdit store n g X (add a b) r after → session_of r ≡ answered Y → member X a ≡ false → Y ≡ X
  pub reached : (store : List ℕ) (n g : ℕ) (X : Set) (a b : ℕ) (r : Session) (after : List ℕ) (Y : Set)
      → CalledEdit store n g X (add a b) r after → session_of r ≡ answered Y → member ((table_of store n g).row a) b ≡ false → member X a ≡ true
      → Y ≡ union X (reachable (table_of after n g) (single b))
  -- a step taken out: what can be reached from the initial states
  pub removed : (store : List ℕ) (n g : ℕ) (X : Set) (a b : ℕ) (r : Session) (after : List ℕ) (Y : Set)
      → CalledEdit store n g X (remove a b) r after → session_of r ≡ answered Y → member ((table_of store n g).row a) b ≡ true
      → Y ≡ opened (table_of after n g)
  -- an addition keeps what was handed in, states from n up among it; a removal that takes a step out gives states of the table only
  pub keeps : (store : List ℕ) (n g : ℕ) (X : Set) (a b : ℕ) (r : Session) (after : List ℕ)
      → CalledEdit store n g X (add a b) r after → subset X (held_after X r) ≡ true
  pub drops : (store : List ℕ) (n g : ℕ) (X : Set) (a b : ℕ) (r : Session) (after : List ℕ) (Y : Set)
      → CalledEdit store n g X (remove a b) r after → session_of r ≡ answered Y → changes_nothing store (remove a b) ≡ false
      → subset Y (first_states n) ≡ true
  -- what the target reaches is the same in the table before the step is added and after
  pub target_reaches : (store : List ℕ) (n g : ℕ) (a b : ℕ) → refuse (edit_grounds store n g a b) ≡ 0
      → reachable (table_of (edited store (add a b)) n g) (single b) ≡ reachable (table_of store n g) (single b)
  pub first-words : (store other : List ℕ) → store_words ≤ length store → store_words ≤ length other → take store_words store ≡ take store_words other
      → FirstWords store other
