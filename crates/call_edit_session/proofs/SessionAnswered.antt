-- The calls: their refusals, and their answers.
--
--   both_states, no_states_lem                   both numbers are states of the table, by the test
--   refuse-states                            where no ground holds that the calls share, that of the states decides
--   accepted_open                            no ground of opening holds, so the store holds a table
--   accepted                                 no ground holds, so the store holds a table, and both numbers are states of it
--   in_range                                 so their step has its word in the store
--   has_step_is, from_initial-is             the step's test; what the initial states reach
--   reached-opened, reached-target           what the code works out over the words of a store
--   after-added, after-removed, after-unreached        the set after an edit
--   added-nothing, added_changes, removed-nothing, removed_changes     whether an edit changes nothing, by the step's test
--   open_refused, open_answered              what opening answers
--   edit-refused, edit-nothing, edit_changes     what an edit answers
use Rattle.std.specs.Prelude.{Ok, Err}
use Prim.Native.Nat.{ℕ, ◌≤◌, ◌<◌}
use native.Mathlib.Omega.{arith}
use mathlib.Core.Path.{◌≡◌, refl, sym, ap, ◌∙◌, subst, subst₂}
use mathlib.Core.Bool.{Bool, true, false, not, cond}
use mathlib.Core.List.{List, [], ◌∷◌}
use borrow.Author.Tests.{leb-false, lt-leb}
use lib.Dec.{leb}
use lib.ListN.{length}
use Rattle.basics.specs.Refusals.{Ground, refuse, answered, answer, unless_refused}
use Rattle.model.specs.Sets.{max_states, Set, member, single, union, first_states}
use Rattle.model.specs.Stores.{store_words, set_at, table_of, shared_grounds}
use Rattle.model.specs.Promises.{IsLeast}
use Rattle.basics.proofs.BoundLaws.{or_false}
use Rattle.model.proofs.SetsMembers.{in_first_states, single_in, in_subset, In}
use Rattle.basics.proofs.RefusalLaws.{refuse-past, refuse_clear, answer-refused, answer-none}
use Rattle.model.proofs.StoresAccepted.{Store, accepted_store, well_formed}
use Rattle.core_refusals.specs.declared.Refusal.{Refusal}
use Rattle.core_refusals.specs.Refusals.{number}
use Rattle.core_refusals.proofs.RefusalNumbers.{number_some, answer_refused, answer_given}
use Rattle.core_state_set.specs.declared.StateSet.{StateSet}
use Rattle.core_rows.specs.Rows.{rows_of, row_in}
use Rattle.core_rows.proofs.RowsLent.{row_of}
use Rattle.core_reach.specs.Reached.{reach_by, reachable}
use Rattle.core_reach.proofs.ReachWalks.{reaching}
use Rattle.call_edit_session.specs.Edits.{Edit, add, remove, source, target, has_step, changes_nothing, edited, opened, reachable_after, open_answer, no_states, state_ground, edit_grounds, edit_answer, edit_buffer}
use Rattle.call_edit_session.specs.SessionAnswers.{CalledOpen, CalledEdit}
use Rattle.call_edit_session.proofs.RowsEdited.{edited_store}

-- ---- refusals

pub both_states : {n a b : ℕ} → a < n → b < n → no_states n a b ≡ false
both_states {n} {a} {b} h k = rw (lt-leb n a h, lt-leb n b k)

pub no_states_lem : {n a b : ℕ} → no_states n a b ≡ false → (a < n) × (b < n)
no_states_lem {n} {a} {b} q = let neither = or_false (leb n a) (leb n b) q in (leb-false n a neither.0, leb-false n b neither.1)

pub refuse-states : (store : List ℕ) (n g a b : ℕ) → refuse (shared_grounds store n g) ≡ 0 → refuse (edit_grounds store n g a b) ≡ cond (no_states n a b) 27 0
unfolding edit_grounds refuse
refuse-states store n g a b e = sym (refuse-past (shared_grounds store n g) (state_ground n a b ∷ []) refl (sym e) refl refl)

pub accepted_open : (store : List ℕ) (n g : ℕ) → 0 ≡ refuse (shared_grounds store n g) → Store store n g
accepted_open store n g z = (accepted_store store n g [] (sym z)).0

pub accepted : (store : List ℕ) (n g a b : ℕ) → 0 ≡ refuse (edit_grounds store n g a b) → Store store n g × (a < n) × (b < n)
unfolding edit_grounds
accepted store n g a b z =
    let parts = accepted_store store n g (state_ground n a b ∷ []) (sym z) in
    let states = no_states_lem (refuse_clear (state_ground n a b ∷ []) [] refl parts.1).0.0 in
    (parts.0, states.0, states.1)

-- so both numbers are low enough, and the store long enough, for the step's word
pub in_range : (store : List ℕ) (n g a b : ℕ) → 0 ≡ refuse (edit_grounds store n g a b)
    → (a < max_states) × (b < max_states) × (store_words ≤ length store)
in_range store n g a b z =
    let held = accepted store n g a b z in
    (omega (arith, held.1, held.0.small), omega (arith, held.2, held.0.small), held.0.long)

-- ---- what the code works out over the words of a store

pub has_step_is : (store : List ℕ) (a b : ℕ) {R : List ℕ} {X : Set} {t : Bool} → R ≡ rows_of store → X ≡ row_in R a → t ≡ member X b → t ≡ has_step store a b
unfolding has_step
has_step_is store a b r q e = e ∙ ap (λ (X : Set). member X b) (q ∙ ap (λ (xs : List ℕ). row_in xs a) r ∙ row_of store a)

pub from_initial-is : (store : List ℕ) {R : List ℕ} {S Y : Set} → R ≡ rows_of store → S ≡ set_at store 0 → IsLeast (reach_by R S) Y
    → IsLeast (reach_by (rows_of store) (set_at store 0)) Y
from_initial-is store {Y = Y} r q y = subst₂ (λ (xs : List ℕ) (X : Set). IsLeast (reach_by xs X) Y) r q y

module _ (store : List ℕ) (n g : ℕ) (held : Store store n g) where
  pub reached-opened : {Y : Set} → IsLeast (reach_by (rows_of store) (set_at store 0)) Y → Y ≡ opened (table_of store n g)
  unfolding opened table_of
  reached-opened {Y} y =
      let ok = well_formed store n g held in
      reaching.reached-is store n g (set_at store 0) Y ok (in_subset ok.initial) y

  pub reached-target : {b : ℕ} {X Y : Set} → b < n → X ≡ single b → IsLeast (reach_by (rows_of store) X) Y
      → Y ≡ reachable (table_of store n g) (single b)
  unfolding table_of
  reached-target {b} {X} {Y} h e y =
      let inside : (s : ℕ) → In (single b) s → In (first_states n) s =
      λ s i. subst (λ (v : ℕ). In (first_states n) v) (sym (single_in i)) (in_first_states (omega (arith, held.small)) h) in
      reaching.reached-is store n g (single b) Y (well_formed store n g held) (in_subset inside) (subst (λ (Z : Set). IsLeast (reach_by (rows_of store) Z) Y) e y)

module _ (store : List ℕ) (n g a b : ℕ) (X : Set) (held : Store store n g) (ha : a < n) (hb : b < n) {after : List ℕ} where
  pub after-added : after ≡ edited store (add a b) → member X a ≡ true → {R : List ℕ} {S Y Z : Set} → R ≡ rows_of after → S ≡ single b
      → IsLeast (reach_by R S) Y → Z ≡ union X Y
      → Z ≡ reachable_after (table_of (edited store (add a b)) n g) X (add a b)
  unfolding reachable_after
  after-added q m {S = S} {Y = Y} r p y z =
      let least = subst (λ (xs : List ℕ). IsLeast (reach_by xs S) Y) (r ∙ ap rows_of q) y in
      rw m (z ∙ ap (union X) (reached-target (edited store (add a b)) n g (edited_store store n g (add a b) held ha hb) hb p least))

  pub after-removed : after ≡ edited store (remove a b) → {Y : Set} → IsLeast (reach_by (rows_of after) (set_at after 0)) Y
      → Y ≡ reachable_after (table_of (edited store (remove a b)) n g) X (remove a b)
  unfolding reachable_after
  after-removed q {Y} y =
      reached-opened (edited store (remove a b)) n g (edited_store store n g (remove a b) held ha hb)
      (subst (λ (xs : List ℕ). IsLeast (reach_by (rows_of xs) (set_at xs 0)) Y) q y)

pub after-unreached : (store : List ℕ) (n g a b : ℕ) (X : Set) → member X a ≡ false → X ≡ reachable_after (table_of (edited store (add a b)) n g) X (add a b)
unfolding reachable_after
after-unreached store n g a b X m = rw m

module _ (store : List ℕ) (a b : ℕ) {t : Bool} (e : t ≡ has_step store a b) where
  pub added-nothing : t ≡ true → changes_nothing store (add a b) ≡ true
  unfolding changes_nothing
  added-nothing q = sym e ∙ q

  pub added_changes : t ≡ false → changes_nothing store (add a b) ≡ false
  unfolding changes_nothing
  added_changes q = sym e ∙ q

  pub removed-nothing : t ≡ false → changes_nothing store (remove a b) ≡ true
  unfolding changes_nothing
  removed-nothing q = ap not (sym e ∙ q)

  pub removed_changes : t ≡ true → changes_nothing store (remove a b) ≡ false
  unfolding changes_nothing
  removed_changes q = ap not (sym e ∙ q)

-- ---- answers

module _ (store : List ℕ) (n g : ℕ) where
  pub open_refused : (r : Refusal) → number r ≡ refuse (shared_grounds store n g) → CalledOpen store n g (Err r)
  unfolding open_answer
  open_refused r e = answer_refused (λ (X : StateSet). X.words) (shared_grounds store n g) _ r e

  pub open_answered : (X : StateSet) → 0 ≡ refuse (shared_grounds store n g) → X.words ≡ opened (table_of store n g) → CalledOpen store n g (Ok X)
  unfolding open_answer
  open_answered X z q = answer_given (λ (X : StateSet). X.words) (shared_grounds store n g) _ X refl z q

module _ (store : List ℕ) (n g : ℕ) (d : Edit) where
  abbrev pub grounds : List Ground
  grounds = edit_grounds store n g (source d) (target d)

  abbrev store_after : List ℕ
  store_after = cond (changes_nothing store d) store (edited store d)

  pub given : {A : Type 0} (a : A) → refuse grounds ≡ 0 → answer grounds a ≡ answered a
  unfolding edit_grounds
  given a z = answer-none grounds a refl z

  pub buffer-refused : (refuse grounds ≡ 0 → ⊥) → edit_buffer store n g d ≡ store
  unfolding edit_buffer
  buffer-refused f = ap (unless_refused store (λ xs. xs)) (answer-refused grounds _ refl f)

  pub buffer-answered : refuse grounds ≡ 0 → edit_buffer store n g d ≡ store_after
  unfolding edit_buffer
  buffer-answered z = ap (unless_refused store (λ xs. xs)) (given _ z)

  module _ (X : Set) (after : List ℕ) where
    pub edit-refused : (r : Refusal) → number r ≡ refuse grounds → after ≡ store → CalledEdit store n g X d (Err r) after
    unfolding edit_answer
    edit-refused r e b =
        (answer_refused (λ (Y : StateSet). Y.words) grounds _ r e, b ∙ sym (buffer-refused (λ q. number_some r (e ∙ q))))

    module _ (Y : StateSet) (z : 0 ≡ refuse grounds) where
      edit-answered : Y.words ≡ cond (changes_nothing store d) X (reachable_after (table_of (edited store d) n g) X d) → after ≡ store_after
          → CalledEdit store n g X d (Ok Y) after
      unfolding edit_answer
      edit-answered x b = (ap answered x ∙ sym (given _ (sym z)), b ∙ sym (buffer-answered (sym z)))

      pub edit-nothing : changes_nothing store d ≡ true → Y.words ≡ X → after ≡ store → CalledEdit store n g X d (Ok Y) after
      edit-nothing c x b = edit-answered (rw c x) (rw c b)

      pub edit_changes : changes_nothing store d ≡ false → Y.words ≡ reachable_after (table_of (edited store d) n g) X d → after ≡ edited store d
          → CalledEdit store n g X d (Ok Y) after
      edit_changes c x b = edit-answered (rw c x) (rw c b)
