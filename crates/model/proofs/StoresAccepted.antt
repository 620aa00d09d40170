-- What a call that is answered knows of its arguments.
--
--   Store                  a store that holds a table: grounds 10, 14, 15 and 17 do not hold; well_formed: its table is well formed
--   accepted_store         from the grounds that the calls share; store_accepted: and back
--   Check, check_of_lem        the same with grounds 20 and 21, of a check that is answered
use Prim.Native.Nat.{ℕ, ◌≤◌}
use mathlib.Core.Path.{◌≡◌, refl, sym, subst}
use mathlib.Core.Logic.{⊎_elim}
use mathlib.Core.Bool.{true, false, not, ◌&&◌}
use mathlib.Core.List.{List, [], ◌++◌}
use borrow.Author.Tests.{ltb-false, le-ltb, eqb-true, eq-eqb, not-false}
use lib.Dec.{eqb, ltb}
use lib.ListN.{length}
use Rattle.model.specs.Sets.{max_states, Set, first_states}
use Rattle.basics.specs.Refusals.{Ground, refuse, answered}
use Rattle.model.specs.Stores.{max_groups, store_words, marked_at, row_at, set_at, table_of, beyond, malformed, bad_states, shared_grounds}
use Rattle.model.specs.Calls.{release, Decision, decide_limits, decide_grounds, decision_of, decide_answer}
use Rattle.model.specs.Rounds.{run}
use Rattle.basics.proofs.BoundLaws.{or_false, decided}
use Rattle.model.proofs.SetsMembers.{in_bound, in_first_states, union_in, ◌⊆◌}
use Rattle.model.proofs.HangLaws.{hangs-within}
use Rattle.basics.proofs.RefusalLaws.{refuse_behind, clear_refuse, refuse_clear, answered_clear, answered_value}
use Rattle.model.proofs.StoresTables.{beyond_below, malformed_clean, row_is}
use Rattle.model.specs.WellFormed.{WellFormed}

-- ---- a store

pub record Store (store : List ℕ) (n g : ℕ) : Type 0 where
  pub long : store_words ≤ length store
  pub draft : n ≡ 0 → g ≡ 0  -- without states, without groups
  pub small : n ≤ max_states
  pub few : g ≤ max_groups
  pub clean : malformed store n g ≡ false

-- the grounds that the calls share, and those that a call adds
pub accepted_store : (store : List ℕ) (n g : ℕ) (later : List Ground) → refuse (shared_grounds store n g ++ later) ≡ 0
    → Store store n g × (refuse later ≡ 0)
unfolding bad_states
accepted_store store n g later e =
    let parts = refuse_clear (shared_grounds store n g) later refl e in
    let clear = parts.0 in
    let states = or_false (eqb n 0 && not (eqb g 0)) (ltb max_states n) clear.1.0 in (
      record {
        long = ltb-false (length store) store_words clear.0;
        draft = λ e. eqb-true g 0 (not-false (eqb g 0) (rw (eq-eqb n 0 e) at states.0));
        small = ltb-false max_states n states.1;
        few = ltb-false max_groups g clear.1.1.0;
        clean = clear.1.1.1.0;
      },
      parts.1,
    )

pub states_pass : (n g : ℕ) → (n ≡ 0 → g ≡ 0) → n ≤ max_states → bad_states n g ≡ false
unfolding bad_states
states_pass n g draft small =
    ⊎_elim
    (λ (q : eqb n 0 ≡ true). rw (q, eq-eqb g 0 (draft (eqb-true n 0 q))) (le-ltb max_states n small))
    (λ (q : eqb n 0 ≡ false). rw q (le-ltb max_states n small))
    (decided (eqb n 0))

-- and back: where none of the shared grounds holds, those that the call adds decide
pub store_accepted : (store : List ℕ) (n g : ℕ) (later : List Ground) → Store store n g → refuse (shared_grounds store n g ++ later) ≡ refuse later
store_accepted store n g later s =
    refuse_behind (shared_grounds store n g) later
    (le-ltb (length store) store_words s.long, (states_pass n g s.draft s.small, (le-ltb max_groups g s.few, (s.clean, tt))))

pub well_formed : (store : List ℕ) (n g : ℕ) → Store store n g → WellFormed (table_of store n g)
unfolding table_of
well_formed store n g s =
    let c = malformed_clean store n g s.clean in
    record {
      initial = inside (set_at store 0) c.initial;
      forbidden = λ x h. ⊎_elim (inside (set_at store marked_at) c.marked x) (hangs-within n _ _ x) (union_in h);
      rows = λ x h. subst (λ (X : Set). X ⊆ first_states n) (sym (row_is store n g x h)) (inside (set_at store (row_at x)) (c.row x h));
    }
  where
    inside : (X : Set) → beyond n X ≡ false → X ⊆ first_states n
    inside X e x h = in_first_states (in_bound h) (beyond_below n X e x h)

-- ---- a check that is answered

pub record Check (store : List ℕ) (n g allowance room : ℕ) (a : Decision) : Type 0 where
  pub held : Store store n g
  pub within : allowance ≤ release
  pub roomy : max_states ≤ room
  pub answer : a ≡ decision_of (table_of store n g) (run (table_of store n g) allowance)

pub check_of_lem : (store : List ℕ) (n g allowance room : ℕ) {a : Decision} → decide_answer store n g allowance room ≡ answered a
    → Check store n g allowance room a
unfolding decide_answer decide_grounds
check_of_lem store n g allowance room e =
    let grounds = decide_grounds store n g allowance room in
    let parts = accepted_store store n g (decide_limits allowance room) (clear_refuse grounds (answered_clear grounds _ e)) in
    let limits = (refuse_clear (decide_limits allowance room) [] refl parts.1).0 in
    record {
      held = parts.0;
      within = ltb-false release allowance limits.0;
      roomy = ltb-false room max_states limits.1.0;
      answer = answered_value grounds _ e;
    }
