-- One edit of a table whose reachable states are known.
--
--   nothing_has, changes_has, row_after-target, row_after-other     the step of an edit, before and after it
--   of_edit                          what holds where an edit is refused, changes nothing, and changes the table holds of what the call gives
--   Kept n g store e X after         after an edit: the set is still the one worked out afresh, and the rest of the table is as it was
--   edit-keeps                       of every edit between states of the table
--   edit-leaves                      any other leaves set and store
use Prim.Native.Nat.{ℕ, ◌<◌}
use native.Mathlib.Omega.{arith}
use mathlib.Core.Path.{◌≡◌, refl, sym, ap, ap₂, ◌∙◌, subst, subst₂}
use mathlib.Core.Logic.{inl, inr, ⊎_elim}
use mathlib.Core.Bool.{Bool, true, false, cond, not, ◌&&◌}
use mathlib.Core.List.{List, []}
use borrow.Author.Tests.{eqb-true, eqb-false, not-true, not-false}
use lib.Dec.{eqb}
use lib.ListN.{length, get_or}
use Rattle.model.specs.Sets.{max_states, Set, member}
use Rattle.model.specs.Tables.{Table}
use Rattle.basics.specs.Refusals.{refuse, Answered, refused, answered}
use Rattle.model.specs.Stores.{table_of, shared_grounds}
use Rattle.basics.proofs.BoundLaws.{and_true, is_false, clash, decided, same_test, by_cond}
use Rattle.model.proofs.SetsMembers.{in_single, single_in, in_union, union_in, in_difference, difference_in}
use Rattle.model.proofs.StoresTables.{row_is}
use Rattle.model.proofs.StoresAccepted.{Store, store_accepted, well_formed}
use Rattle.basics.proofs.RefusalLaws.{clear_refuse, answer-refused}
use Rattle.core_reach.specs.Reached.{reachable}
use Rattle.call_edit_session.specs.Edits.{Edit, add, remove, source, target, adds, has_step, changes_nothing, row_after, edited, opened, reachable_after, no_states, edit_answer, edit_buffer}
use Rattle.call_edit_session.specs.SessionAnswers.{set_after}
use Rattle.call_edit_session.proofs.RowsEdited.{Outside, edited-long, edited_out, edited_store, initial-same, table_here, table-there, step_added}
use Rattle.call_edit_session.proofs.SessionReached.{unreached-same, reached_joins}
use Rattle.call_edit_session.proofs.SessionAnswered.{both_states, no_states_lem, refuse-states, accepted, grounds, given, buffer-refused, buffer-answered}

-- ---- the step of an edit

pub nothing_has : (store : List ℕ) (e : Edit) → changes_nothing store e ≡ true → has_step store (source e) (target e) ≡ adds e
unfolding changes_nothing
nothing_has store (add a b) q = q
nothing_has store (remove a b) q = not-true _ q

pub changes_has : (store : List ℕ) (e : Edit) → changes_nothing store e ≡ false → has_step store (source e) (target e) ≡ not (adds e)
unfolding changes_nothing
changes_has store (add a b) q = q
changes_has store (remove a b) q = not-false _ q

row_after-target : (X : Set) (e : Edit) → target e < max_states → member (row_after X e) (target e) ≡ adds e
unfolding row_after
row_after-target X (add a b) h = (in_union {X = X} (inr (in_single h))).is
row_after-target X (remove a b) h = is_false _ (λ q. (difference_in {X = X} (record { is = q })).1 (in_single h))

row_after-other : (X : Set) (e : Edit) (y : ℕ) → (y ≡ target e → ⊥) → member (row_after X e) y ≡ member X y
unfolding row_after
row_after-other X (add a b) y ne =
    same_test _ _ (λ q. ⊎_elim (λ i. i.is) (λ i. absurd (ne (single_in i))) (union_in {X = X} (record { is = q }))) (λ q. (in_union {X = X} (inl (record { is = q }))).is)
row_after-other X (remove a b) y ne =
    same_test _ _ (λ q. (difference_in {X = X} (record { is = q })).0.is) (λ q. (in_difference {X = X} (record { is = q }) (λ i. ne (single_in i))).is)

-- ---- the three ways that an edit goes

pub of_edit : (store : List ℕ) (n g : ℕ) (X : Set) (e : Edit) (P : Answered Set → List ℕ → Type 0)
    → ((refuse (grounds store n g e) ≡ 0 → ⊥) → P (refused (refuse (grounds store n g e))) store)
    → (refuse (grounds store n g e) ≡ 0 → changes_nothing store e ≡ true → P (answered X) store)
    → (refuse (grounds store n g e) ≡ 0 → changes_nothing store e ≡ false → P (answered (reachable_after (table_of (edited store e) n g) X e)) (edited store e))
    → P (edit_answer store n g X e) (edit_buffer store n g e)
unfolding edit_answer
of_edit store n g X e P left nothing changed =
    let k = refuse (grounds store n g e) in
    ⊎_elim
    (λ (q : eqb k 0 ≡ true).
    let z = eqb-true k 0 q in
    subst₂ P (sym (given store n g e _ z)) (sym (buffer-answered store n g e z))
    (⊎_elim
    (λ (m : changes_nothing store e ≡ true). rw m (nothing z m))
    (λ (m : changes_nothing store e ≡ false). rw m (changed z m))
    (decided (changes_nothing store e))))
    (λ (q : eqb k 0 ≡ false).
    let f = eqb-false k 0 q in
    subst₂ P (sym (answer-refused (grounds store n g e) _ refl f)) (sym (buffer-refused store n g e f)) (left f))
    (decided (eqb k 0))

-- ---- what is kept

abbrev named : Edit → ℕ → ℕ → Bool
named e a b = eqb a (source e) && eqb b (target e)

pub record Kept (n g : ℕ) (store : List ℕ) (e : Edit) (X : Set) (after : List ℕ) : Type 0 where
  pub held : Store after n g
  pub reachable-is : X ≡ opened (table_of after n g)
  pub long : length after ≡ length store
  pub rows : (i : ℕ) → Outside (source e) i → get_or after i 0 ≡ get_or store i 0
  pub steps : (a b : ℕ) → a < n → b < n
      → member ((table_of after n g).row a) b ≡ cond (named e a b) (adds e) (member ((table_of store n g).row a) b)

module _ (store : List ℕ) (n g : ℕ) (e : Edit) (held : Store store n g) where
  -- where nothing changes: a step to add is there, one to remove is not
  same : (X : Set) → X ≡ opened (table_of store n g) → member ((table_of store n g).row (source e)) (target e) ≡ adds e → Kept n g store e X store
  same X x f =
      record {
        held = held;
        reachable-is = x;
        long = refl;
        rows = λ i o. refl;
        steps = λ a b ha hb.
            ⊎_elim
            (λ (q : named e a b ≡ true).
            let both = and_true (eqb a (source e)) (eqb b (target e)) q in
            rw q
            (ap₂ (λ (u v : ℕ). member ((table_of store n g).row u) v) (eqb-true a (source e) both.0) (eqb-true b (target e) both.1) ∙ f))
            (λ (q : named e a b ≡ false). rw q)
            (decided (named e a b));
      }

  module _ (ha : source e < n) (hb : target e < n) where
    abbrev t : Table
    t = table_of store n g

    abbrev t' : Table
    t' = table_of (edited store e) n g

    low : source e < max_states
    low = omega (arith, held.small)

    steps-after : (a b : ℕ) → a < n → b < n → member (t'.row a) b ≡ cond (named e a b) (adds e) (member (t.row a) b)
    steps-after a b la lb =
        ⊎_elim
        (λ (p : eqb a (source e) ≡ true).
        let here : t'.row a ≡ row_after (t.row a) e =
        subst (λ (x : ℕ). t'.row x ≡ row_after (t.row x) e) (sym (eqb-true a (source e) p)) (table_here store n g e held ha hb) in
        ⊎_elim
        (λ (q : eqb b (target e) ≡ true).
        rw (p, q)
        (ap (λ (Y : Set). member Y b) here
        ∙ ap (member (row_after (t.row a) e)) (eqb-true b (target e) q)
        ∙ row_after-target (t.row a) e (omega (arith, held.small))))
        (λ (q : eqb b (target e) ≡ false). rw (p, q) (ap (λ (Y : Set). member Y b) here ∙ row_after-other (t.row a) e b (eqb-false b (target e) q)))
        (decided (eqb b (target e))))
        (λ (p : eqb a (source e) ≡ false).
        rw p (ap (λ (Y : Set). member Y b) (table-there store n g e held ha hb a la (eqb-false a (source e) p))))
        (decided (eqb a (source e)))

    changed : (X : Set) → X ≡ opened t' → Kept n g store e X (edited store e)
    changed X x =
        record {
          held = edited_store store n g e held ha hb;
          reachable-is = x;
          long = edited-long store e low held.long;
          rows = edited_out store e low held.long;
          steps = steps-after;
        }

-- the set after an edit is the one worked out afresh
after-is-opened : (store : List ℕ) (n g : ℕ) (e : Edit) → Store store n g → source e < n → target e < n
    → reachable_after (table_of (edited store e) n g) (opened (table_of store n g)) e ≡ opened (table_of (edited store e) n g)
unfolding reachable_after opened
after-is-opened store n g (remove a b) held ha hb = refl
after-is-opened store n g (add a b) held ha hb =
    let t = table_of store n g in
    let t' = table_of (edited store (add a b)) n g in
    let d = step_added store n g a b held ha hb in
    let ok = well_formed store n g held in
    let ok' = well_formed (edited store (add a b)) n g (edited_store store n g (add a b) held ha hb) in
    let start : reachable t' t.initial ≡ reachable t' t'.initial = ap (reachable t') (sym (initial-same store n g (add a b) held ha hb)) in
    by_cond (λ (X : Set). X ≡ reachable t' t'.initial) (member (reachable t t.initial) a) _ _
    (λ q. sym (reached_joins d ok ok' t.initial ok.initial (record { is = q })) ∙ start)
    (λ q. sym (unreached-same d ok ok' t.initial ok.initial (λ h. clash h.is q)) ∙ start)

pub edit-keeps : (store : List ℕ) (n g : ℕ) (X : Set) (e : Edit) → Store store n g → X ≡ opened (table_of store n g)
    → no_states n (source e) (target e) ≡ false → Kept n g store e (set_after X (edit_answer store n g X e)) (edit_buffer store n g e)
unfolding has_step
edit-keeps store n g X e held x q =
    let between = no_states_lem q in
    of_edit store n g X e (λ a after. Kept n g store e (set_after X a) after)
    (λ f. absurd (f (refuse-states store n g (source e) (target e) none ∙ ap (λ (b : Bool). cond b 27 0) q)))
    (λ z m.
    same store n g e held X x
    (ap (λ (Y : Set). member Y (target e)) (row_is store n g (source e) between.0) ∙ nothing_has store e m))
    (λ z m.
    changed store n g e held between.0 between.1 _
    (ap (λ (Y : Set). reachable_after (table_of (edited store e) n g) Y e) x ∙ after-is-opened store n g e held between.0 between.1))
  where
    none : refuse (shared_grounds store n g) ≡ 0
    none = store_accepted store n g [] held ∙ clear_refuse [] tt

pub edit-leaves : (store : List ℕ) (n g : ℕ) (X : Set) (e : Edit) → no_states n (source e) (target e) ≡ true
    → (set_after X (edit_answer store n g X e) ≡ X) × (edit_buffer store n g e ≡ store)
edit-leaves store n g X e q =
    of_edit store n g X e (λ a after. (set_after X a ≡ X) × (after ≡ store)) (λ f. (refl, refl)) (λ z m. (refl, refl))
    (λ z m. let states = accepted store n g (source e) (target e) (sym z) in absurd (clash q (both_states states.1 states.2)))
