-- The promises of an edit session (specs/SessionPromises), by the contracts of its calls.
--
--   outside-row                  a word that no edit names
--   call_keeps, call_leaves      an edit of a table whose reachable states are known, and one that is refused
--   run-keeps                    a run of edits
--   opened-is                    an opening that is answered
--   edit_no, edit_where          an edit that is refused, and where one is
--   word_same                    one word at most changes
--   promises                     specs/SessionPromises
use Prim.Native.Nat.{ℕ, ◌+◌, ◌/◌, ◌^◌, ◌<◌}
use native.Mathlib.Omega.{arith}
use mathlib.Core.Path.{◌≡◌, refl, sym, ap, ◌∙◌, subst, subst₂}
use mathlib.Core.Logic.{inl, inr, ⊎_elim}
use mathlib.Core.Bool.{true, false, cond}
use mathlib.Core.List.{List, [], ◌∷◌}
use borrow.Author.Tests.{leb-false, ltb-false}
use lib.Dec.{leb}
use lib.ListN.{get_or}
use lib.Seq.{get_or-set_other}
use Rattle.basics.specs.Refusals.{refuse, refused, answered}
use Rattle.model.specs.Sets.{WORDS, Set, member, empty, subset, first_states}
use Rattle.model.specs.Stores.{row_at, table_of, shared_grounds, AcceptedStore}
use Rattle.model.specs.RoundTrip.{Bounded}
use Rattle.basics.proofs.BoundLaws.{or_false, clash, decided, by_cond}
use Rattle.model.proofs.SetsMembers.{in_subset, in_union}
use Rattle.basics.proofs.RefusalLaws.{clear_refuse, answer-refused, answered_not_refused, answered_clear, answered-is, answered_value, refused-is}
use Rattle.model.proofs.StoresAccepted.{Store, accepted_store, store_accepted, well_formed}
use Rattle.call_edit_session.specs.Edits.{Edit, add, remove, source, target, changes_nothing, edited, opened, reachable_after, open_answer, no_states, edit_answer}
use Rattle.call_edit_session.specs.SessionAnswers.{Session, session_of, set_after, held_after, CalledOpen, CalledEdit}
use Rattle.call_edit_session.specs.SessionPromises.{in_row, names, step_after, counted, Ran, SessionIs, SessionPromises}
use Rattle.call_edit_session.proofs.RowsEdited.{Outside, set_step_word, clear_step_word, edited_store, step_added}
use Rattle.call_edit_session.proofs.SessionReached.{reachable-within, target-same}
use Rattle.call_edit_session.proofs.SessionAnswered.{refuse-states, accepted, grounds, given}
use Rattle.call_edit_session.proofs.SessionEdits.{of_edit, Kept, edit-keeps, edit-leaves}
use Rattle.call_edit_session.proofs.SessionAnySet.{nothing, unreached, reached, removed}
use Rattle.call_edit_session.proofs.SessionFirstWords.{first-words}

-- ---- runs

outside-row : (s i : ℕ) → in_row s i ≡ false → Outside s i
unfolding in_row
outside-row s i e =
    ⊎_elim (λ q. inr (ltb-false i (row_at s + WORDS) (rw q at e))) (λ q. inl (leb-false (row_at s) i q)) (decided (leb (row_at s) i))

module _ (n g : ℕ) where
  call_keeps : (store : List ℕ) (X : Set) (e : Edit) (r : Session) (after : List ℕ) → CalledEdit store n g X e r after
      → Store store n g → X ≡ opened (table_of store n g) → no_states n (source e) (target e) ≡ false → Kept n g store e (held_after X r) after
  call_keeps store X e r after c held x q =
      subst₂ (Kept n g store e) (sym (ap (set_after X) c.0)) (sym c.1) (edit-keeps store n g X e held x q)

  call_leaves : (store : List ℕ) (X : Set) (e : Edit) (r : Session) (after : List ℕ) → CalledEdit store n g X e r after
      → no_states n (source e) (target e) ≡ true → (held_after X r ≡ X) × (after ≡ store)
  call_leaves store X e r after c q =
      let left = edit-leaves store n g X e q in
      (ap (set_after X) c.0 ∙ left.0, c.1 ∙ left.1)

  run-keeps : (es : List Edit) (store : List ℕ) (X : Set) (after : List ℕ) (Y : Set) → Ran n g store X es after Y
      → Store store n g → X ≡ opened (table_of store n g) → SessionIs n g store (counted n es) after Y
  unfolding names step_after counted
  run-keeps [] store X after Y c held x =
      subst (λ (xs : List ℕ). SessionIs n g store [] xs Y) (sym c.0)
      (record {
        reachable-is = c.1 ∙ x;
        steps = λ a b ha hb. refl;
        rows = λ i q. refl;
        long = refl;
        accepted = store_accepted store n g [] held ∙ clear_refuse [] tt;
      })
  run-keeps (e ∷ es) store X after Y c held x =
      let r = c.0 in
      let next = c.1 in
      by_cond (λ (counts : List Edit). SessionIs n g store counts after Y) (no_states n (source e) (target e)) _ _
      (λ q.
      let left = call_leaves store X e r next c.2 q in
      subst (λ (xs : List ℕ). SessionIs n g xs (counted n es) after Y) left.1
      (run-keeps es next (held_after X r) after Y c.3
      (subst (λ (xs : List ℕ). Store xs n g) (sym left.1) held)
      (left.0 ∙ x ∙ ap (λ (xs : List ℕ). opened (table_of xs n g)) (sym left.1))))
      (λ q.
      let kept = call_keeps store X e r next c.2 held x q in
      let rest = run-keeps es next (held_after X r) after Y c.3 kept.held kept.reachable-is in
      record {
        reachable-is = rest.reachable-is;
        steps = λ a b ha hb. rest.steps a b ha hb ∙ ap (step_after (counted n es) a b) (kept.steps a b ha hb);
        rows = λ i free.
            let apart = or_false (in_row (source e) i) (names (counted n es) i) free in
            rest.rows i apart.1 ∙ kept.rows i (outside-row (source e) i apart.0);
        long = rest.long ∙ kept.long;
        accepted = rest.accepted;
      })

-- ---- a call

module _ (store : List ℕ) (n g : ℕ) (r : Session) where
  opened-is : (X : Set) → CalledOpen store n g r → session_of r ≡ answered X → Store store n g × (X ≡ opened (table_of store n g))
  unfolding open_answer
  opened-is X c e =
      let gives = sym c ∙ e in
      let all = shared_grounds store n g in
      ((accepted_store store n g [] (clear_refuse all (answered_clear all _ gives))).0, answered_value all _ gives)

  open_no : (k : ℕ) → CalledOpen store n g r → session_of r ≡ refused k → (k ≡ refuse (shared_grounds store n g)) × (held_after empty r ≡ empty)
  unfolding open_answer
  open_no k c e = (refused-is (shared_grounds store n g) _ (sym c ∙ e), ap (set_after empty) e)

-- the word of a step is the only one that changes
word_same : (store : List ℕ) (n g : ℕ) (e : Edit) → Bounded (2 ^ 64) store → Store store n g → source e < n → target e < n
    → (i : ℕ) → (i ≡ row_at (source e) + target e / 64 → ⊥) → get_or (edited store e) i 0 ≡ get_or store i 0
word_same store n g (add a b) fits held ha hb i ne =
    ap (λ (xs : List ℕ). get_or xs i 0) (sym (set_step_word store a b (omega (arith, held.small)) (omega (arith, held.small)) held.long fits))
    ∙ get_or-set_other store (row_at a + b / 64) i _ 0 ne
word_same store n g (remove a b) fits held ha hb i ne =
    ap (λ (xs : List ℕ). get_or xs i 0) (sym (clear_step_word store a b (omega (arith, held.small)) (omega (arith, held.small)) held.long fits))
    ∙ get_or-set_other store (row_at a + b / 64) i _ 0 ne

module _ (store : List ℕ) (n g : ℕ) (X : Set) (e : Edit) (r : Session) (after : List ℕ) where
  edit_no : (k : ℕ) → CalledEdit store n g X e r after → session_of r ≡ refused k
      → (k ≡ refuse (grounds store n g e)) × (held_after X r ≡ X) × (after ≡ store)
  unfolding edit_answer
  edit_no k c q =
      let gives = sym c.0 ∙ q in (
        refused-is (grounds store n g e) _ gives,
        ap (set_after X) q,
        c.1
            ∙ of_edit store n g X e (λ a xs. a ≡ refused k → xs ≡ store) (λ f p. refl) (λ z m p. refl) (λ z m p. absurd (answered_not_refused p)) gives,
      )

  edit_where : CalledEdit store n g X e r after → AcceptedStore store n g
      → session_of r ≡ cond (no_states n (source e) (target e)) (refused 27) (answered (held_after X r))
  unfolding edit_answer
  edit_where c a =
      let number = refuse-states store n g (source e) (target e) a in
      ⊎_elim
      (λ (q : no_states n (source e) (target e) ≡ true).
      rw q (c.0 ∙ answer-refused (grounds store n g e) _ (sym (rw q at number)) (λ z. omega arith)))
      (λ (q : no_states n (source e) (target e) ≡ false).
      let gives = given store n g e _ (rw q at number) in
      rw q (c.0 ∙ gives ∙ ap answered (sym (ap (set_after X) (c.0 ∙ gives)))))
      (decided (no_states n (source e) (target e)))

  word_kept : CalledEdit store n g X e r after → Bounded (2 ^ 64) store
      → (i : ℕ) → (i ≡ row_at (source e) + target e / 64 → ⊥) → get_or after i 0 ≡ get_or store i 0
  word_kept c fits i ne =
      ap (λ (xs : List ℕ). get_or xs i 0) c.1
      ∙ of_edit store n g X e (λ a xs. get_or xs i 0 ≡ get_or store i 0) (λ f. refl) (λ z m. refl)
      (λ z m.
      let states = accepted store n g (source e) (target e) (sym z) in
      word_same store n g e fits states.0 states.1 states.2 i ne)

set-kept : (store : List ℕ) (n g : ℕ) (X : Set) (a b : ℕ) (r : Session) (after : List ℕ) → CalledEdit store n g X (add a b) r after
    → subset X (held_after X r) ≡ true
unfolding reachable_after
set-kept store n g X a b r after c =
    let all : subset X X ≡ true = in_subset (λ s h. h) in
    ap (λ v. subset X (set_after X v)) c.0
    ∙ of_edit store n g X (add a b) (λ v xs. subset X (set_after X v) ≡ true) (λ f. all) (λ z m. all)
    (λ z m. by_cond (λ (Y : Set). subset X Y ≡ true) (member X a) _ _ (λ q. in_subset (λ s h. in_union (inl h))) (λ q. all))

set-within : (store : List ℕ) (n g : ℕ) (X : Set) (a b : ℕ) (r : Session) (after : List ℕ) (Y : Set) → CalledEdit store n g X (remove a b) r after
    → session_of r ≡ answered Y → changes_nothing store (remove a b) ≡ false → subset Y (first_states n) ≡ true
unfolding reachable_after opened table_of
set-within store n g X a b r after Y c e new =
    of_edit store n g X (remove a b) (λ v xs. v ≡ answered Y → subset Y (first_states n) ≡ true)
    (λ f q. absurd (answered_not_refused (sym q))) (λ z m q. absurd (clash m new))
    (λ z m q.
    let states = accepted store n g a b (sym z) in
    let ok = well_formed (edited store (remove a b)) n g (edited_store store n g (remove a b) states.0 states.1 states.2) in
    subst (λ (Z : Set). subset Z (first_states n) ≡ true) (answered-is q)
    (in_subset (reachable-within (table_of (edited store (remove a b)) n g) _ ok ok.initial)))
    (sym c.0 ∙ e)

pub promises : SessionPromises
promises =
    record {
      session = λ store n g r X c e es after Y ran. let is = opened-is store n g r X c e in run-keeps n g es store X after Y ran is.0 is.1;
      open_refusal = open_no;
      edit-refusal = edit_no;
      refused_where = edit_where;
      one_word = word_kept;
      nothing = nothing;
      unreached = unreached;
      reached = reached;
      removed = removed;
      keeps = set-kept;
      drops = set-within;
      target_reaches = λ store n g a b z.
          let states = accepted store n g a b (sym z) in
          target-same (step_added store n g a b states.0 states.1 states.2) (well_formed store n g states.0)
          (well_formed (edited store (add a b)) n g (edited_store store n g (add a b) states.0 states.1 states.2));
      first-words = first-words;
    }
