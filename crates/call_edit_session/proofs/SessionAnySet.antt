-- What an edit makes of any set handed in: `nothing`, `unreached`, `reached` and `removed` of specs/SessionPromises.
--
--   of_answered     what holds of an edit whose step is as it is to be, and of any other, holds of a call that is answered
use Prim.Native.Nat.{ℕ}
use mathlib.Core.Path.{◌≡◌, refl, sym, ap, ◌∙◌, subst}
use mathlib.Core.Bool.{Bool, true, false, not, true≢false, false≢true}
use mathlib.Core.List.{List}
use Rattle.basics.specs.Refusals.{refuse, answered}
use Rattle.basics.proofs.BoundLaws.{clash}
use Rattle.basics.proofs.RefusalLaws.{answered_not_refused, answered-is}
use Rattle.model.specs.Sets.{Set, member, single, union}
use Rattle.model.specs.Stores.{table_of}
use Rattle.model.proofs.StoresTables.{row_is}
use Rattle.core_reach.specs.Reached.{reachable}
use Rattle.call_edit_session.specs.Edits.{Edit, add, remove, source, target, adds, has_step, edited, opened, reachable_after}
use Rattle.call_edit_session.specs.SessionAnswers.{Session, session_of, CalledEdit}
use Rattle.call_edit_session.proofs.SessionAnswered.{accepted, grounds}
use Rattle.call_edit_session.proofs.SessionEdits.{of_edit, nothing_has, changes_has}

never_not : (b : Bool) → b ≡ not b → ⊥
never_not true e = true≢false e
never_not false e = false≢true e

module _ (store : List ℕ) (n g : ℕ) (X : Set) (e : Edit) (r : Session) (after : List ℕ) (Y : Set)
    (call : CalledEdit store n g X e r after) (given : session_of r ≡ answered Y) where
  -- the step of the edit exists before it
  abbrev there : Bool
  there = member ((table_of store n g).row (source e)) (target e)

  there-is : refuse (grounds store n g e) ≡ 0 → there ≡ has_step store (source e) (target e)
  unfolding has_step
  there-is z = ap (λ (Z : Set). member Z (target e)) (row_is store n g (source e) (accepted store n g (source e) (target e) (sym z)).1)

  of_answered : (P : Set → List ℕ → Type 0) → (there ≡ adds e → P X store)
      → (there ≡ not (adds e) → P (reachable_after (table_of (edited store e) n g) X e) (edited store e)) → P Y after
  of_answered P same changed =
      subst (P Y) (sym call.1)
      (of_edit store n g X e (λ v xs. v ≡ answered Y → P Y xs)
      (λ f p. absurd (answered_not_refused (sym p)))
      (λ z m p. subst (λ (Z : Set). P Z store) (answered-is p) (same (there-is z ∙ nothing_has store e m)))
      (λ z m p. subst (λ (Z : Set). P Z (edited store e)) (answered-is p) (changed (there-is z ∙ changes_has store e m)))
      (sym call.0 ∙ given))

  pub nothing : there ≡ adds e → (Y ≡ X) × (after ≡ store)
  nothing q = of_answered (λ Z xs. (Z ≡ X) × (xs ≡ store)) (λ t. (refl, refl)) (λ t. absurd (never_not (adds e) (sym q ∙ t)))

module _ (store : List ℕ) (n g : ℕ) (X : Set) (a b : ℕ) (r : Session) (after : List ℕ) (Y : Set) where
  pub unreached : CalledEdit store n g X (add a b) r after → session_of r ≡ answered Y → member X a ≡ false → Y ≡ X
  unfolding reachable_after
  unreached call given q = of_answered store n g X (add a b) r after Y call given (λ Z xs. Z ≡ X) (λ t. refl) (λ t. rw q)

  pub reached : CalledEdit store n g X (add a b) r after → session_of r ≡ answered Y → member ((table_of store n g).row a) b ≡ false → member X a ≡ true
      → Y ≡ union X (reachable (table_of after n g) (single b))
  unfolding reachable_after
  reached call given new q =
      of_answered store n g X (add a b) r after Y call given (λ Z xs. Z ≡ union X (reachable (table_of xs n g) (single b))) (λ t. absurd (clash t new)) (λ t. rw q)

  pub removed : CalledEdit store n g X (remove a b) r after → session_of r ≡ answered Y → member ((table_of store n g).row a) b ≡ true
      → Y ≡ opened (table_of after n g)
  unfolding reachable_after
  removed call given old =
      of_answered store n g X (remove a b) r after Y call given (λ Z xs. Z ≡ opened (table_of xs n g)) (λ t. absurd (clash old t)) (λ t. refl)
