-- The verdict of a call that is answered, from its two release checks.
--
--   certain_choice, possible_choice      the certain steps alone are a choice, and all possible ones are
--   path_above, path_below               a path on the certain steps is one of every choice, and a path of a choice one on the possible steps
--   invariant_below                      an invariant on the possible steps is one of every choice
--   says-certain, says-possible          what the two checks say
--   cases                                the three verdicts
--   of_choices, comes_with               what the verdict says of every choice, and what comes with it
use Prim.Native.Nat.{ℕ, suc}
use native.Mathlib.Omega.{arith}
use mathlib.Core.Path.{◌≡◌, sym, ap, ◌∙◌, subst}
use mathlib.Core.Logic.{◌⊎◌, ◌↔◌, inl, inr, ⊎_elim}
use mathlib.Core.Bool.{true}
use mathlib.Core.List.{List}
use borrow.Author.Tests.{eq-eqb, ne_eqb}
use Rattle.model.specs.Sets.{Set, empty}
use Rattle.model.specs.Tables.{Table}
use Rattle.model.specs.Paths.{is_path, smallest_path}
use Rattle.model.specs.Calls.{overwrite}
use Rattle.model.specs.Promises.{IsInvariant}
use Rattle.model.proofs.SetsMembers.{◌⊆◌, subset_in, in_subset}
use Rattle.model.specs.WellFormed.{WellFormed}
use Rattle.model.proofs.PathLaws.{path_of, smallest-is, length-smallest}
use Rattle.call_modal.specs.Modal.{certain_row, possible_row, modal_forbidden, modal_table, certain_table, possible_table, release_check, ModalAnswer, modal_of, modal_written}
use Rattle.call_modal.specs.ModalPromises.{Choice, Safe, Unsafe, OfChoices, GivesInvariant, GivesPath, ComesWith}
use Rattle.call_modal.proofs.ModalGrounds.{ModalHeld}
use Rattle.call_modal.proofs.Choosing.{certain_inside, modal_formed, path-more, invariant_less, SaysSafe, SaysUnsafe, released}
use Rattle.call_modal.proofs.ModalAnswered.{safe_of, unsafe_of, depends_of, small_for}

-- ---- the choices of a call that is answered

module _ (store : List ℕ) (n g : ℕ) (possible : List ℕ) (ok : ModalHeld store n g possible) where
  abbrev t : (ℕ → Set) → Table
  t row = modal_table store n g possible row

  abbrev C : Table
  C = certain_table store n g possible

  abbrev P : Table
  P = possible_table store n g possible

  certain_in : (s : ℕ) → certain_row store n s ⊆ possible_row possible n s
  certain_in = certain_inside store n possible ok.certain

  certain_choice : Choice store n possible (certain_row store n)
  certain_choice = record { has_certain = λ s. in_subset (λ x h. h); within-possible = λ s. in_subset (certain_in s) }

  possible_choice : Choice store n possible (possible_row possible n)
  possible_choice = record { has_certain = λ s. in_subset (certain_in s); within-possible = λ s. in_subset (λ x h. h) }

  module _ (row : ℕ → Set) (choice : Choice store n possible row) where
    above : (s : ℕ) → certain_row store n s ⊆ row s
    above s = subset_in (choice.has_certain s)

    below : (s : ℕ) → row s ⊆ possible_row possible n s
    below s = subset_in (choice.within-possible s)

    formed : WellFormed (t row)
    formed = modal_formed store n g possible ok row below

    says : SaysSafe (t row) (release_check (t row)) ⊎ SaysUnsafe (t row) (release_check (t row))
    says = released (t row) formed (small_for store n g possible ok row)

    checked_safe : ((release_check (t row)).verdict ≡ 0) ↔ Safe (t row)
    checked_safe = (
      λ e. ⊎_elim (λ w. w.1) (λ w. absurd (omega (arith, w.0, e))) says,
      λ f. ⊎_elim (λ w. w.0) (λ w. absurd (f (smallest_path (t row)) (path_of (t row) w.1))) says,
    )

    checked_unsafe : ((release_check (t row)).verdict ≡ 1) ↔ Unsafe (t row)
    checked_unsafe = (
      λ e. ⊎_elim (λ w. absurd (omega (arith, w.0, e))) (λ w. (smallest_path (t row), path_of (t row) w.1)) says,
      λ xs. ⊎_elim (λ w. absurd (w.1 xs.0 xs.1)) (λ w. w.0) says,
    )

    -- a path on the certain steps is one on these, and one on these is one on the possible steps
    path_above : (xs : List ℕ) → is_path C xs ≡ true → is_path (t row) xs ≡ true
    path_above = path-more store n g (modal_forbidden store n possible) (certain_row store n) row above

    path_below : (xs : List ℕ) → is_path (t row) xs ≡ true → is_path P xs ≡ true
    path_below = path-more store n g (modal_forbidden store n possible) row (possible_row possible n) below

    invariant_below : (X : Set) → IsInvariant P X → IsInvariant (t row) X
    invariant_below = invariant_less store n g (modal_forbidden store n possible) row (possible_row possible n) below

  pub says-certain : SaysSafe C (release_check C) ⊎ SaysUnsafe C (release_check C)
  says-certain = says (certain_row store n) certain_choice

  says-possible : SaysSafe P (release_check P) ⊎ SaysUnsafe P (release_check P)
  says-possible = says (possible_row possible n) possible_choice

  -- ---- the three verdicts

  abbrev both : ModalAnswer
  both = modal_of (release_check C) (release_check P)

  abbrev SafeCase : Type 0
  SafeCase = SaysSafe P (release_check P) × (both ≡ record { verdict = 0; invariant = (release_check P).invariant; size = (release_check P).size; steps = 0 })

  abbrev UnsafeCase : Type 0
  UnsafeCase = SaysUnsafe C (release_check C) × (both ≡ record { verdict = 1; invariant = empty; size = 0; steps = (release_check C).steps })

  abbrev DependsCase : Type 0
  DependsCase =
      SaysSafe C (release_check C) × SaysUnsafe P (release_check P)
      × (both ≡ record { verdict = 3; invariant = (release_check C).invariant; size = (release_check C).size; steps = (release_check P).steps })

  cases : SafeCase ⊎ (UnsafeCase ⊎ DependsCase)
  cases =
      ⊎_elim
      (λ p. inl (p, safe_of (release_check C) (release_check P) (eq-eqb (release_check P).verdict 0 p.0)))
      (λ p.
      let out = ne_eqb (release_check P).verdict 0 (λ e. omega (arith, p.0, e)) in
      inr
      (⊎_elim
      (λ c. inr (c, p, depends_of (release_check C) (release_check P) out (ne_eqb (release_check C).verdict 1 (λ e. omega (arith, c.0, e)))))
      (λ c. inl (c, unsafe_of (release_check C) (release_check P) out (eq-eqb (release_check C).verdict 1 c.0)))
      says-certain))
      says-possible

  verdict_of : {a b : ModalAnswer} → a ≡ b → a.verdict ≡ b.verdict
  verdict_of q = ap (λ (a : ModalAnswer). a.verdict) q

  pub of_choices : OfChoices store n g possible both
  of_choices =
      record {
        verdict = ⊎_elim (λ w. inl (verdict_of w.1)) (λ w. inr (⊎_elim (λ u. inl (verdict_of u.1)) (λ d. inr (verdict_of d.2)) w)) cases;
        safe = (
          λ e. ⊎_elim (λ w row choice xs h. w.0.1 xs (path_below row choice xs h)) (λ w. absurd (not_0 w e)) cases,
          λ f. ⊎_elim (λ w. verdict_of w.1) (λ w. absurd (some-path w (f (possible_row possible n) possible_choice))) cases,
        );
        unsafe = (
          λ e.
              ⊎_elim (λ w. absurd (omega (arith, verdict_of w.1, e)))
              (⊎_elim
              (λ w row choice. (smallest_path C, path_above row choice (smallest_path C) (path_of C w.0.1)))
              (λ w. absurd (omega (arith, verdict_of w.2, e))))
              cases,
          λ f.
              let xs = f (certain_row store n) certain_choice in
              ⊎_elim (λ w. absurd (w.0.1 xs.0 (path_below (certain_row store n) certain_choice xs.0 xs.1)))
              (⊎_elim (λ w. verdict_of w.1) (λ w. absurd (w.0.1 xs.0 xs.1)))
              cases,
        );
        depends =
            λ e.
            ⊎_elim (λ w. absurd (omega (arith, verdict_of w.1, e)))
            (⊎_elim (λ w. absurd (omega (arith, verdict_of w.1, e))) (λ w. (w.0.1, (smallest_path P, path_of P w.1.1))))
            cases;
        certain_choice = certain_choice;
        possible_choice = possible_choice;
        checked_safe = checked_safe;
        checked_unsafe = checked_unsafe;
      }
    where
      not_0 : UnsafeCase ⊎ DependsCase → both.verdict ≡ 0 → ⊥
      not_0 w e = ⊎_elim (λ u. omega (arith, verdict_of u.1, e)) (λ d. omega (arith, verdict_of d.2, e)) w

      some-path : UnsafeCase ⊎ DependsCase → Safe P → ⊥
      some-path w f =
          ⊎_elim (λ u. f (smallest_path C) (path_below (certain_row store n) certain_choice (smallest_path C) (path_of C u.0.1)))
          (λ d. f (smallest_path P) (path_of P d.1.1)) w

  -- ---- what comes with the verdict

  abbrev left : List ℕ → List ℕ
  left before = modal_written C P both.verdict before

  module _ (before : List ℕ) where
    written_0 : both.verdict ≡ 0 → left before ≡ before
    unfolding modal_written
    written_0 e = rw e

    written_1 : both.verdict ≡ 1 → left before ≡ overwrite (smallest_path C) before
    unfolding modal_written
    written_1 e = rw e

    written_3 : both.verdict ≡ 3 → left before ≡ overwrite (smallest_path P) before
    unfolding modal_written
    written_3 e = rw e

    gives_invariant : (a : ModalAnswer) (u : Table) → SaysSafe u (release_check u) → a.invariant ≡ (release_check u).invariant
        → a.size ≡ (release_check u).size → GivesInvariant u a
    gives_invariant a u s i m = (s.0, i, m, subst (IsInvariant u) (sym i) s.2)

    gives_path : (a : ModalAnswer) (u : Table) {after : List ℕ} → WellFormed u → SaysUnsafe u (release_check u) → a.steps ≡ (release_check u).steps
        → after ≡ overwrite (smallest_path u) before → GivesPath u a before after
    gives_path a u w s d e = (s.0, d, smallest-is w s.1, length-smallest u ∙ ap suc (sym (d ∙ s.2)), e)

    pub comes_with : ComesWith store n g possible both before (left before)
    comes_with =
        record {
          with_safe =
              λ e.
              ⊎_elim
              (λ w. (
                gives_invariant both P w.0 (ap (λ (a : ModalAnswer). a.invariant) w.1) (ap (λ (a : ModalAnswer). a.size) w.1),
                ap (λ (a : ModalAnswer). a.steps) w.1,
                written_0 e,
              ))
              (⊎_elim (λ w. absurd (omega (arith, verdict_of w.1, e))) (λ w. absurd (omega (arith, verdict_of w.2, e))))
              cases;
          with_unsafe =
              λ e.
              ⊎_elim (λ w. absurd (omega (arith, verdict_of w.1, e)))
              (⊎_elim
              (λ w. (
                gives_path both C (formed (certain_row store n) certain_choice) w.0 (ap (λ (a : ModalAnswer). a.steps) w.1) (written_1 e),
                ap (λ (a : ModalAnswer). a.invariant) w.1,
                ap (λ (a : ModalAnswer). a.size) w.1,
              ))
              (λ w. absurd (omega (arith, verdict_of w.2, e))))
              cases;
          with_depends =
              λ e.
              ⊎_elim (λ w. absurd (omega (arith, verdict_of w.1, e)))
              (⊎_elim (λ w. absurd (omega (arith, verdict_of w.1, e)))
              (λ w. (
                gives_invariant both C w.0 (ap (λ (a : ModalAnswer). a.invariant) w.2) (ap (λ (a : ModalAnswer). a.size) w.2),
                gives_path both P (formed (possible_row possible n) possible_choice) w.1 (ap (λ (a : ModalAnswer). a.steps) w.2) (written_3 e),
              )))
              cases;
          invariant_of_each =
              λ e row choice.
              ⊎_elim
              (λ w. subst (IsInvariant (t row)) (sym (ap (λ (a : ModalAnswer). a.invariant) w.1)) (invariant_below row choice _ w.0.2))
              (⊎_elim (λ w. absurd (omega (arith, verdict_of w.1, e))) (λ w. absurd (omega (arith, verdict_of w.2, e))))
              cases;
          path_of_each =
              λ e row choice.
              ⊎_elim (λ w. absurd (omega (arith, verdict_of w.1, e)))
              (⊎_elim (λ w. path_above row choice (smallest_path C) (path_of C w.0.1)) (λ w. absurd (omega (arith, verdict_of w.2, e))))
              cases;
        }
