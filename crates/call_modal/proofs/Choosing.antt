-- Laws of choices of rows, and of a release check on one.
--
--   certain_inside, possible_inside     each certain step is possible; the possible ones lead to states of the table
--   modal_formed                        the table of rows that have possible steps only is well formed
--   path-more                           a path is one with more steps, too
--   invariant_less                      an invariant is one with fewer steps, too
--   SaysSafe, SaysUnsafe, released      what a release check says of a well_formed table, with what comes with it
--   says-safe, says-unsafe              by the test of its verdict
use Prim.Native.Nat.{ℕ, ◌*◌, ◌≤◌}
use native.Mathlib.Omega.{arith}
use mathlib.Core.Path.{◌≡◌, refl}
use mathlib.Core.Logic.{◌⊎◌, inl, inr, ⊎_elim}
use mathlib.Core.Bool.{true, false, not}
use mathlib.Core.List.{List, [], ◌∷◌}
use borrow.Author.Tests.{ltb-true, eqb-true, eqb-false, not-false}
use lib.Dec.{eqb, ltb}
use Rattle.basics.specs.Bounds.{any}
use Rattle.model.specs.Sets.{WORDS, max_states, Set, member, empty, subset, size, first_states}
use Rattle.model.specs.Tables.{Table}
use Rattle.model.specs.Rounds.{Outcome, safe, unsafe, undecided, run}
use Rattle.model.specs.Paths.{leads, is_path, shortest, has_path}
use Rattle.model.specs.Stores.{marked_at, row_at, set_at, dialogue_of, table_of, beyond, non_zero}
use Rattle.model.specs.Calls.{release, Decision, decision_of}
use Rattle.model.specs.Promises.{IsInvariant}
use Rattle.basics.proofs.BoundLaws.{and_true, and_intro, or_false, any_none, by_cond, decided}
use Rattle.model.proofs.SetsMembers.{in_bound, in_first_states, union_in, empty_in, ◌⊆◌, subset_in}
use Rattle.model.proofs.HangLaws.{hangs-within}
use Rattle.model.specs.WellFormed.{WellFormed}
use Rattle.model.proofs.StoresTables.{beyond_below, malformed_clean}
use Rattle.model.proofs.StoresAccepted.{well_formed}
use Rattle.model.proofs.Fixpoints.{backward-is}
use Rattle.model.proofs.RoundLaws.{undecided-short, unsafe-path, safe-invariant, safe_no_path}
use Rattle.model.proofs.PathLaws.{has_path_lem}
use Rattle.core_rows.specs.Rows.{row_in, rows_in}
use Rattle.call_modal.specs.Modal.{possible_words, certain_row, possible_row, table_with, modal_forbidden, modal_table, malformed_rows, certain_impossible, release_check}
use Rattle.call_modal.proofs.ModalGrounds.{ModalHeld}

-- ---- the rows

pub possible_inside : (possible : List ℕ) (n : ℕ) → malformed_rows possible n ≡ false → (s : ℕ) → possible_row possible n s ⊆ first_states n
unfolding malformed_rows rows_in
possible_inside possible n e s =
    let rows = (or_false (any n (λ r. beyond n (row_in possible r))) (non_zero possible (WORDS * n) possible_words) e).0 in
    by_cond (λ (X : Set). X ⊆ first_states n) (ltb s n) (row_in possible s) empty
    (λ q x h.
    let inside = any_none (λ r. beyond n (row_in possible r)) n rows s (ltb-true s n q) in
    in_first_states (in_bound h) (beyond_below n (row_in possible s) inside x h))
    (λ q x h. absurd (empty_in h))

pub certain_inside : (store : List ℕ) (n : ℕ) (possible : List ℕ) → certain_impossible store n possible ≡ false
    → (s : ℕ) → certain_row store n s ⊆ possible_row possible n s
unfolding certain_impossible rows_in dialogue_of
certain_inside store n possible e s =
    ⊎_elim
    (λ (q : ltb s n ≡ true).
    rw q
    (subset_in
    (not-false _ (any_none (λ r. not (subset (set_at store (row_at r)) (set_at possible (WORDS * r)))) n e s (ltb-true s n q)))))
    (λ (q : ltb s n ≡ false). rw q (λ x h. h))
    (decided (ltb s n))

pub modal_formed : (store : List ℕ) (n g : ℕ) (possible : List ℕ) → ModalHeld store n g possible → (row : ℕ → Set)
    → ((s : ℕ) → row s ⊆ possible_row possible n s) → WellFormed (modal_table store n g possible row)
unfolding table_with modal_forbidden table_of
modal_formed store n g possible ok row inside =
    let c = malformed_clean store n g ok.held.clean in
    record {
      initial = (well_formed store n g ok.held).initial;
      forbidden =
          λ x k.
          ⊎_elim (λ m. in_first_states (in_bound m) (beyond_below n (set_at store marked_at) c.marked x m)) (hangs-within n _ _ x) (union_in k);
      rows = λ x l s k. possible_inside possible n ok.clean x s (inside x s k);
    }

-- ---- more steps, and fewer

module _ (store : List ℕ) (n g : ℕ) (forbidden : Set) (row more : ℕ → Set) (inside : (s : ℕ) → row s ⊆ more s) where
  leads-more : (x : ℕ) (xs : List ℕ) → leads (table_with store n g forbidden row) x xs ≡ true → leads (table_with store n g forbidden more) x xs ≡ true
  unfolding leads table_with
  leads-more x [] e = e
  leads-more x (y ∷ ys) e =
      let both = and_true (member (row x) y) _ e in
      and_intro (member (more x) y) _ (inside x y (record { is = both.0 })).is (leads-more y ys both.1)

  pub path-more : (xs : List ℕ) → is_path (table_with store n g forbidden row) xs ≡ true → is_path (table_with store n g forbidden more) xs ≡ true
  unfolding is_path table_with
  path-more [] e = e
  path-more (x ∷ xs) e = let both = and_true (member (set_at store 0) x) _ e in and_intro (member (set_at store 0) x) _ both.0 (leads-more x xs both.1)

  pub invariant_less : (X : Set) → IsInvariant (table_with store n g forbidden more) X → IsInvariant (table_with store n g forbidden row) X
  unfolding table_with
  invariant_less X i =
      record {
        initial = i.initial;
        not_forbidden = i.not_forbidden;
        closed = λ s u h k. i.closed s u h (inside s u (record { is = k })).is;
        within = i.within;
      }

-- ---- a release check

abbrev pub SaysSafe : Table → Decision → Type 0
SaysSafe t d =
    (d.verdict ≡ 0) × ((xs : List ℕ) → is_path t xs ≡ true → ⊥) × IsInvariant t d.invariant × (d.size ≡ size d.invariant) × (d.steps ≡ 0)

abbrev pub SaysUnsafe : Table → Decision → Type 0
SaysUnsafe t d = (d.verdict ≡ 1) × (has_path t ≡ true) × (d.steps ≡ shortest t) × (d.invariant ≡ empty) × (d.size ≡ 0)

module _ (t : Table) (ok : WellFormed t) (small : t.n ≤ max_states) where
  by_outcome : (o : Outcome) → run t release ≡ o → SaysSafe t (decision_of t o) ⊎ SaysUnsafe t (decision_of t o)
  unfolding decision_of
  by_outcome (safe i X) q = inl (refl, safe_no_path t release q, safe-invariant t release q, refl, refl)
  by_outcome (unsafe i) q = let w = unsafe-path t ok release q in inr (refl, has_path_lem ok w.0 w.1, refl, refl, refl)
  by_outcome (undecided i) q = absurd (omega (arith, undecided-short t release q, (backward-is t).bounded))

  pub released : SaysSafe t (release_check t) ⊎ SaysUnsafe t (release_check t)
  unfolding release_check
  released = by_outcome (run t release) refl

  pub says-safe : eqb (release_check t).verdict 0 ≡ true → SaysSafe t (release_check t)
  says-safe e =
      ⊎_elim (λ w. w) (λ w. absurd (omega (arith, w.0, eqb-true (release_check t).verdict 0 e))) released

  pub says-unsafe : eqb (release_check t).verdict 0 ≡ false → SaysUnsafe t (release_check t)
  says-unsafe e = ⊎_elim (λ w. absurd (eqb-false (release_check t).verdict 0 e w.0)) (λ w. w) released
