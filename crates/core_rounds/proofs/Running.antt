-- The loop of `run`: what its calls compute are the sets and the tests of the model's round.
--
--   forward-within, backward-within     R and S hold states of the table only
--   Running                             the invariant of the loop: the cover is that of the list to which the round will add its Z
--   run_start                           it holds at the start, for Z0 and the groups
--   is-cover                            with Z added, the cover is one
--   conclude_safe, -unsafe, -open       what `conclude` concludes, by the tests of steps 2 and 4; set_of, is-safe, ..: what is known of a conclusion
--   run-safe, run-unsafe, run-undecided     where the rounds end
--   run_turn                            the invariant holds again after a round that goes on
use Prim.Native.Nat.{ℕ, suc, ◌+◌, ◌≤◌, ◌<◌}
use native.Mathlib.Nat.{not-suc-le-zero}
use native.Mathlib.Numerals.{add-one}
use native.Mathlib.Omega.{arith}
use mathlib.Core.Path.{◌≡◌, refl, sym, ap, ap₂, ◌∙◌, subst}
use mathlib.Core.Logic.{⊎_elim}
use mathlib.Core.Bool.{Bool, true, false, not}
use mathlib.Core.List.{List, ◌∷◌}
use Rattle.model.specs.Sets.{Set, empty, union, meet, subset, first_states}
use Rattle.model.specs.Tables.{Table, hold, not_forbidden}
use Rattle.model.specs.Rounds.{iterate, forward_step, forward, backward_step, backward, Round, round_of, first_round, next_round, is_safe, is_unsafe, safe, unsafe, undecided, run}
use Rattle.model.specs.Promises.{IsLeast, IsGreatest, round_at, Continues}
use Rattle.basics.proofs.BoundLaws.{below_suc}
use Rattle.model.proofs.SetsMembers.{empty_in, meet_in, ◌⊆◌, ⊆-of-eq}
use Rattle.model.proofs.Fixpoints.{iterate_has, greatest_unique}
use Rattle.model.proofs.CoverLaws.{hold-within, not_forbidden-within, forward_step-within, backward_step-within}
use Rattle.model.proofs.RoundLaws.{first_stop}
use Rattle.core_state_set.specs.declared.StateSet.{StateSet}
use Rattle.core_rows.specs.Rows.{successors_by, meet_hold}
use Rattle.core_rows.proofs.RowsLent.{HasRows}
use Rattle.core_fixpoints.specs.Steps.{covers, forward_by, backward_by, IsCover}
use Rattle.core_fixpoints.proofs.Bridge.{successors_by-is, meet_hold-is, backward_by_proper, backward-greatest, least-is, backward-is}
use Rattle.core_rounds.specs.Adding.{narrowed}
use Rattle.core_rounds.specs.declared.Conclusion.TheVariants.{Safe as ConcludesSafe, Unsafe as ConcludesUnsafe, Open}
use Rattle.core_rounds.specs.declared.Conclusion.{Conclusion}
use Rattle.core_rounds.specs.RunAnswers.{concludes, Concludes}
use Rattle.core_rounds.proofs.Adding.{covers-add}

-- ---- sets of the table's states

module _ (t : Table) (L : List Set) where
  forward-within : (Z : Set) → forward t L Z ⊆ first_states t.n
  unfolding forward
  forward-within Z =
      iterate_has (λ X. X ⊆ first_states t.n) (forward_step t L Z) empty (λ s h. absurd (empty_in h)) (λ X h. forward_step-within t L Z X) t.n

  backward-within : (R : Set) → backward t L R ⊆ first_states t.n
  unfolding backward
  backward-within R =
      iterate_has (λ X. X ⊆ first_states t.n) (backward_step t L R) (first_states t.n) (λ s h. h) (λ X h. backward_step-within t L R X) t.n

-- ---- the invariant

pub record Running (t : Table) (rows : List ℕ) (cover : List Set) (Z : Set) (i : ℕ) : Type 0 where
  pub has : HasRows t rows
  pub list : List Set
  pub cover-is : cover ≡ covers t.n list
  pub within : Z ⊆ first_states t.n
  pub round_is : round_of t (Z ∷ list) Z ≡ round_at t i
  pub before : (k : ℕ) → k < i → Continues t k

pub run_start : (t : Table) (rows : List ℕ) {Z : Set} {cover : List Set} → HasRows t rows → cover ≡ covers t.n t.groups → Z ≡ not_forbidden t.n t.forbidden
    → Running t rows cover Z 0
unfolding round_at first_round
run_start t rows h c e =
    record {
      has = h;
      list = t.groups;
      cover-is = c;
      within = λ s m. not_forbidden-within t.n t.forbidden s (⊆-of-eq e s m);
      round_is = ap (λ (Z : Set). round_of t (Z ∷ t.groups) Z) e;
      before = λ k l. absurd (not-suc-le-zero l);
    }

-- ---- what the tests of a round come to

-- in `conclude`: x is step 2's test, of what `forward` entered, and y that of step 4
module _ {rows : List ℕ} {cover : List Set} {initial Z R entered : Set} {x : Bool} (least : IsLeast (forward_by rows cover initial Z) R)
    (enters : entered ≡ union initial (successors_by rows R)) (test : x ≡ subset entered Z) where
  by_tests : {S : Set} {r : Conclusion} {b d : Bool} → IsGreatest (backward_by rows cover R) S → x ≡ b → subset initial S ≡ d
      → r ≡ concludes b d R (meet_hold rows S S) → Concludes rows cover initial Z r
  by_tests {S} greatest t inside e =
      record {
        R = R;
        S = S;
        R_least = least;
        S_greatest = greatest;
        conclusion = e
            ∙ ap₂ (λ (b d : Bool). concludes b d R (meet_hold rows S S)) (sym t ∙ test ∙ ap (λ (X : Set). subset X Z) enters) (sym inside);
      }

  pub conclude_safe : IsCover cover → x ≡ true → Concludes rows cover initial Z (ConcludesSafe (record { words = R }))
  unfolding concludes
  conclude_safe is-cover t = by_tests (backward-greatest rows cover is-cover R) t refl refl

  module _ {S : Set} {y : Bool} (greatest : IsGreatest (backward_by rows cover R) S) (f : x ≡ false) (inside : y ≡ subset initial S) where
    pub conclude_unsafe : y ≡ false → Concludes rows cover initial Z ConcludesUnsafe
    unfolding concludes
    conclude_unsafe t = by_tests greatest f (sym inside ∙ t) refl

    pub conclude_open : {X : StateSet} → y ≡ true → X.words ≡ meet_hold rows S S → Concludes rows cover initial Z (Open X)
    unfolding concludes
    conclude_open t n = by_tests greatest f (sym inside ∙ t) (ap (λ (W : Set). Open (record { words = W })) n)

-- in `run`
set_of : Conclusion → Set
set_of (ConcludesSafe X) = X.words
set_of ConcludesUnsafe = empty
set_of (Open X) = X.words

module _ (R next : Set) where
  is-safe : (safe unsafe : Bool) {X : StateSet} → concludes safe (not unsafe) R next ≡ ConcludesSafe X → (safe ≡ true) × (X.words ≡ R)
  unfolding concludes set_of
  is-safe true u e = (refl, sym (ap set_of e))
  is-safe false true e = cc
  is-safe false false e = cc

  is-unsafe : (safe unsafe : Bool) → concludes safe (not unsafe) R next ≡ ConcludesUnsafe → (safe ≡ false) × (unsafe ≡ true)
  unfolding concludes
  is-unsafe true u e = cc
  is-unsafe false true e = (refl, refl)
  is-unsafe false false e = cc

  is_open_lem : (safe unsafe : Bool) {X : StateSet} → concludes safe (not unsafe) R next ≡ Open X
      → (safe ≡ false) × (unsafe ≡ false) × (X.words ≡ next)
  unfolding concludes set_of
  is_open_lem true u e = cc
  is_open_lem false true e = cc
  is_open_lem false false e = (refl, refl, sym (ap set_of e))

not_not : (b : Bool) → not (not b) ≡ b
not_not true = refl
not_not false = refl

-- ---- a turn

-- Z is added to the list
module _ {t : Table} {rows : List ℕ} {earlier cover : List Set} {Z : Set} {i : ℕ} (so : Running t rows earlier Z i) (add : cover ≡ narrowed earlier Z) where
  -- the list, the round, and its tests
  abbrev list_now : List Set
  list_now = Z ∷ so.list

  abbrev round_now : Round
  round_now = round_of t list_now Z

  abbrev safe_now : Bool
  safe_now = is_safe t round_now

  abbrev unsafe_now : Bool
  unsafe_now = is_unsafe t round_now

  pub cover-now : cover ≡ covers t.n list_now
  cover-now = add ∙ ap (λ (C : List Set). narrowed C Z) so.cover-is ∙ covers-add t.n so.list Z

  abbrev pub is-cover : IsCover cover
  is-cover = record { n = t.n; list = list_now; is = cover-now }

  R_is : {R : Set} → IsLeast (forward_by rows cover t.initial Z) R → R ≡ round_now.R
  unfolding round_of
  R_is {R} e =
      least-is t rows so.has list_now Z so.within
      (subst (λ (C : List Set). IsLeast (forward_by rows C t.initial Z) R) cover-now e)

  S_is : {R S : Set} → R ≡ round_now.R → IsGreatest (backward_by rows cover R) S → S ≡ round_now.S
  unfolding round_of
  S_is {R} r e =
      greatest_unique _ (backward_by_proper rows cover R) e (backward-greatest rows cover is-cover R)
      ∙ ap₂ (λ (C : List Set) (Y : Set). iterate (backward_by rows C Y) (first_states t.n) t.n) cover-now r
      ∙ backward-is t rows so.has list_now _ (forward-within t list_now Z)

  safe-is : {R : Set} → R ≡ round_now.R → subset (union t.initial (successors_by rows R)) Z ≡ safe_now
  unfolding is_safe round_of
  safe-is r =
      ap (λ (X : Set). subset (union t.initial X) Z) (ap (successors_by rows) r ∙ successors_by-is t rows so.has _ (forward-within t list_now Z))

  unsafe-is : {S : Set} → S ≡ round_now.S → subset t.initial S ≡ not unsafe_now
  unfolding is_unsafe
  unsafe-is s = ap (subset t.initial) s ∙ sym (not_not _)

  Z_is : {S Z' : Set} → S ≡ round_now.S → Z' ≡ meet_hold rows S S → Z' ≡ meet round_now.S (hold t.n t.row round_now.S)
  unfolding round_of
  Z_is s e = e ∙ ap (λ (X : Set). meet_hold rows X X) s ∙ meet_hold-is t rows so.has _ _ (backward-within t list_now _)

  -- ---- where the round leads

  continues : safe_now ≡ false → unsafe_now ≡ false → Continues t i
  continues s u =
      record { not_safe = ap (is_safe t) (sym so.round_is) ∙ s; not_unsafe = ap (is_unsafe t) (sym so.round_is) ∙ u }

  before-next : safe_now ≡ false → unsafe_now ≡ false → (k : ℕ) → k < suc i → Continues t k
  before-next s u k h = ⊎_elim (λ e. subst (Continues t) (sym e) (continues s u)) (so.before k) (below_suc h)

  module _ {r : Conclusion} (e : Concludes rows cover t.initial Z r) where
    R_now : e.R ≡ round_now.R
    R_now = R_is e.R_least

    S_now : e.S ≡ round_now.S
    S_now = S_is R_now e.S_greatest

    concluded : r ≡ concludes safe_now (not unsafe_now) e.R (meet_hold rows e.S e.S)
    concluded = e.conclusion ∙ ap₂ (λ (b d : Bool). concludes b d e.R (meet_hold rows e.S e.S)) (safe-is R_now) (unsafe-is S_now)

    pub run-safe : {X : StateSet} (allowance : ℕ) → r ≡ ConcludesSafe X → i ≤ allowance → safe i X.words ≡ run t allowance
    run-safe allowance q used =
        let tests = is-safe _ _ safe_now unsafe_now (sym concluded ∙ q) in
        ap (safe i) (tests.1 ∙ R_now ∙ ap (λ (x : Round). x.R) so.round_is)
        ∙ sym ((first_stop t allowance).at_safe i used so.before (ap (is_safe t) (sym so.round_is) ∙ tests.0))

    pub run-unsafe : (allowance : ℕ) → r ≡ ConcludesUnsafe → i ≤ allowance → unsafe i ≡ run t allowance
    run-unsafe allowance q used =
        let tests = is-unsafe _ _ safe_now unsafe_now (sym concluded ∙ q) in
        sym
        ((first_stop t allowance).at_unsafe i used so.before (ap (is_safe t) (sym so.round_is) ∙ tests.0)
        (ap (is_unsafe t) (sym so.round_is) ∙ tests.1))

    pub run-undecided : {X : StateSet} (allowance : ℕ) → r ≡ Open X → i ≡ allowance → undecided allowance ≡ run t allowance
    run-undecided allowance q h =
        let tests = is_open_lem _ _ safe_now unsafe_now (sym concluded ∙ q) in
        sym ((first_stop t allowance).at_undecided (λ k l. before-next tests.0 tests.1 k (omega arith)))

    pub run_turn : {X : StateSet} → r ≡ Open X → Running t rows cover X.words (i + 1)
    unfolding round_at next_round round_of
    run_turn q =
        let tests = is_open_lem _ _ safe_now unsafe_now (sym concluded ∙ q) in
        let next = Z_is S_now tests.2 in
        record {
          has = so.has;
          list = list_now;
          cover-is = cover-now;
          within = λ x h. hold-within t.n t.row _ x (meet_in (⊆-of-eq next x h)).1;
          round_is = rw add-one (ap (λ (Y : Set). round_of t (Y ∷ list_now) Y) next ∙ ap (next_round t) so.round_is);
          before = λ k h. before-next tests.0 tests.1 k (omega arith);
        }
