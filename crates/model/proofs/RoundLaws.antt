-- The theory of the rounds: what holds of each, where they stop, and what the outcome tells. Zi, Ri and Si are the sets of round i, Wj is
-- what j rounds of backward elimination leave, b the backward number.
--
--   RoundFacts t r                     S ⊆ R ⊆ Z; R holds Init ∩ Z and its own steps into Z; S holds each X with X ⊆ R ∩ hold X
--   round_facts, round_is              each round has them, and is as the specification says
--   listed-within                      each listed set holds states of the table only, if the groups do
--   in_next_Z, next_Z_in               Z of the next round by its members: S ∩ hold S
--   in_eliminated, eliminated_in       W of the next round of elimination by its members
--   eliminated-not_forbidden, -closed        Wj holds allowed states only; no step leaves Wb
--   Z_eliminated                       Zi ⊆ Wi
--   steps_stay, initial_S              for a set W of allowed states that no step leaves: post(Ri) ∩ W ⊆ Zi, and Init ⊆ W gives Init ⊆ Si
--   backward-stops                     round b says safe or unsafe
--   run_ends, first_stop                   the outcome tells which round was the first to stop; the first round to stop gives the outcome
--   count-backward                     the count is at most b
--   undecided-count, undecided-short   undecided comes after an allowance all used up, and that was below b
--   larger-run                         a larger allowance never changes a verdict given
--   eliminated-unreachable, eliminated-leads   a state of Wj has no way of j steps or fewer to a forbidden state; a state not in Wj has one
--   eliminated-members                 so Wj is the states that have none
--   count-path, unsafe-long            every path has at least as many steps as the count
--   unsafe-path                        where the rounds say unsafe there is a path
--   invariant_no_path                  an invariant rules out every path
--   safe-invariant, safe_no_path       where the rounds say safe, R is one
use Prim.Native.Nat.{ℕ, zero, suc, ◌+◌, ◌-◌, ◌≤◌, ◌<◌, zero-le, suc-le-suc}
use native.Mathlib.Nat.{not-suc-le-zero}
use native.Mathlib.Omega.{arith}
use mathlib.Core.Path.{◌≡◌, refl, sym, ap, ◌∙◌, subst}
use mathlib.Core.Logic.{inl, inr, ⊎_elim, ◌↔◌}
use mathlib.Core.Bool.{true, false, not, false≢true}
use mathlib.Core.List.Memᴰ
use mathlib.Core.List.{List, [], ◌∷◌, Memᴰ}
use lib.ListN.{length}
use Rattle.model.specs.Sets.{max_states, Set, member, union, meet, subset, first_states}
use Rattle.model.specs.Tables.{Table, post, hold, not_forbidden}
use Rattle.model.specs.Rounds.{iterate, forward_step, forward, backward_step, backward, Round, round_of, first_round, next_round, is_safe, is_unsafe, Outcome, safe, unsafe, undecided, settle, rounds, run, elimination_step, eliminated, backward_number}
use Rattle.model.specs.Paths.{leads, is_path}
use Rattle.model.specs.Promises.{IsLeast, IsGreatest, round_at, IsFirst, IsNext, IsRound, Continues, FirstStop, IsInvariant}
use Rattle.basics.proofs.BoundLaws.{and_true, and_intro, not_true, is_false, clash, decided, by_cond, lt_or_ge, below_suc}
use Rattle.model.proofs.SetsMembers.{In, in_or_out, in_union, union_in, in_meet, meet_in, in_first_states, first_states_in, ◌⊆◌, ⊆-of-eq, subset_in, in_subset, subset_not}
use Rattle.model.proofs.Fixpoints.{from_below, from_above, greatest-post, eliminated_mono, eliminated-within, backward-is}
use Rattle.model.proofs.CoverLaws.{in_not_forbidden, not_forbidden_in, not_forbidden-within, in_post, post_in, in_hold, hold_in, hold-within, Closed, listed-closed, cover-closed, cover_extensive, cover_minimal, forward_step_mono, forward_step_proper, forward_step-within, backward_step_mono, backward_step_proper, backward_step-within}
use Rattle.model.specs.WellFormed.{WellFormed}

-- ---- one round

pub record RoundFacts (t : Table) (r : Round) : Type 0 where
  pub R_within : r.R ⊆ first_states t.n
  pub R_in_Z : r.R ⊆ r.Z
  pub R_initial : (s : ℕ) → In t.initial s → In r.Z s → In r.R s
  pub R_steps : (s u : ℕ) → In r.R s → In (t.row s) u → In r.Z u → In r.R u
  pub S_in_R : r.S ⊆ r.R
  pub S_holds : (X : Set) → X ⊆ r.R → X ⊆ hold t.n t.row X → X ⊆ r.S

module _ (t : Table) (L : List Set) where
  forward-least : (Z : Set) → IsLeast (forward_step t L Z) (forward t L Z)
  unfolding forward
  forward-least Z = from_below (forward_step t L Z) t.n (forward_step_mono t L Z) (forward_step_proper t L Z) (forward_step-within t L Z)

  module _ (R : Set) where
    backward-greatest : IsGreatest (backward_step t L R) (backward t L R)
    unfolding backward
    backward-greatest =
        from_above (backward_step t L R) t.n (backward_step_mono t L R) (backward_step_proper t L R) (backward_step-within t L R)

    backward-post : (X : Set) → X ⊆ backward_step t L R X → X ⊆ backward t L R
    unfolding backward
    backward-post =
        greatest-post (backward_step t L R) t.n (backward_step_mono t L R) (backward_step_proper t L R) (backward_step-within t L R)

-- over any list that Z stands in
module _ (t : Table) (L : List Set) (Z : Set) (listed : Memᴰ Z L) (within : Z ⊆ first_states t.n) where
  forward_inside : forward t L Z ⊆ Z
  unfolding forward_step
  forward_inside s h =
      cover_minimal t.n L _ Z (listed-closed t.n L Z listed) (λ u m. (meet_in m).0) s (⊆-of-eq (forward-least t L Z).solves s h)

  forward-holds : meet Z (union t.initial (post t.n t.row (forward t L Z))) ⊆ forward t L Z
  unfolding forward_step
  forward-holds s h =
      ⊆-of-eq (sym (forward-least t L Z).solves) s (cover_extensive t.n L _ (λ u m. within u (meet_in m).0) s h)

  forward-closed : Closed t.n L (forward t L Z)
  unfolding forward_step
  forward-closed = subst (Closed t.n L) (sym (forward-least t L Z).solves) (cover-closed t.n L _)

  backward_inside : backward t L (forward t L Z) ⊆ forward t L Z
  unfolding backward_step
  backward_inside s h =
      cover_minimal t.n L _ _ forward-closed (λ u m. (meet_in m).0) s (⊆-of-eq (backward-greatest t L (forward t L Z)).solves s h)

  round_of_facts : RoundFacts t (round_of t L Z)
  unfolding round_of backward_step
  round_of_facts =
      let R_within : forward t L Z ⊆ first_states t.n = λ s h. within s (forward_inside s h) in
      record {
        R_within = R_within;
        R_in_Z = forward_inside;
        R_initial = λ s h k. forward-holds s (in_meet k (in_union (inl h)));
        R_steps = λ s u h r k. forward-holds u (in_meet k (in_union (inr (in_post _ _ (first_states_in (R_within s h)) h r))));
        S_in_R = backward_inside;
        S_holds = λ X i c.
            backward-post t L (forward t L Z) X
            (λ s h. cover_extensive t.n L _ (λ u m. R_within u (meet_in m).0) s (in_meet (i s h) (c s h)));
      }

-- ---- the rounds in turn

pub round_facts : (t : Table) (i : ℕ) → RoundFacts t (round_at t i)
unfolding round_at first_round next_round
round_facts t zero = round_of_facts t _ _ (Memᴰ.head refl) (not_forbidden-within t.n t.forbidden)
round_facts t (suc i) = round_of_facts t _ _ (Memᴰ.head refl) (λ s h. hold-within t.n t.row _ s (meet_in h).1)

module _ (t : Table) where
  pub round_first : IsFirst t (round_at t 0)
  unfolding round_at first_round round_of
  round_first = record { Z_is = refl; list-is = refl }

  pub round_next : (i : ℕ) → IsNext t (round_at t i) (round_at t (suc i))
  unfolding round_at next_round round_of
  round_next i = record { Z_is = refl; list-is = refl }

  pub round_is : (i : ℕ) → IsRound t (round_at t i)
  unfolding round_at first_round next_round round_of
  round_is zero = record { R_least = forward-least t _ _; S_greatest = backward-greatest t _ _ }
  round_is (suc i) = record { R_least = forward-least t _ _; S_greatest = backward-greatest t _ _ }

  -- where the groups hold states of the table only, so does each listed set
  pub listed-within : ((Z : Set) → Memᴰ Z t.groups → Z ⊆ first_states t.n)
      → (i : ℕ) (Z : Set) → Memᴰ Z (round_at t i).list → Z ⊆ first_states t.n
  unfolding round_at first_round next_round round_of
  listed-within groups zero Z m =
      ⊎_elim (λ e. rw e (not_forbidden-within t.n t.forbidden)) (groups Z) (Memᴰ.cases_cons m)
  listed-within groups (suc i) Z m =
      ⊎_elim (λ e. rw e (λ s h. hold-within t.n t.row _ s (meet_in h).1)) (listed-within groups i Z) (Memᴰ.cases_cons m)

  S_in_Z : (i : ℕ) → (round_at t i).S ⊆ (round_at t i).Z
  S_in_Z i s h = let r = round_facts t i in r.R_in_Z s (r.S_in_R s h)

  pub in_next_Z : (i : ℕ) {s : ℕ} → In (round_at t i).S s → t.row s ⊆ (round_at t i).S → In (round_at t (suc i)).Z s
  in_next_Z i {s} h f =
      let r = round_facts t i in
      ⊆-of-eq (sym (round_next i).Z_is) s (in_meet h (in_hold _ _ (r.R_within s (r.S_in_R s h)) f))

  pub next_Z_in : (i : ℕ) {s : ℕ} → In (round_at t (suc i)).Z s → In (round_at t i).S s × (t.row s ⊆ (round_at t i).S)
  next_Z_in i {s} h =
      let both = meet_in (⊆-of-eq (round_next i).Z_is s h) in
      (both.0, hold_in _ _ both.1)

-- ---- backward elimination

module _ (t : Table) where
  pub in_eliminated : (j : ℕ) {s : ℕ} → In (eliminated t j) s → t.row s ⊆ eliminated t j → In (eliminated t (suc j)) s
  unfolding eliminated iterate elimination_step
  in_eliminated j {s} h f = in_meet h (in_hold _ _ (eliminated-within t j s h) f)

  pub eliminated_in : (j : ℕ) {s : ℕ} → In (eliminated t (suc j)) s → In (eliminated t j) s × (t.row s ⊆ eliminated t j)
  unfolding eliminated iterate elimination_step
  eliminated_in j h = ((meet_in h).0, hold_in _ _ (meet_in h).1)

  eliminated-not_forbidden : (j : ℕ) → eliminated t j ⊆ not_forbidden t.n t.forbidden
  unfolding eliminated iterate
  eliminated-not_forbidden j = eliminated_mono t zero j zero-le

  -- no step leaves Wb
  eliminated-closed : (s : ℕ) → In (eliminated t (backward_number t)) s → t.row s ⊆ eliminated t (backward_number t)
  eliminated-closed s h = (eliminated_in (backward_number t) (⊆-of-eq (backward-is t).still s h)).1

  pub Z_eliminated : (i : ℕ) → (round_at t i).Z ⊆ eliminated t i
  unfolding round_at first_round round_of eliminated iterate
  Z_eliminated zero s h = h
  Z_eliminated (suc i) s h =
      let both = next_Z_in t i h in
      let S-in : (round_at t i).S ⊆ eliminated t i = λ u k. Z_eliminated i u (S_in_Z t i u k) in
      in_eliminated i (S-in s both.0) (λ u r. S-in u (both.1 u r))

-- ---- a set of allowed states that no step leaves is kept

-- each step of Ri into W ends in Zi
abbrev StepsStay : Table → Set → ℕ → Type 0
StepsStay t W i = (s u : ℕ) → In (round_at t i).R s → In (t.row s) u → In W u → In (round_at t i).Z u

module _ (t : Table) (W : Set) (W-notForbidden : W ⊆ not_forbidden t.n t.forbidden) (W-closed : (s : ℕ) → In W s → t.row s ⊆ W) where
  -- where that holds no step leaves Ri ∩ W, so it is kept
  meet-closed : (i : ℕ) → StepsStay t W i → (s : ℕ) → In (meet (round_at t i).R W) s → t.row s ⊆ meet (round_at t i).R W
  meet-closed i stay s h u r =
      let both = meet_in h in
      let w = W-closed s both.1 u r in
      in_meet ((round_facts t i).R_steps s u both.0 r (stay s u both.0 r w)) w

  meet_in_S : (i : ℕ) → StepsStay t W i → meet (round_at t i).R W ⊆ (round_at t i).S
  meet_in_S i stay =
      let r = round_facts t i in
      r.S_holds _ (λ s h. (meet_in h).0) (λ s h. in_hold _ _ (r.R_within s (meet_in h).0) (meet-closed i stay s h))

  meet_in_next : (i : ℕ) → StepsStay t W i → meet (round_at t i).R W ⊆ (round_at t (suc i)).Z
  meet_in_next i stay s h = in_next_Z t i (meet_in_S i stay s h) (λ u r. meet_in_S i stay u (meet-closed i stay s h u r))

  -- and R of the next round steps into Si only, which is inside Ri
  steps_stay : (i : ℕ) → StepsStay t W i
  unfolding round_at first_round round_of
  steps_stay zero s u h r w = W-notForbidden u w
  steps_stay (suc i) s u h r w =
      let in-S = (next_Z_in t i ((round_facts t (suc i)).R_in_Z s h)).1 u r in
      meet_in_next i (steps_stay i) u (in_meet ((round_facts t i).S_in_R u in-S) w)

  initial_R : t.initial ⊆ W → (i : ℕ) → t.initial ⊆ (round_at t i).R
  unfolding round_at first_round round_of
  initial_R f zero s h = (round_facts t zero).R_initial s h (W-notForbidden s (f s h))
  initial_R f (suc i) s h = (round_facts t (suc i)).R_initial s h (meet_in_next i (steps_stay i) s (in_meet (initial_R f i s h) (f s h)))

  initial_S : t.initial ⊆ W → (i : ℕ) → t.initial ⊆ (round_at t i).S
  initial_S f i s h = meet_in_S i (steps_stay i) s (in_meet (initial_R f i s h) (f s h))

-- ---- where the rounds stop

module _ (t : Table) (r : Round) where
  is_safe_true : is_safe t r ≡ true → union t.initial (post t.n t.row r.R) ⊆ r.Z
  unfolding is_safe
  is_safe_true e = subset_in e

  pub is_safe_intro : t.initial ⊆ r.Z → post t.n t.row r.R ⊆ r.Z → is_safe t r ≡ true
  unfolding is_safe
  is_safe_intro f g = in_subset (λ s h. ⊎_elim (f s) (g s) (union_in h))

  is_unsafe_true : is_unsafe t r ≡ true → t.initial ⊆ r.S → ⊥
  unfolding is_unsafe
  is_unsafe_true e f = clash (in_subset f) (not_true _ e)

  is_unsafe_false : is_unsafe t r ≡ false → t.initial ⊆ r.S
  unfolding is_unsafe
  is_unsafe_false e = ⊎_elim (λ q. subset_in q) (λ q. absurd (clash (ap not q) e)) (decided (subset t.initial r.S))

-- every round before round i goes on
abbrev Before : Table → ℕ → Type 0
Before t i = (j : ℕ) → j < i → Continues t j

module _ (t : Table) where
  before_suc : {i : ℕ} → Before t i → Continues t i → Before t (suc i)
  before_suc before g j h = ⊎_elim (λ e. subst (Continues t) (sym e) g) (λ l. before j l) (below_suc h)

  -- Rb is inside Wb, so its steps end in Wb, and so in Zb; then Init inside Zb is safe, and Init not inside Zb is not inside Sb
  pub backward-stops : Continues t (backward_number t) → ⊥
  backward-stops g = clash (is_safe_intro t r (λ s h. S_in_Z t b s (is_unsafe_false t r g.not_unsafe s h)) steps) g.not_safe
    where
      b : ℕ
      b = backward_number t

      r : Round
      r = round_at t b

      steps : post t.n t.row r.R ⊆ r.Z
      steps u h =
          let p = post_in _ _ h in
          let in-W = eliminated-closed t p.0 (Z_eliminated t b p.0 ((round_facts t b).R_in_Z p.0 p.2)) u p.3 in
          steps_stay t (eliminated t b) (eliminated-not_forbidden t b) (eliminated-closed t) b p.0 u p.2 p.3 in-W

  before-backward : {i : ℕ} → Before t i → i ≤ backward_number t
  before-backward {i} before =
      ⊎_elim (λ l. absurd (backward-stops (before (backward_number t) l))) (λ h. h) (lt_or_ge (backward_number t) i)

-- ---- the outcome

-- round i is reached within the allowance
record Reached (t : Table) (allowance i : ℕ) : Type 0 where
  within : i ≤ allowance
  before : Before t i

-- what an outcome tells of the rounds
abbrev Ends : Table → ℕ → Outcome → Type 0
Ends t allowance (safe i X) = Reached t allowance i × (is_safe t (round_at t i) ≡ true) × (X ≡ (round_at t i).R)
Ends t allowance (unsafe i) = Reached t allowance i × (is_safe t (round_at t i) ≡ false) × (is_unsafe t (round_at t i) ≡ true)
Ends t allowance (undecided i) = Reached t allowance i × Continues t i × (i ≡ allowance)

abbrev pub count_of : Outcome → ℕ
count_of (safe i X) = i
count_of (unsafe i) = i
count_of (undecided i) = i

module _ (t : Table) (allowance : ℕ) where
  settle-ends : (i : ℕ) (later : Outcome) → Reached t allowance i → (Continues t i → Ends t allowance later)
      → Ends t allowance (settle t (round_at t i) i later)
  unfolding settle
  settle-ends i later h go =
      by_cond (Ends t allowance) (is_safe t (round_at t i)) _ _ (λ s. (h, s, refl))
      (λ s.
      by_cond (Ends t allowance) (is_unsafe t (round_at t i)) _ _ (λ u. (h, s, u)) (λ u. go (record { not_safe = s; not_unsafe = u })))

  rounds-end : (left i : ℕ) → i + left ≡ allowance → Before t i → Ends t allowance (rounds t left i (round_at t i))
  unfolding rounds round_at
  rounds-end zero i e before =
      let h : Reached t allowance i = record { within = omega arith; before = before } in
      settle-ends i (undecided i) h (λ g. (h, g, omega arith))
  rounds-end (suc left) i e before =
      settle-ends i (rounds t left (suc i) (round_at t (suc i))) (record { within = omega arith; before = before })
      (λ g. rounds-end left (suc i) (omega arith) (before_suc t before g))

  run_ends : Ends t allowance (run t allowance)
  unfolding run round_at
  run_ends = rounds-end allowance zero (omega arith) (λ j l. absurd (not-suc-le-zero l))

  run-reached : Reached t allowance (count_of (run t allowance))
  run-reached = go (run t allowance) run_ends
    where
      go : (o : Outcome) → Ends t allowance o → Reached t allowance (count_of o)
      go (safe i X) e = e.0
      go (unsafe i) e = e.0
      go (undecided i) e = e.0

  pub count-backward : count_of (run t allowance) ≤ backward_number t
  count-backward = before-backward t run-reached.before

  pub undecided-count : {i : ℕ} → run t allowance ≡ undecided i → i ≡ allowance
  undecided-count q = (subst (Ends t allowance) q run_ends).2

  pub undecided-short : {i : ℕ} → run t allowance ≡ undecided i → allowance < backward_number t
  undecided-short q =
      let e = subst (Ends t allowance) q run_ends in
      omega (arith, before-backward t (before_suc t e.0.before e.1), e.2)

  -- after rounds that go on, the run is what the later rounds give
  run_from : (i left : ℕ) → i + left ≡ allowance → Before t i → run t allowance ≡ rounds t left i (round_at t i)
  unfolding run rounds round_at settle
  run_from zero left e before = let q : allowance ≡ left = omega arith in ap (λ (a : ℕ). rounds t a zero (first_round t)) q
  run_from (suc i) left e before =
      let g = before i (omega arith) in
      run_from i (suc left) (omega arith) (λ j l. before j (omega arith)) ∙ rw (g.not_safe, g.not_unsafe)

  pub first_stop : FirstStop t allowance
  unfolding rounds settle
  first_stop =
      record {
        at_safe = λ i h before s. run_from i (allowance - i) (omega arith) before ∙ rounds-safe (allowance - i) i s;
        at_unsafe = λ i h before s u. run_from i (allowance - i) (omega arith) before ∙ rounds-unsafe (allowance - i) i s u;
        at_undecided = λ on.
            let g = on allowance (omega arith) in
            run_from allowance zero (omega arith) (λ j l. on j (omega arith)) ∙ rw (g.not_safe, g.not_unsafe);
        only_undecided = λ i q.
            let e = subst (Ends t allowance) q run_ends in
            (e.2, λ j l. before_suc t e.0.before e.1 j (omega (arith, e.2)));
      }
    where
      rounds-safe : (left i : ℕ) → is_safe t (round_at t i) ≡ true → rounds t left i (round_at t i) ≡ safe i (round_at t i).R
      rounds-safe zero i s = rw s
      rounds-safe (suc left) i s = rw s

      rounds-unsafe : (left i : ℕ) → is_safe t (round_at t i) ≡ false → is_unsafe t (round_at t i) ≡ true
          → rounds t left i (round_at t i) ≡ unsafe i
      rounds-unsafe zero i s u = rw (s, u)
      rounds-unsafe (suc left) i s u = rw (s, u)

pub larger-run : (t : Table) (a b : ℕ) → a ≤ b → ((i : ℕ) → run t a ≡ undecided i → ⊥) → run t b ≡ run t a
larger-run t a b h = go (run t a) (run_ends t a)
  where
    go : (o : Outcome) → Ends t a o → ((i : ℕ) → o ≡ undecided i → ⊥) → run t b ≡ o
    go (safe i X) e d = (first_stop t b).at_safe i (omega (arith, e.0.within)) e.0.before e.1 ∙ ap (safe i) (sym e.2)
    go (unsafe i) e d = (first_stop t b).at_unsafe i (omega (arith, e.0.within)) e.0.before e.1 e.2
    go (undecided i) e d = absurd (d i refl)

-- ---- paths

module _ (t : Table) where
  pub eliminated-unreachable : (j : ℕ) (xs : List ℕ) {s : ℕ} → In (eliminated t j) s → leads t s xs ≡ true → j < length xs
  unfolding leads
  eliminated-unreachable j [] {s} h e = absurd (clash e (not_forbidden_in _ _ (eliminated-not_forbidden t j s h)))
  eliminated-unreachable zero (x ∷ xs) h e = omega arith
  eliminated-unreachable (suc j) (x ∷ xs) {s} h e =
      let step = and_true (member (t.row s) x) (leads t x xs) e in
      suc-le-suc (eliminated-unreachable j xs ((eliminated_in t j h).1 x (record { is = step.0 })) step.1)

  pub eliminated-leads : WellFormed t → (j : ℕ) {s : ℕ} → In (first_states t.n) s → (In (eliminated t j) s → ⊥)
      → (xs : List ℕ) × (leads t s xs ≡ true) × (length xs ≤ j)
  unfolding leads eliminated iterate
  eliminated-leads w zero {s} h out =
      ([], ⊎_elim (λ e. e) (λ e. absurd (out (in_not_forbidden _ _ h e))) (decided (member t.forbidden s)), zero-le)
  eliminated-leads w (suc j) {s} h out =
      ⊎_elim
      (λ k.
      let step = subset_not (t.row s) (eliminated t j) (is_false _ (λ e. out (in_eliminated t j k (subset_in e)))) in
      let rest = eliminated-leads w j (w.rows s (first_states_in h) step.0 step.1) step.2 in
      (step.0 ∷ rest.0, and_intro _ _ step.1.is rest.1, suc-le-suc rest.2))
      (λ o. let way = eliminated-leads w j h o in (way.0, way.1, omega (arith, way.2)))
      (in_or_out (eliminated t j) s)

  pub eliminated-members : WellFormed t → (j s : ℕ) → s < max_states
      → (member (eliminated t j) s ≡ true) ↔ ((s < t.n) × ((xs : List ℕ) → leads t s xs ≡ true → j < length xs))
  eliminated-members w j s b = (
    λ e.
        let h : In (eliminated t j) s = record { is = e } in
        (first_states_in (eliminated-within t j s h), λ xs. eliminated-unreachable j xs h),
    λ far.
        ⊎_elim (λ h. h.is)
        (λ out. let way = eliminated-leads w j (in_first_states b far.0) out in absurd (omega (arith, way.2, far.1 way.0 way.1)))
        (in_or_out (eliminated t j) s),
  )

  -- a path is an initial state and a way from it
  path_parts : (xs : List ℕ) → is_path t xs ≡ true
      → (x : ℕ) × (ys : List ℕ) × (xs ≡ x ∷ ys) × In t.initial x × (leads t x ys ≡ true)
  unfolding is_path
  path_parts [] e = absurd (false≢true e)
  path_parts (x ∷ ys) e =
      let both = and_true (member t.initial x) (leads t x ys) e in
      (x, ys, refl, record { is = both.0 }, both.1)

  -- where round j goes on, Init is inside Sj, so inside Wj
  before-path : (i : ℕ) → Before t i → (xs : List ℕ) → is_path t xs ≡ true → i < length xs
  before-path zero before xs e = let p = path_parts xs e in omega (arith, ap length p.2)
  before-path (suc j) before xs e =
      let p = path_parts xs e in
      let in-S = is_unsafe_false t (round_at t j) (before j (omega arith)).not_unsafe p.0 p.3 in
      let in-W = Z_eliminated t j p.0 (S_in_Z t j p.0 in-S) in
      omega (arith, ap length p.2, eliminated-unreachable j p.1 in-W p.4)

  pub count-path : (allowance : ℕ) (xs : List ℕ) → is_path t xs ≡ true → count_of (run t allowance) < length xs
  count-path allowance = before-path _ (run-reached t allowance).before

  pub unsafe-long : (allowance : ℕ) {i : ℕ} → run t allowance ≡ unsafe i → (xs : List ℕ) → is_path t xs ≡ true → i < length xs
  unsafe-long allowance q xs e = subst (λ (o : Outcome). count_of o < length xs) q (count-path allowance xs e)

  pub unsafe-path : WellFormed t → (allowance : ℕ) {i : ℕ} → run t allowance ≡ unsafe i → (xs : List ℕ) × (is_path t xs ≡ true)
  unfolding is_path
  unsafe-path w allowance {i} q =
      let lost = subset_not t.initial W (is_false _ (λ e. not_kept (subset_in e))) in
      let rest = eliminated-leads w (backward_number t) (w.initial lost.0 lost.1) lost.2 in
      (lost.0 ∷ rest.0, and_intro _ _ lost.1.is rest.1)
    where
      W : Set
      W = eliminated t (backward_number t)

      not_kept : t.initial ⊆ W → ⊥
      not_kept f =
          is_unsafe_true t (round_at t i) (subst (Ends t allowance) q (run_ends t allowance)).2
          (initial_S t W (eliminated-not_forbidden t _) (eliminated-closed t) f i)

-- ---- invariants

module _ (t : Table) where
  invariant-leads : {X : Set} → IsInvariant t X → (xs : List ℕ) {s : ℕ} → In X s → leads t s xs ≡ true → ⊥
  unfolding leads
  invariant-leads v [] {s} h e = clash e (v.not_forbidden s h.is)
  invariant-leads v (x ∷ xs) {s} h e =
      let step = and_true (member (t.row s) x) (leads t x xs) e in
      invariant-leads v xs (record { is = v.closed s x h.is step.0 }) step.1

  pub invariant_no_path : {X : Set} → IsInvariant t X → (xs : List ℕ) → is_path t xs ≡ true → ⊥
  invariant_no_path v xs e =
      let p = path_parts t xs e in
      invariant-leads v p.1 (record { is = v.initial p.0 p.3.is }) p.4

  invariant_intro : (X : Set) → t.initial ⊆ X → X ⊆ not_forbidden t.n t.forbidden → ((s : ℕ) → In X s → t.row s ⊆ X)
      → IsInvariant t X
  invariant_intro X f g c =
      record {
        initial = λ s h. (f s (record { is = h })).is;
        not_forbidden = λ s h. not_forbidden_in _ _ (g s (record { is = h }));
        closed = λ s u h r. (c s (record { is = h }) u (record { is = r })).is;
        within = λ s h. first_states_in (not_forbidden-within _ _ s (g s (record { is = h })));
      }

  is_safe-invariant : (i : ℕ) → is_safe t (round_at t i) ≡ true → IsInvariant t (round_at t i).R
  is_safe-invariant i e =
      let r = round_facts t i in
      let in-Z = is_safe_true t (round_at t i) e in
      invariant_intro _
      (λ s h. r.R_initial s h (in-Z s (in_union (inl h))))
      (λ s h. eliminated-not_forbidden t i s (Z_eliminated t i s (r.R_in_Z s h)))
      (λ s h u k. r.R_steps s u h k (in-Z u (in_union (inr (in_post _ _ (first_states_in (r.R_within s h)) h k)))))

  pub safe-invariant : (allowance : ℕ) {i : ℕ} {X : Set} → run t allowance ≡ safe i X → IsInvariant t X
  safe-invariant allowance {i} q =
      let e = subst (Ends t allowance) q (run_ends t allowance) in
      subst (IsInvariant t) (sym e.2) (is_safe-invariant i e.1)

  pub safe_no_path : (allowance : ℕ) {i : ℕ} {X : Set} → run t allowance ≡ safe i X → (xs : List ℕ) → is_path t xs ≡ true → ⊥
  safe_no_path allowance q = invariant_no_path (safe-invariant allowance q)
