-- The passes of R: what is expanded before pass k is what k steps of R's equation give, and the order has each of its states once.
--
--   step_empty, step_union     R's step of no states, and of a union: the step of the one with what the other brings
--   pass_before, pass_steps    the passes as iterations of a step that goes so through unions
--   frontier_new                  a pass expands nothing that was expanded before
--   order_times, order_long    the order of the first k passes has each state expanded before pass k once
--   order_still                from a pass without states on the order stays the same
--   pass_at_cong                passes that agree on a kind of set that they keep
--   in_order                   the theorem
use Prim.Native.Nat.{ℕ, zero, suc, ◌+◌, ◌-◌, ◌≤◌}
use native.Mathlib.Nat.{zero-add, add-zero}
use native.Mathlib.Omega.{arith}
use mathlib.Core.Path.{◌≡◌, refl, sym, ap, ap₂, ◌∙◌, subst}
use mathlib.Core.Logic.{inl, inr, ⊎_elim}
use mathlib.Core.Bool.{Bool, true, false, cond, not, ◌&&◌, ◌||◌}
use mathlib.Core.List.{List, ◌++◌, append-nil}
use lib.ListN.{length, length-append}
use Rattle.basics.specs.Bounds.{any, concat}
use Rattle.model.specs.Sets.{max_states, Set, member, empty, union, meet, difference, members, size, image}
use Rattle.model.specs.Tables.{Table, post, cover, cover_of}
use Rattle.model.specs.Rounds.{iterate, forward_step, forward}
use Rattle.basics.proofs.BoundLaws.{is_false, same_test, or_intro, or_true, and_true, and_intro, decided, clash, not_true}
use Rattle.model.proofs.SetsMembers.{Proper, set_of_proper, In, in_or_out, empty_in, in_union, union_in, in_meet, meet_in, in_difference, difference_in, ◌⊆◌, in_subset, ⊆-of-eq, same_set, union_assoc, union_comm, union-empty}
use Rattle.model.proofs.SetsImages.{image-none, image-union}
use Rattle.model.proofs.Fixpoints.{iterate-still}
use Rattle.model.proofs.CoverLaws.{forward_step_proper}
use Rattle.core_state_set.proofs.SetsStates.{members-none}
use Rattle.core_fixpoints.specs.Order.{Pass, pass_at, order_of, first_pass, later_pass, forward_order, times, frontier_at, InOrder}
use Rattle.core_fixpoints.proofs.SetsListed.{size_apart, times-append, times-members, filter-rising}

-- ---- R's step

meet-union : (Z X Y : Set) → meet Z (union X Y) ≡ union (meet Z X) (meet Z Y)
unfolding meet union
meet-union Z X Y =
    same_set _ _ (set_of_proper _) (set_of_proper _)
    (λ s h. let both = meet_in h in in_union (⊎_elim (λ x. inl (in_meet both.0 x)) (λ y. inr (in_meet both.0 y)) (union_in both.1)))
    (λ s h. ⊎_elim (λ x. let both = meet_in x in in_meet both.0 (in_union (inl both.1))) (λ y. let both = meet_in y in in_meet both.0 (in_union (inr both.1))) (union_in h))

-- cover(Z meet (I union post(X))), the cover and post as images
module _ (m n : ℕ) (g h : ℕ → Set) (I Z : Set) where
  abbrev step : Set → Set
  step X = image m g (meet Z (union I (image n h X)))

  pub step_empty : step empty ≡ image m g (meet Z I)
  unfolding meet
  step_empty =
      ap (image m g)
      (same_set _ _ (set_of_proper _) (set_of_proper _)
      (λ s i.
      let both = meet_in i in
      in_meet both.0 (⊎_elim (λ a. a) (λ b. absurd (empty_in (⊆-of-eq (image-none n h empty (in_subset (λ s k. k))) s b))) (union_in both.1)))
      (λ s i. let both = meet_in i in in_meet both.0 (in_union (inl both.1))))

  pub step_union : (B F : Set) → step (union B F) ≡ union (step B) (image m g (meet Z (image n h F)))
  step_union B F =
      ap (λ (X : Set). image m g (meet Z X)) (ap (union I) (image-union n h B F) ∙ union_assoc I (image n h B) (image n h F))
      ∙ ap (image m g) (meet-union Z (union I (image n h B)) (image n h F))
      ∙ image-union m g _ _

union_less : (X Y : Set) → union X (difference Y X) ≡ union X Y
unfolding union
union_less X Y =
    same_set _ _ (set_of_proper _) (set_of_proper _)
    (λ s h. ⊎_elim (λ x. in_union (inl x)) (λ d. in_union (inr (difference_in d).0)) (union_in h))
    (λ s h.
    ⊎_elim (λ x. in_union (inl x)) (λ y. ⊎_elim (λ x. in_union (inl x)) (λ o. in_union (inr (in_difference y o))) (in_or_out X s)) (union_in h))

-- ---- the passes

module _ (first : Set) (joined : Set → Set) where
  abbrev pass : ℕ → Pass
  pass = pass_at first joined

  -- a pass expands nothing that was expanded before
  pub frontier_new : (k : ℕ) {s : ℕ} → In (pass k).before s → In (pass k).frontier s → ⊥
  unfolding pass_at
  frontier_new zero h i = empty_in h
  frontier_new (suc k) h i = (difference_in i).1 h

  pub order_next : (k : ℕ) → order_of first joined (suc k) ≡ order_of first joined k ++ members (pass k).frontier
  unfolding order_of concat
  order_next k = refl

  pub order_times : (k s : ℕ) → times s (order_of first joined k) ≡ cond (member (pass k).before s) 1 0
  unfolding order_of concat pass_at times
  order_times zero s = ap (λ (b : Bool). cond b 1 0) (sym (is_false (member empty s) (λ e. empty_in (record { is = e }))))
  order_times (suc k) s =
      times-append s (order_of first joined k) (members (pass k).frontier)
      ∙ ap₂ (λ (a b : ℕ). a + b) (order_times k s) (times-members (pass k).frontier s)
      ∙ one_of s (pass k).before (pass k).frontier (λ s h i. frontier_new k h i)
    where
      one_of : (s : ℕ) (B F : Set) → ((s : ℕ) → In B s → In F s → ⊥) → cond (member B s) 1 0 + cond (member F s) 1 0 ≡ cond (member (union B F) s) 1 0
      one_of s B F apart =
          ⊎_elim
          (λ (b : member B s ≡ true).
          let out : member F s ≡ false = is_false _ (λ f. apart s (record { is = b }) (record { is = f })) in
          rw (b, out, (in_union {X = B} {Y = F} {s = s} (inl (record { is = b }))).is))
          (λ (b : member B s ≡ false).
          let same : member (union B F) s ≡ member F s =
          same_test _ _ (λ e. ⊎_elim (λ h. absurd (clash h.is b)) (λ h. h.is) (union_in {X = B} {Y = F} {s = s} (record { is = e }))) (λ e. (in_union {X = B} {Y = F} {s = s} (inr (record { is = e }))).is) in
          rw (b, same) (zero-add _))
          (decided (member B s))

  pub order_long : (k : ℕ) → length (order_of first joined k) ≡ size (pass k).before
  unfolding order_of concat pass_at size
  order_long zero = ap length (sym (members-none {X = empty} (λ s h. empty_in h)))
  order_long (suc k) =
      length-append (order_of first joined k) (members (pass k).frontier)
      ∙ ap (λ (m : ℕ). m + size (pass k).frontier) (order_long k)
      ∙ sym (size_apart (pass k).before (pass k).frontier (λ s h i. frontier_new k h i))

  -- which states were expanded before
  before-any : (k s : ℕ) → member (pass k).before s ≡ any k (λ j. member (pass j).frontier s)
  unfolding pass_at any
  before-any zero s = is_false (member empty s) (λ e. empty_in (record { is = e }))
  before-any (suc k) s =
      same_test (member (union (pass k).before (pass k).frontier) s) (member (pass k).before s || member (pass k).frontier s)
      (λ e. or_intro _ _ (⊎_elim (λ h. inl h.is) (λ h. inr h.is) (union_in {X = (pass k).before} {Y = (pass k).frontier} {s = s} (record { is = e }))))
      (λ e. (in_union {X = (pass k).before} {Y = (pass k).frontier} {s = s} (⊎_elim (λ h. inl (record { is = h })) (λ h. inr (record { is = h })) (or_true _ _ e))).is)
      ∙ ap (λ (b : Bool). b || member (pass k).frontier s) (before-any k s)

  pub later_frontier : (k s : ℕ) → member (pass (suc k)).frontier s ≡ (member (joined (pass k).frontier) s && not (any (suc k) (λ j. member (pass j).frontier s)))
  unfolding pass_at
  later_frontier k s =
      same_test (member (difference (joined (pass k).frontier) (union (pass k).before (pass k).frontier)) s)
      (member (joined (pass k).frontier) s && not (member (union (pass k).before (pass k).frontier) s))
      (λ e.
      let d = difference_in {X = joined (pass k).frontier} {Y = union (pass k).before (pass k).frontier} {s = s} (record { is = e }) in
      and_intro _ _ d.0.is (ap not (is_false _ (λ i. d.1 (record { is = i })))))
      (λ e.
      let both = and_true (member (joined (pass k).frontier) s) _ e in
      (in_difference {X = joined (pass k).frontier} {Y = union (pass k).before (pass k).frontier} {s = s} (record { is = both.0 }) (λ i. clash i.is (not_true _ both.1))).is)
      ∙ ap (λ (b : Bool). member (joined (pass k).frontier) s && not b) (before-any (suc k) s)

  before_proper : (k : ℕ) → Proper (pass k).before
  unfolding pass_at empty union
  before_proper zero = set_of_proper _
  before_proper (suc k) = set_of_proper _

  -- ---- as iterations of a step

  module _ (f : Set → Set) (proper : (X : Set) → Proper (f X)) (none : f empty ≡ first)
      (more : (B F : Set) → f (union B F) ≡ union (f B) (joined F)) where
    pub pass_steps : (k : ℕ) → f (pass k).before ≡ union (pass k).before (pass k).frontier
    unfolding pass_at
    pass_steps zero = none ∙ sym (union_comm empty first ∙ union-empty first (subst Proper none (proper empty)))
    pass_steps (suc k) =
        more (pass k).before (pass k).frontier
        ∙ ap (λ (X : Set). union X (joined (pass k).frontier)) (pass_steps k)
        ∙ sym (union_less (union (pass k).before (pass k).frontier) (joined (pass k).frontier))

    pub pass_before : (k : ℕ) → (pass k).before ≡ iterate f empty k
    unfolding pass_at iterate
    pass_before zero = refl
    pass_before (suc k) = sym (pass_steps k) ∙ ap f (pass_before k)

    -- where a step changes nothing a pass has no states
    pub fixed_done : (k : ℕ) → f (pass k).before ≡ (pass k).before → (pass k).frontier ⊆ empty
    fixed_done k e s h = absurd (frontier_new k (⊆-of-eq (sym (pass_steps k) ∙ e) s (in_union (inr h))) h)

    -- a pass without states is the last: what was expanded before it is all that is
    module _ (k : ℕ) (done : (pass k).frontier ⊆ empty) where
      pub pass_still : f (pass k).before ≡ (pass k).before
      pass_still =
          pass_steps k
          ∙ same_set _ _ (subst Proper (pass_steps k) (proper _)) (before_proper k)
          (λ s h. ⊎_elim (λ b. b) (λ e. absurd (empty_in (done s e))) (union_in h)) (λ s h. in_union (inl h))

      pub iterate_done : (m : ℕ) → k ≤ m → iterate f empty m ≡ (pass k).before
      iterate_done m h = iterate-still f empty k m (ap f (sym (pass_before k)) ∙ pass_still ∙ pass_before k) h ∙ sym (pass_before k)

      none_later : (m : ℕ) → k ≤ m → (s : ℕ) → In (pass m).frontier s → ⊥
      none_later m h s i =
          let same : (pass m).before ≡ (pass k).before = pass_before m ∙ iterate_done m h in
          let all : union (pass m).before (pass m).frontier ≡ (pass m).before = sym (pass_steps m) ∙ ap f same ∙ pass_still ∙ sym same in
          frontier_new m (⊆-of-eq all s (in_union (inr i))) i

      order_more : (m : ℕ) → order_of first joined (k + m) ≡ order_of first joined k
      order_more zero = ap (order_of first joined) (add-zero k)
      order_more (suc m) =
          let next : k + suc m ≡ suc (k + m) = omega arith in
          ap (order_of first joined) next
          ∙ order_next (k + m)
          ∙ ap₂ (λ (xs ys : List ℕ). xs ++ ys) (order_more m) (members-none {X = (pass (k + m)).frontier} (none_later (k + m) (omega arith)))
          ∙ append-nil (order_of first joined k)

      pub order_still : (n : ℕ) → k ≤ n → order_of first joined n ≡ order_of first joined k
      order_still n h = let e : n ≡ k + (n - k) = omega arith in ap (order_of first joined) e ∙ order_more (n - k)

-- ---- passes that agree on a kind of set that they keep

pub pass_at_cong : (P : Set → Type 0) (first first' : Set) (joined joined' : Set → Set) → first ≡ first' → P first
    → ((X : Set) → P X → joined X ≡ joined' X) → ((X Y : Set) → P (difference (joined X) Y))
    → (k : ℕ) → (pass_at first joined k ≡ pass_at first' joined' k) × P (pass_at first joined k).frontier
unfolding pass_at
pass_at_cong P first first' joined joined' e h q keep zero = (ap (λ (X : Set). record { before = empty; frontier = X }) e, h)
pass_at_cong P first first' joined joined' e h q keep (suc k) =
    let so = pass_at_cong P first first' joined joined' e h q keep k in (
      ap₂ (λ (l : Pass) (X : Set). record { before = union l.before l.frontier; frontier = difference X (union l.before l.frontier) }) so.0
          (q (pass_at first joined k).frontier so.1 ∙ ap (λ (l : Pass). joined' l.frontier) so.0),
      keep (pass_at first joined k).frontier _,
    )

-- ---- the theorem

module _ (t : Table) (L : List Set) (Z : Set) where
  R_before : (pass_at (first_pass t L Z) (later_pass t L Z) t.n).before ≡ forward t L Z
  unfolding first_pass later_pass forward forward_step cover post
  R_before =
      pass_before (first_pass t L Z) (later_pass t L Z) (forward_step t L Z) (forward_step_proper t L Z)
      (step_empty t.n t.n (cover_of t.n L) t.row t.initial Z)
      (step_union t.n t.n (cover_of t.n L) t.row t.initial Z)
      t.n

  frontier-first : frontier_at t L Z 0 ≡ cover t.n L (meet Z t.initial)
  unfolding pass_at first_pass
  frontier-first = refl

  frontier_later : (k s : ℕ)
      → member (frontier_at t L Z (suc k)) s
      ≡ (member (cover t.n L (meet Z (post t.n t.row (frontier_at t L Z k)))) s && not (any (suc k) (λ j. member (frontier_at t L Z j) s)))
  unfolding later_pass
  frontier_later k s = later_frontier (first_pass t L Z) (later_pass t L Z) k s

pub in_order : (t : Table) (L : List Set) (Z : Set) → InOrder t L Z (forward_order t L Z)
unfolding forward_order order_of members
in_order t L Z =
    record {
      each_once = λ s. order_times (first_pass t L Z) (later_pass t L Z) t.n s ∙ ap (λ (X : Set). cond (member X s) 1 0) (R_before t L Z);
      by_passes = refl;
      first_pass_lem = frontier-first t L Z;
      later_pass_lem = frontier_later t L Z;
      rising = λ k. filter-rising (member (frontier_at t L Z k)) max_states;
    }
