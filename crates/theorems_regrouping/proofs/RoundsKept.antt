-- The rounds read of the groups the cover of each state only, and the path reads nothing of them.
--
--   regroup t G                    the table t with the groups G
--   cover-same, covers-add         lists with the same covers: of each set, and with one set more
--   forward-same, backward-same    R and S for such lists
--   SameRound, next-same           rounds alike but for their lists, which have the same covers; so are the next ones
--   run-same                       the same outcome
--   reaching-same, smallest-same   the same path
use Prim.Native.Nat.{ℕ, zero, suc}
use mathlib.Core.Path.{◌≡◌, refl, ap, ◌∙◌, subst, fun_ext}
use mathlib.Core.Bool.{cond}
use mathlib.Core.List.{List, [], ◌∷◌}
use Rattle.basics.specs.Bounds.{first}
use Rattle.model.specs.Sets.{Set, member, empty, union, meet, meets, states, smallest, first_states}
use Rattle.model.specs.Tables.{Table, hold, cover_of, cover}
use Rattle.model.specs.Rounds.{iterate, Round, forward_step, forward, backward_step, backward, round_of, first_round, next_round, is_safe, is_unsafe, Outcome, undecided, settle, rounds, run}
use Rattle.model.specs.Paths.{reaching, shortest, walk, smallest_path}
use Rattle.model.proofs.SetsImages.{image_cong}
use Rattle.theorems_regrouping.specs.Regrouping.{SameCovers, first_list}

abbrev pub regroup : Table → List Set → Table
regroup t G = record { n = t.n; initial = t.initial; forbidden = t.forbidden; groups = G; row = t.row }

-- ---- lists with the same covers

module _ (n : ℕ) (L M : List Set) (c : SameCovers n L M) where
  cover-same : (X : Set) → cover n L X ≡ cover n M X
  unfolding cover
  cover-same X = image_cong n (cover_of n L) (cover_of n M) X (λ x h i. c.same x h)

  pub covers-add : (Z : Set) → SameCovers n (Z ∷ L) (Z ∷ M)
  unfolding cover_of
  covers-add Z = record { same = λ s h. ap (λ (C : Set). cond (member Z s) (meet C Z) C) (c.same s h) }

module _ (t : Table) (L M : List Set) (c : SameCovers t.n L M) where
  forward-same : (Z : Set) → forward t L Z ≡ forward t M Z
  unfolding forward forward_step
  forward-same Z = ap (λ (f : Set → Set). iterate f empty t.n) (fun_ext (λ X. cover-same t.n L M c _))

  backward-same : (R : Set) → backward t L R ≡ backward t M R
  unfolding backward backward_step
  backward-same R = ap (λ (f : Set → Set). iterate f (first_states t.n) t.n) (fun_ext (λ X. cover-same t.n L M c _))

-- ---- rounds

record SameRound (n : ℕ) (r q : Round) : Type 0 where
  Z : r.Z ≡ q.Z
  R : r.R ≡ q.R
  S : r.S ≡ q.S
  covers : SameCovers n r.list q.list

module _ (t : Table) (G : List Set) where
  round_of-same : (L M : List Set) → SameCovers t.n L M → (Z : Set) → SameRound t.n (round_of t L Z) (round_of (regroup t G) M Z)
  unfolding round_of forward forward_step backward backward_step
  round_of-same L M c Z =
      record {
        Z = refl;
        R = forward-same t L M c Z;
        S = ap (backward t L) (forward-same t L M c Z) ∙ backward-same t L M c (forward t M Z);
        covers = c;
      }

  next-same : (r q : Round) → SameRound t.n r q → SameRound t.n (next_round t r) (next_round (regroup t G) q)
  unfolding next_round
  next-same r q e =
      let z : Set → Set = λ S. meet S (hold t.n t.row S) in
      subst (λ (Z : Set). SameRound t.n (next_round t r) (round_of (regroup t G) (Z ∷ q.list) Z)) (ap z e.S)
      (round_of-same (z r.S ∷ r.list) (z r.S ∷ q.list) (covers-add t.n r.list q.list e.covers (z r.S)) (z r.S))

  settle-same : (r q : Round) → SameRound t.n r q → (i : ℕ) (o p : Outcome) → o ≡ p → settle t r i o ≡ settle (regroup t G) q i p
  unfolding settle is_safe is_unsafe
  settle-same r q e i o p h = rw (e.Z, e.R, e.S, h)

  rounds-same : (left i : ℕ) (r q : Round) → SameRound t.n r q → rounds t left i r ≡ rounds (regroup t G) left i q
  unfolding rounds
  rounds-same zero i r q e = settle-same r q e i (undecided i) (undecided i) refl
  rounds-same (suc left) i r q e =
      settle-same r q e i _ _ (rounds-same left (suc i) (next_round t r) (next_round (regroup t G) q) (next-same r q e))

  pub run-same : SameCovers t.n (first_list t) (first_list (regroup t G)) → (allowance : ℕ) → run t allowance ≡ run (regroup t G) allowance
  unfolding run first_round
  run-same c allowance = rounds-same allowance 0 _ _ (round_of-same (first_list t) (first_list (regroup t G)) c _)

  -- ---- the path

  reaching-same : (k : ℕ) → reaching t k ≡ reaching (regroup t G) k
  unfolding reaching
  reaching-same zero = refl
  reaching-same (suc k) = ap (λ (X : Set). union X (states t.n (λ s. meets (t.row s) X))) (reaching-same k)

  pub shortest-same : shortest t ≡ shortest (regroup t G)
  unfolding shortest
  shortest-same = ap (first t.n) (fun_ext (λ k. ap (meets t.initial) (reaching-same k)))

  walk_same : (d : ℕ) (X : Set) → walk t d X ≡ walk (regroup t G) d X
  unfolding walk
  walk_same zero X = ap (λ (Y : Set). smallest (meet X Y) ∷ []) (reaching-same zero)
  walk_same (suc d) X =
      let x = smallest (meet X (reaching t (suc d))) in
      ap (λ xs. x ∷ xs) (walk_same d (t.row x))
      ∙ ap (λ (Y : Set). smallest (meet X Y) ∷ walk (regroup t G) d (t.row (smallest (meet X Y)))) (reaching-same (suc d))

  pub smallest-same : smallest_path t ≡ smallest_path (regroup t G)
  unfolding smallest_path
  smallest-same = ap (λ (d : ℕ). walk t d t.initial) shortest-same ∙ walk_same (shortest (regroup t G)) t.initial
