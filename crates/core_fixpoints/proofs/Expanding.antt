-- The loops that expand states.
--
--   Recording, record-*       the states of a set: with those that are left written behind it, the array holds them all
--   skip_known                the states of a closed set bring nothing that is not in it
--   Passing, passing-*        the passes of `forward`
use Prim.Native.Nat.{ℕ, suc, ◌+◌, ◌-◌, ◌≤◌, ◌<◌, zero-le}
use native.Mathlib.Nat.{zero-add, add-zero}
use native.Mathlib.Numerals.{add-one}
use native.Mathlib.Omega.{arith}
use mathlib.Core.Path.{◌≡◌, refl, sym, ap, ap₂, ◌∙◌, subst}
use mathlib.Core.Logic.{∥∥₁_elim}
use mathlib.Core.Bool.{true, false}
use Rattle.std.proofs.Props.{props}
use mathlib.Core.List.{List, [], ◌++◌}
use lib.ListN.{length, get_or, set, drop, replicate, length-replicate}
use lib.Seq.{sets, sets-eq}
use Rattle.model.specs.Sets.{max_states, Set, empty, union, meet, difference, subset, members, size, first_states}
use Rattle.basics.specs.Bounds.{concat}
use Rattle.model.specs.Calls.{overwrite}
use Rattle.model.specs.Promises.{IsLeast}
use Rattle.model.proofs.SetsMembers.{Proper, set_of_proper, empty_in, in_difference, difference_in, ◌⊆◌, subset_in, in_subset, subset_not, ⊆-of-eq, same_set, in_image, image_in, union_assoc, union-empty}
use Rattle.model.proofs.SetsCounted.{size_bound, size_pos, size-most}
use Rattle.model.proofs.Fixpoints.{iterate_has}
use Rattle.model.proofs.SetsImages.{image_mono, image-none, image-union}
use Rattle.core_state_set.specs.WordSets.{Takes}
use Rattle.std.specs.Prelude.{Some}
use Rattle.core_rows.specs.Rows.{successors_by}
use Rattle.core_fixpoints.specs.Steps.{cover_by, forward_by, IsCover}
use Rattle.core_state_set.proofs.SetsStates.{members-none}
use Rattle.core_fixpoints.specs.Order.{pass_at, order_of, first_pass_by, later_pass_by, order_by, padded}
use Rattle.core_fixpoints.proofs.Bridge.{cover_by-within, cover_by-closed, forward_by_proper, forward-least}
use Rattle.core_fixpoints.proofs.SetsListed.{size_apart}
use Rattle.model.proofs.ListsInParts.{sets-append}
use Rattle.core_fixpoints.proofs.Passes.{step_empty, step_union, frontier_new, order_next, order_long, pass_steps, pass_before, pass_still, iterate_done, order_still}

-- ---- the states of a set

-- with the states that are left written behind them, the array holds them all
pub record Recording (goal : List ℕ) (total : ℕ) (left : Set) (order : List ℕ) (count : ℕ) : Type 0 where
  pub whole : sets order count (members left) ≡ goal
  pub number : count + size left ≡ total

pub record_start : {X left : Set} (order : List ℕ) (count : ℕ) → left ≡ X → Recording (sets order count (members X)) (count + size X) left order count
record_start order count e = record { whole = ap (λ (Y : Set). sets order count (members Y)) e; number = ap (λ (Y : Set). count + size Y) e }

module _ {goal : List ℕ} {total : ℕ} {left : Set} {order : List ℕ} {count : ℕ} (so : Recording goal total left order count) where
  module _ {s : ℕ} {rest : Set} (taken : Takes left (Some s) rest) where
    fewer : size left ≡ suc (size rest)
    unfolding size
    fewer = ap length taken.2

    pub record_room : count < total
    record_room = omega (arith, fewer, so.number)

    pub record_turn : {order' : List ℕ} {count' : ℕ} → count' ≡ count + 1 → order' ≡ set order count s → Recording goal total rest order' count'
    record_turn {order'} {count'} c e =
        record {
          whole =
              ap₂ (λ (xs : List ℕ) (k : ℕ). sets xs k (members rest)) e (c ∙ add-one count) ∙ ap (sets order count) (sym taken.2) ∙ so.whole;
          number = omega (arith, c, fewer, so.number);
        }

  pub record_end : left ≡ empty → (order ≡ goal) × (count ≡ total)
  unfolding size
  record_end z =
      let none : members left ≡ [] = members-none {X = left} (λ s i. empty_in (⊆-of-eq z s i)) in
      (ap (sets order count) (sym none) ∙ so.whole, sym (add-zero count) ∙ ap (λ (xs : List ℕ). count + length xs) (sym none) ∙ so.number)

-- ---- the passes

sets-padded : (xs : List ℕ) → length xs ≤ max_states → sets (replicate max_states 0) 0 xs ≡ padded xs
unfolding padded overwrite
sets-padded xs h =
    let room : 0 + length xs ≤ length {A = ℕ} (replicate max_states 0) = omega (arith, length-replicate {A = ℕ} max_states 0) in
    sets-eq xs (replicate max_states 0) 0 room ∙ ap (λ (m : ℕ). xs ++ drop m (replicate max_states 0)) (zero-add (length xs))

module _ (cover : List Set) (is-cover : IsCover cover) where
  -- the states of a closed set bring nothing that is not in it
  skip_known : (X W : Set) {r : Set} → r ≡ cover_by cover W → difference (cover_by cover (difference X r)) r ≡ difference (cover_by cover X) r
  unfolding difference cover_by
  skip_known X W {r} e =
      same_set _ _ (set_of_proper _) (set_of_proper _)
      (λ s h.
      let d = difference_in h in
      in_difference (image_mono max_states (λ s. get_or cover s []) (difference X r) X (λ x i. (difference_in i).0) s d.0) d.1)
      (λ s h.
      let d = difference_in h in
      let w = image_in (λ s. get_or cover s []) X max_states d.0 in
      in_difference
      (in_image (λ s. get_or cover s []) (difference X r) max_states w.1
      (in_difference w.2 (λ i. d.1 (⊆-of-eq (sym e) s (cover_by-closed cover is-cover W (⊆-of-eq e w.0 i) s w.3))))
      w.3)
      d.1)

-- what is expanded before pass k is recorded, with its successors joined to the initial states; r has what pass k expands too
pub record Passing (rows : List ℕ) (cover : List Set) (initial Z : Set) (order : List ℕ) (frontier r entered : Set) (count : ℕ) : Type 0 where
  pub k : ℕ
  pub frontier-is : frontier ≡ (pass_at (first_pass_by cover initial Z) (later_pass_by rows cover Z) k).frontier
  pub r_is : r ≡ (pass_at (first_pass_by cover initial Z) (later_pass_by rows cover Z) (suc k)).before
  pub entered_is : entered ≡ union initial (successors_by rows (pass_at (first_pass_by cover initial Z) (later_pass_by rows cover Z) k).before)
  pub order_is : order ≡ sets (replicate max_states 0) 0 (order_of (first_pass_by cover initial Z) (later_pass_by rows cover Z) k)
  pub count-is : count ≡ size (pass_at (first_pass_by cover initial Z) (later_pass_by rows cover Z) k).before
  pub passes : k ≤ count

-- R's step of no states, and of a union
module _ (rows : List ℕ) (cover : List Set) (initial Z : Set) where
  pub forward-none : forward_by rows cover initial Z empty ≡ first_pass_by cover initial Z
  unfolding forward_by cover_by successors_by
  forward-none = step_empty max_states max_states _ _ initial Z

  pub forward-more : (B F : Set) → forward_by rows cover initial Z (union B F) ≡ union (forward_by rows cover initial Z B) (later_pass_by rows cover Z F)
  unfolding forward_by cover_by successors_by
  forward-more = step_union max_states max_states _ _ initial Z

module _ (rows : List ℕ) (cover : List Set) (is-cover : ∥ IsCover cover ∥₁) (initial Z : Set) where
  abbrev first : Set
  first = first_pass_by cover initial Z

  abbrev joined : Set → Set
  joined = later_pass_by rows cover Z

  abbrev step : Set → Set
  step = forward_by rows cover initial Z

  none : step empty ≡ first
  none = forward-none rows cover initial Z

  more : (B F : Set) → step (union B F) ≡ union (step B) (joined F)
  more = forward-more rows cover initial Z

  steps : (k : ℕ) → step (pass_at first joined k).before ≡ (pass_at first joined (suc k)).before
  unfolding pass_at
  steps k = pass_steps first joined step (forward_by_proper rows cover initial Z) none more k

  pub passing_start : {frontier : Set} → Proper initial → frontier ≡ first → Passing rows cover initial Z (replicate max_states 0) frontier frontier initial 0
  unfolding pass_at order_of concat successors_by size
  passing_start p e =
      record {
        k = 0;
        frontier-is = e;
        r_is = e ∙ sym none ∙ steps 0;
        entered_is = sym (ap (union initial) (image-none max_states _ empty (in_subset (λ s h. h))) ∙ union-empty initial p);
        order_is = refl;
        count-is = ap length (sym (members-none {X = empty} (λ s h. empty_in h)));
        passes = zero-le;
      }

  module _ {order : List ℕ} {frontier r entered : Set} {count : ℕ} (so : Passing rows cover initial Z order frontier r entered count) where
    before-size : size (pass_at first joined (suc so.k)).before ≡ count + size frontier
    unfolding pass_at
    before-size =
        size_apart _ _ (λ s h i. frontier_new first joined so.k h i)
        ∙ ap₂ (λ (a : ℕ) (X : Set). a + size X) (sym so.count-is) (sym so.frontier-is)

    r_closed : r ≡ cover_by cover (meet Z (union initial (successors_by rows (pass_at first joined so.k).before)))
    unfolding forward_by
    r_closed = so.r_is ∙ sym (steps so.k)

    pub passing_room : count + size frontier ≤ max_states
    passing_room = subst (λ (m : ℕ). m ≤ max_states) before-size (size-most _)

    some-frontier : subset frontier empty ≡ false → 0 < size frontier
    some-frontier e = size_pos (subset_not frontier empty e).1

    pub passing_less : {count' : ℕ} → subset frontier empty ≡ false → count' ≡ count + size frontier → max_states - count' < max_states - count
    passing_less e c = omega (arith, some-frontier e, passing_room, c)

    pub passing_turn : {order' : List ℕ} {found frontier' r' entered' : Set} {count' : ℕ} → subset frontier empty ≡ false
        → found ≡ successors_by rows frontier → count' ≡ count + size frontier → order' ≡ sets order count (members frontier)
        → entered' ≡ union entered found → frontier' ≡ difference (cover_by cover (difference (meet Z found) r)) r → r' ≡ union r frontier'
        → Passing rows cover initial Z order' frontier' r' entered' count'
    unfolding pass_at successors_by
    passing_turn {found = found} some f c o t j u =
        let pass = pass_at first joined so.k in
        let stepped : found ≡ successors_by rows pass.frontier = f ∙ ap (successors_by rows) so.frontier-is in
        let frontier-next = j ∙ ∥∥₁_elim is-cover (search props) (λ k. skip_known cover k (meet Z found) _ r_closed)
        ∙ ap₂ (λ (X Y : Set). difference (cover_by cover (meet Z X)) Y) stepped so.r_is in
        record {
          k = suc so.k;
          frontier-is = frontier-next;
          r_is = u ∙ ap₂ union so.r_is frontier-next;
          entered_is =
              t
              ∙ ap₂ union so.entered_is stepped
              ∙ sym (union_assoc initial (successors_by rows pass.before) (successors_by rows pass.frontier))
              ∙ ap (union initial) (sym (image-union max_states _ pass.before pass.frontier));
          order_is =
              o
              ∙ ap₂ (λ (xs : List ℕ) (m : ℕ). sets xs m (members frontier)) so.order_is (so.count-is ∙ sym (order_long first joined so.k) ∙ sym (zero-add _))
              ∙ ap (λ (X : Set). sets (sets (replicate max_states 0) 0 (order_of first joined so.k)) (0 + length (order_of first joined so.k)) (members X)) so.frontier-is
              ∙ sym (sets-append (replicate max_states 0) 0 (order_of first joined so.k) (members pass.frontier))
              ∙ ap (sets (replicate max_states 0) 0) (sym (order_next first joined so.k));
          count-is = c ∙ sym before-size;
          passes = omega (arith, so.passes, some-frontier some, c);
        }

    module _ (e : subset frontier empty ≡ true) where
      done : (pass_at first joined so.k).frontier ⊆ empty
      done s h = subset_in e s (⊆-of-eq (sym so.frontier-is) s h)

      r_before : r ≡ (pass_at first joined so.k).before
      r_before = so.r_is ∙ sym (steps so.k) ∙ pass_still first joined step (forward_by_proper rows cover initial Z) none more so.k done

      before-within : (k : IsCover cover) → (pass_at first joined so.k).before ⊆ first_states k.n
      unfolding forward_by
      before-within k =
          subst (λ (X : Set). X ⊆ first_states k.n) (sym (pass_before first joined step (forward_by_proper rows cover initial Z) none more so.k))
          (iterate_has (λ X. X ⊆ first_states k.n) step empty (λ s h. absurd (empty_in h)) (λ X h. cover_by-within cover k _) so.k)

      least : IsCover cover → IsLeast step r
      least k =
          let few : so.k ≤ k.n = omega (arith, so.passes, so.count-is, size_bound (before-within k)) in
          subst (IsLeast step)
          (iterate_done first joined step (forward_by_proper rows cover initial Z) none more so.k done k.n few ∙ sym r_before)
          (forward-least rows cover k initial Z)

      pub passing_least : IsLeast step r
      passing_least = ∥∥₁_elim is-cover (Prim.hlevel props) least

      whole : order_by rows cover initial Z ≡ order_of first joined so.k
      unfolding order_by
      whole =
          let few : so.k ≤ max_states = omega (arith, so.passes, so.count-is, size-most (pass_at first joined so.k).before) in
          order_still first joined step (forward_by_proper rows cover initial Z) none more so.k done max_states few

      pub passing_order : order ≡ padded (order_by rows cover initial Z)
      passing_order =
          let room : length (order_of first joined so.k) ≤ max_states = omega (arith, order_long first joined so.k, size-most (pass_at first joined so.k).before) in
          so.order_is ∙ sets-padded (order_of first joined so.k) room ∙ ap padded (sym whole)

      pub passing_count : count ≡ length (order_by rows cover initial Z)
      passing_count = so.count-is ∙ sym (order_long first joined so.k) ∙ ap length (sym whole)

      pub passing_entered : entered ≡ union initial (successors_by rows r)
      passing_entered = so.entered_is ∙ ap (λ (X : Set). union initial (successors_by rows X)) (sym r_before)
