-- Laws of map_at, for loops that change the element at each state of a set.
--
--   length-map_at, get_or-map_at             it by its length and its elements
--   map_at-tabulate                       of a list f 0, f 1, ..
--   map_at-none, map_at_peel               no state, no change; a state's element changed first, then those at the rest
--   mapping_turn, mapping_end             the loop over the states: a turn of it, and what it leaves
use Prim.Native.Nat.{ℕ, ◌<◌}
use mathlib.Core.Path.{◌≡◌, sym, ap, ap₂, ◌∙◌, subst}
use mathlib.Core.Logic.{⊎_elim}
use mathlib.Core.Bool.{Bool, false, cond}
use mathlib.Core.List.{List}
use lib.ListN.{length, get_or, set, length-set}
use lib.Seq.{ext_get_or, get_or-set_same, get_or-set_other}
use Rattle.basics.specs.Bounds.{tabulate}
use Rattle.model.specs.Sets.{Set, member, single, difference, empty}
use Rattle.basics.proofs.BoundLaws.{is_false, same_test, length-tabulate, get_or-tabulate, tabulate_cong}
use Rattle.model.proofs.SetsMembers.{In, in_bound, in_or_out, empty_in, in_single, single_in, in_difference, difference_in}
use Rattle.std.specs.Prelude.{Some}
use Rattle.core_state_set.specs.WordSets.{Takes}
use Rattle.core_rows.specs.Rows.{map_at}

module _ {A : Type 0} (f : A → A) (z : A) where
  pub length-map_at : (X : Set) (xs : List A) → length (map_at X f z xs) ≡ length xs
  unfolding map_at
  length-map_at X xs = length-tabulate _ (length xs)

  pub get_or-map_at : (X : Set) (xs : List A) (i : ℕ) → i < length xs → get_or (map_at X f z xs) i z ≡ cond (member X i) (f (get_or xs i z)) (get_or xs i z)
  unfolding map_at
  get_or-map_at X xs i h = get_or-tabulate _ (length xs) i z h

  pub map_at-tabulate : (X : Set) (n : ℕ) (g : ℕ → A) → map_at X f z (tabulate n g) ≡ tabulate n (λ s. cond (member X s) (f (g s)) (g s))
  unfolding map_at
  map_at-tabulate X n g =
      ap (λ (m : ℕ). tabulate m (λ s. let x = get_or (tabulate n g) s z in cond (member X s) (f x) x)) (length-tabulate g n)
      ∙ tabulate_cong _ _ n (λ s l. ap (λ (x : A). cond (member X s) (f x) x) (get_or-tabulate g n s z l))

  map_at-none : (xs : List A) → map_at empty f z xs ≡ xs
  map_at-none xs =
      ext_get_or z (map_at empty f z xs) xs (length-map_at empty xs)
      (λ i h.
      get_or-map_at empty xs i (subst (λ (m : ℕ). i < m) (length-map_at empty xs) h)
      ∙ ap (λ (b : Bool). cond b (f (get_or xs i z)) (get_or xs i z)) (is_false (member empty i) (λ m. empty_in (record { is = m }))))

  map_at_peel : (X : Set) (x : ℕ) (xs : List A) → In X x
      → map_at (difference X (single x)) f z (set xs x (f (get_or xs x z))) ≡ map_at X f z xs
  unfolding map_at
  map_at_peel X x xs h =
      rw (length-set xs x)
      (tabulate_cong _ _ (length xs) (λ i l. ⊎_elim (λ s. here i l (single_in s)) (λ o. there i o) (in_or_out (single x) i)))
    where
      after : List A
      after = set xs x (f (get_or xs x z))

      here : (i : ℕ) → i < length xs → i ≡ x
          → cond (member (difference X (single x)) i) (f (get_or after i z)) (get_or after i z) ≡ cond (member X i) (f (get_or xs i z)) (get_or xs i z)
      here i l e =
          let gone : member (difference X (single x)) x ≡ false = is_false _ (λ m. (difference_in (record { is = m })).1 (in_single (in_bound h))) in
          let within : x < length xs = rw e at l in
          rw (e, gone, h.is, get_or-set_same xs x _ z within)

      there : (i : ℕ) → (In (single x) i → ⊥)
          → cond (member (difference X (single x)) i) (f (get_or after i z)) (get_or after i z) ≡ cond (member X i) (f (get_or xs i z)) (get_or xs i z)
      there i o =
          ap₂ (λ (b : Bool) (y : A). cond b (f y) y)
          (same_test (member (difference X (single x)) i) (member X i)
          (λ m. (difference_in (record { is = m })).0.is)
          (λ m. (in_difference (record { is = m }) o).is))
          (get_or-set_other xs x i _ z (λ e. o (subst (λ (k : ℕ). In (single x) k) (sym e) (in_single (in_bound h)))))

-- ---- a loop over the states of a set: what is changed so far, with the changes at the states that are left, is the goal

module _ {A : Type 0} (f : A → A) (z : A) where
  pub mapping_turn : (left : Set) (now : List A) {rest : Set} {s : ℕ} {goal : List A} {new : A} → Takes left (Some s) rest → new ≡ f (get_or now s z)
      → map_at left f z now ≡ goal → map_at rest f z (set now s new) ≡ goal
  mapping_turn left now {s = s} taken p so =
      ap₂ (λ (Y : Set) (new : A). map_at Y f z (set now s new)) taken.1 p ∙ map_at_peel f z left s now (record { is = taken.0 }) ∙ so

  pub mapping_end : (now : List A) {left : Set} {goal : List A} → left ≡ empty → map_at left f z now ≡ goal → now ≡ goal
  mapping_end now e so = sym (map_at-none f z now) ∙ ap (λ (Y : Set). map_at Y f z now) (sym e) ∙ so
