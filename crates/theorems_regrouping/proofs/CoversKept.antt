-- The rewritings keep the cover of each state.
--
--   cover_of_proper             a cover is a proper set
--   AllClosed n L M            each set of M holds the cover for L of each of its states
--   closed_inside              then the covers for L are inside those for M; closed_same: both ways, they are the same
--   union-closed, meet-closed  a union and a meet of two such sets are such sets
--   perm_mem                   a list in another order has the same members
--   inserted                   a closed set put in anywhere
--   rewriting_same             each rewriting keeps the covers
use Prim.Native.Nat.{ℕ}
use mathlib.Core.Path.{◌≡◌, sym, ◌∙◌, subst}
use mathlib.Core.Logic.{inl, inr, ⊎_elim}
use mathlib.Core.List.Memᴰ
use mathlib.Core.List.Permᴰ
use mathlib.Core.List.{List, [], ◌∷◌, ◌++◌, Memᴰ, Permᴰ}
use Rattle.model.specs.Sets.{Set, member, union, meet, states, first_states}
use Rattle.model.specs.Tables.{cover_of}
use Rattle.basics.proofs.BoundLaws.{by_cond}
use Rattle.model.proofs.SetsMembers.{Proper, set_of_proper, in_union, union_in, in_meet, meet_in, ◌⊆◌, same_set}
use Rattle.model.proofs.CoverLaws.{in_cover_of, cover_of-within, Closed, listed-closed}
use Rattle.theorems_regrouping.specs.Regrouping.{SameCovers, Rewriting, reordered, repeated, with_union, with_overlap, undone, followed}

module _ (n : ℕ) where
  cover_of_proper : (L : List Set) (s : ℕ) → Proper (cover_of n L s)
  unfolding cover_of meet first_states states
  cover_of_proper [] s = set_of_proper _
  cover_of_proper (Z ∷ L) s = by_cond Proper (member Z s) _ _ (λ e. set_of_proper _) (λ e. cover_of_proper L s)

  abbrev AllClosed : List Set → List Set → Type 0
  AllClosed L M = (Z : Set) → Memᴰ Z M → Closed n L Z

  closed_inside : (L M : List Set) → AllClosed L M → (s : ℕ) → cover_of n L s ⊆ cover_of n M s
  closed_inside L M c s u h = in_cover_of n M (cover_of-within n L s u h) (λ Z m k. c Z m s k u h)

  closed_same : (L M : List Set) → AllClosed L M → AllClosed M L → SameCovers n L M
  closed_same L M c d =
      record { same = λ s h. same_set _ _ (cover_of_proper L s) (cover_of_proper M s) (closed_inside L M c s) (closed_inside M L d s) }

  union-closed : (L : List Set) (X Y : Set) → Closed n L X → Closed n L Y → Closed n L (union X Y)
  union-closed L X Y c d s h u k = in_union (⊎_elim (λ x. inl (c s x u k)) (λ y. inr (d s y u k)) (union_in h))

  meet-closed : (L : List Set) (X Y : Set) → Closed n L X → Closed n L Y → Closed n L (meet X Y)
  meet-closed L X Y c d s h u k = let both = meet_in h in in_meet (c s both.0 u k) (d s both.1 u k)

  -- both lists have the sets in front and behind
  inserted : (front back : List Set) (W : Set) → Closed n (front ++ back) W → SameCovers n (front ++ back) (front ++ (W ∷ back))
  inserted front back W c =
      closed_same _ _
      (λ Z m.
      ⊎_elim (λ f. listed-closed n _ Z (Memᴰ.append_left back f))
      (λ r.
      ⊎_elim (λ e. subst (Closed n (front ++ back)) (sym e) c) (λ b. listed-closed n _ Z (Memᴰ.append_right front b)) (Memᴰ.cases_cons r))
      (Memᴰ.append_cases front m))
      (λ Z m.
      listed-closed n _ Z
      (⊎_elim (λ f. Memᴰ.append_left (W ∷ back) f) (λ b. Memᴰ.append_right front (Memᴰ.tail b)) (Memᴰ.append_cases front m)))

  -- of lists that are given as such
  inserted_in : {L M : List Set} (front back : List Set) (W : Set) → L ≡ front ++ back → M ≡ front ++ (W ∷ back) → Closed n L W → SameCovers n L M
  inserted_in {M = M} front back W p q c =
      subst (λ (K : List Set). SameCovers n K M) (sym p)
      (subst (λ (K : List Set). SameCovers n (front ++ back) K) (sym q) (inserted front back W (subst (λ (K : List Set). Closed n K W) p c)))

perm_mem : {L M : List Set} → Permᴰ L M → (Z : Set) → Memᴰ Z L → Memᴰ Z M
perm_mem Permᴰ.nil Z m = m
perm_mem (Permᴰ.cons e p) Z m = ⊎_elim (λ q. Memᴰ.head (q ∙ e)) (λ l. Memᴰ.tail (perm_mem p Z l)) (Memᴰ.cases_cons m)
perm_mem (Permᴰ.swap e f) Z m =
    ⊎_elim (λ q. Memᴰ.tail (Memᴰ.head (q ∙ e)))
    (λ l. ⊎_elim (λ q. Memᴰ.head (q ∙ f)) (λ r. Memᴰ.tail (Memᴰ.tail r)) (Memᴰ.cases_cons l))
    (Memᴰ.cases_cons m)
perm_mem (Permᴰ.trans p q) Z m = perm_mem q Z (perm_mem p Z m)

module _ (n : ℕ) where
  pub rewriting_same : {L M : List Set} → Rewriting L M → SameCovers n L M
  rewriting_same (reordered {L} {M} p) =
      closed_same n L M (λ Z m. listed-closed n L Z (perm_mem (Permᴰ.symm p) Z m)) (λ Z m. listed-closed n M Z (perm_mem p Z m))
  rewriting_same (repeated {L} {M} f) =
      closed_same n L M (λ Z m. listed-closed n L Z ((f Z).1 m)) (λ Z m. listed-closed n M Z ((f Z).0 m))
  rewriting_same (with_union {L} front back X Y x y p q) =
      inserted_in n front back (union X Y) p q (union-closed n L X Y (listed-closed n L X x) (listed-closed n L Y y))
  rewriting_same (with_overlap {L} front back X Y x y p q) =
      inserted_in n front back (meet X Y) p q (meet-closed n L X Y (listed-closed n L X x) (listed-closed n L Y y))
  rewriting_same (undone r) = let c = rewriting_same r in record { same = λ s h. sym (c.same s h) }
  rewriting_same (followed r q) =
      let c = rewriting_same r in
      let d = rewriting_same q in
      record { same = λ s h. c.same s h ∙ d.same s h }
