-- Laws of post, hold and covers: each by its members, and a cover as a closure.
--
--   in_not_forbidden, not_forbidden_in   the states not forbidden; not_forbidden-within: they are states of the table
--   in_post, post_in, post_mono        post by its members
--   in_hold, hold_in, hold_mono        hold by its members; hold-within: they are states of the table
--   cover-add_in, cover-add_out        adding Z to the list changes the cover of each state in Z to its meet with Z, and no other cover
--   in_cover_of, cover_of_in             the cover of a state s by its members: states of the table that are in each listed set with s
--   cover_of-within, cover_of_self       so it holds states of the table only, s among them;
--   cover_of_trans                      and holds the cover of each of its states
--   cover-is                           it is the meet of the listed sets with s alone, where those hold states of the table only
--   Closed n L Y                       Y holds the cover of each of its states (it is an element of the abstract domain)
--   listed-closed, cover-closed        each listed set is closed, and so is each cover
--   cover_extensive, cover_minimal     the cover of X is the least closed set around X; cover_mono, cover_proper, cover-within
--   forwardStep-*, backwardStep-*      the steps of R and S are monotone, proper and within the states of the table
use Prim.Native.Nat.{ℕ, ◌≤◌, ◌<◌}
use native.Mathlib.Omega.{arith}
use mathlib.Core.Path.{◌≡◌, refl, sym, ap, subst}
use mathlib.Core.Logic.{inl, inr, ⊎_elim}
use mathlib.Core.Bool.{true, false, not}
use mathlib.Core.List.Memᴰ
use mathlib.Core.List.{List, [], ◌∷◌, Memᴰ}
use Rattle.model.specs.Sets.{max_states, Set, member, meet, first_states}
use Rattle.model.specs.Tables.{Table, post, hold, cover_of, cover, not_forbidden}
use Rattle.model.specs.Rounds.{forward_step, backward_step}
use Rattle.model.specs.Promises.{CoverIs}
use Rattle.basics.proofs.BoundLaws.{not_true, by_cond, clash}
use Rattle.model.proofs.SetsMembers.{Proper, In, in_bound, in_union, union_in, in_meet, meet_in, in_states, states_in_lem, states-within, in_first_states, first_states_in, ◌⊆◌, subset_in, in_subset, in_image, image_in}
use Rattle.model.proofs.SetsImages.{image_mono, image_inside, image_proper}

-- ---- the states of the table

module _ (n : ℕ) (F : Set) where
  pub in_not_forbidden : {s : ℕ} → In (first_states n) s → member F s ≡ false → In (not_forbidden n F) s
  unfolding not_forbidden
  in_not_forbidden h e = in_states n _ (in_bound h) (first_states_in h) (ap not e)

  pub not_forbidden_in : {s : ℕ} → In (not_forbidden n F) s → member F s ≡ false
  unfolding not_forbidden
  not_forbidden_in {s} h = not_true (member F s) (states_in_lem n _ h).1

  pub not_forbidden-within : not_forbidden n F ⊆ first_states n
  unfolding not_forbidden
  not_forbidden-within = states-within n _

-- ---- post and hold

module _ (n : ℕ) (row : ℕ → Set) where
  pub in_post : {X : Set} {x s : ℕ} → x < n → In X x → In (row x) s → In (post n row X) s
  unfolding post
  in_post {X} = in_image row X n

  pub post_in : {X : Set} {s : ℕ} → In (post n row X) s → (x : ℕ) × (x < n) × In X x × In (row x) s
  unfolding post
  post_in {X} = image_in row X n

  pub post_mono : (X Y : Set) → X ⊆ Y → post n row X ⊆ post n row Y
  unfolding post
  post_mono = image_mono n row

  pub in_hold : {X : Set} {s : ℕ} → In (first_states n) s → row s ⊆ X → In (hold n row X) s
  unfolding hold
  in_hold h i = in_states n _ (in_bound h) (first_states_in h) (in_subset i)

  pub hold_in : {X : Set} {s : ℕ} → In (hold n row X) s → row s ⊆ X
  unfolding hold
  hold_in h = subset_in (states_in_lem n _ h).1

  pub hold-within : (X : Set) → hold n row X ⊆ first_states n
  unfolding hold
  hold-within X = states-within n _

  pub hold_mono : (X Y : Set) → X ⊆ Y → hold n row X ⊆ hold n row Y
  hold_mono X Y i s h = in_hold (hold-within X s h) (λ u k. i u (hold_in h u k))

-- ---- the cover of a state

module _ (n : ℕ) where
  pub cover-add_in : (Z : Set) (L : List Set) (s : ℕ) → member Z s ≡ true → cover_of n (Z ∷ L) s ≡ meet (cover_of n L s) Z
  unfolding cover_of
  cover-add_in Z L s e = rw e

  pub cover-add_out : (Z : Set) (L : List Set) (s : ℕ) → member Z s ≡ false → cover_of n (Z ∷ L) s ≡ cover_of n L s
  unfolding cover_of
  cover-add_out Z L s e = rw e

  -- one more listed set is one more condition
  in_cover_of_cons : (Z : Set) (L : List Set) {s u : ℕ} → In (cover_of n L s) u → (In Z s → In Z u) → In (cover_of n (Z ∷ L) s) u
  unfolding cover_of
  in_cover_of_cons Z L {s} {u} h i = by_cond (λ (X : Set). In X u) (member Z s) _ _ (λ e. in_meet h (i (record { is = e }))) (λ e. h)

  cover_of_cons_in : (Z : Set) (L : List Set) {s u : ℕ} → In (cover_of n (Z ∷ L) s) u → In (cover_of n L s) u × (In Z s → In Z u)
  unfolding cover_of
  cover_of_cons_in Z L {s} {u} =
      by_cond (λ (X : Set). In X u → In (cover_of n L s) u × (In Z s → In Z u)) (member Z s) _ _
      (λ e h. ((meet_in h).0, λ k. (meet_in h).1)) (λ e h. (h, λ k. absurd (clash k.is e)))

  pub in_cover_of : (L : List Set) {s u : ℕ} → In (first_states n) u
      → ((Z : Set) → Memᴰ Z L → In Z s → In Z u) → In (cover_of n L s) u
  unfolding cover_of
  in_cover_of [] h i = h
  in_cover_of (Z ∷ L) h i = in_cover_of_cons Z L (in_cover_of L h (λ Y m. i Y (Memᴰ.tail m))) (i Z (Memᴰ.head refl))

  pub cover_of_in : (L : List Set) {s u : ℕ} → In (cover_of n L s) u → (Z : Set) → Memᴰ Z L → In Z s → In Z u
  cover_of_in [] h Y m k = absurd (Memᴰ.not-nil m)
  cover_of_in (Z ∷ L) {s} {u} h Y m k =
      let both = cover_of_cons_in Z L h in
      ⊎_elim (λ e. subst (λ (X : Set). In X s → In X u) (sym e) both.1 k) (λ l. cover_of_in L both.0 Y l k) (Memᴰ.cases_cons m)

  pub cover_of-within : (L : List Set) (s : ℕ) → cover_of n L s ⊆ first_states n
  unfolding cover_of
  cover_of-within [] s u h = h
  cover_of-within (Z ∷ L) s u h = cover_of-within L s u (cover_of_cons_in Z L h).0

  pub cover_of_self : (L : List Set) {s : ℕ} → In (first_states n) s → In (cover_of n L s) s
  cover_of_self L h = in_cover_of L h (λ Z m k. k)

  pub cover_of_trans : (L : List Set) (s : ℕ) {u : ℕ} → In (cover_of n L s) u → cover_of n L u ⊆ cover_of n L s
  cover_of_trans L s {u} h x k = in_cover_of L (cover_of-within L u x k) (λ Z m i. cover_of_in L k Z m (cover_of_in L h Z m i))

-- the meet alone, where each listed set holds states of the table only
pub cover-is : (n : ℕ) (L : List Set) → n ≤ max_states → ((Z : Set) → Memᴰ Z L → Z ⊆ first_states n) → (s : ℕ) → CoverIs n L s
cover-is n L small within s =
    record {
      listed = λ Z m h u. (
        λ e Y k y. (cover_of_in n L (record { is = e }) Y k (record { is = y })).is,
        λ f. (in_cover_of n L (within Z m u (record { is = f Z m h })) (λ Y k y. record { is = f Y k y.is })).is,
      );
      unlisted = λ none u. (
        λ e. first_states_in (cover_of-within n L s u (record { is = e })),
        λ l. (in_cover_of n L (in_first_states (omega arith) l) (λ Y k y. absurd (clash y.is (none Y k)))).is,
      );
    }

-- ---- the cover of a set

abbrev pub Closed : ℕ → List Set → Set → Type 0
Closed n L Y = (x : ℕ) → In Y x → cover_of n L x ⊆ Y

module _ (n : ℕ) (L : List Set) where
  pub listed-closed : (Z : Set) → Memᴰ Z L → Closed n L Z
  listed-closed Z m x h s k = cover_of_in n L k Z m h

  pub cover-closed : (X : Set) → Closed n L (cover n L X)
  unfolding cover
  cover-closed X x h s k =
      let w = image_in (cover_of n L) X n h in
      in_image (cover_of n L) X n w.1 w.2 (cover_of_trans n L w.0 w.3 s k)

  pub cover_extensive : (X : Set) → X ⊆ first_states n → X ⊆ cover n L X
  unfolding cover
  cover_extensive X i s h = in_image (cover_of n L) X n (first_states_in (i s h)) h (cover_of_self n L (i s h))

  pub cover_minimal : (X Y : Set) → Closed n L Y → X ⊆ Y → cover n L X ⊆ Y
  unfolding cover
  cover_minimal X Y c i = image_inside n (cover_of n L) X Y (λ x h. c x (i x h))

  pub cover_mono : (X Y : Set) → X ⊆ Y → cover n L X ⊆ cover n L Y
  unfolding cover
  cover_mono = image_mono n (cover_of n L)

  pub cover_proper : (X : Set) → Proper (cover n L X)
  unfolding cover
  cover_proper = image_proper n (cover_of n L)

  pub cover-within : (X : Set) → cover n L X ⊆ first_states n
  unfolding cover
  cover-within X = image_inside n (cover_of n L) X (first_states n) (λ x h. cover_of-within n L x)

-- ---- the steps of R and S

module _ (t : Table) (L : List Set) (Z : Set) where
  pub forward_step_mono : (X Y : Set) → X ⊆ Y → forward_step t L Z X ⊆ forward_step t L Z Y
  unfolding forward_step
  forward_step_mono X Y i =
      cover_mono t.n L _ _
      (λ s h.
      let both = meet_in h in
      in_meet both.0 (in_union (⊎_elim (λ k. inl k) (λ k. inr (post_mono t.n t.row X Y i s k)) (union_in both.1))))

  pub forward_step_proper : (X : Set) → Proper (forward_step t L Z X)
  unfolding forward_step
  forward_step_proper X = cover_proper t.n L _

  pub forward_step-within : (X : Set) → forward_step t L Z X ⊆ first_states t.n
  unfolding forward_step
  forward_step-within X = cover-within t.n L _

module _ (t : Table) (L : List Set) (R : Set) where
  pub backward_step_mono : (X Y : Set) → X ⊆ Y → backward_step t L R X ⊆ backward_step t L R Y
  unfolding backward_step
  backward_step_mono X Y i =
      cover_mono t.n L _ _ (λ s h. in_meet (meet_in h).0 (hold_mono t.n t.row X Y i s (meet_in h).1))

  pub backward_step_proper : (X : Set) → Proper (backward_step t L R X)
  unfolding backward_step
  backward_step_proper X = cover_proper t.n L _

  pub backward_step-within : (X : Set) → backward_step t L R X ⊆ first_states t.n
  unfolding backward_step
  backward_step-within X = cover-within t.n L _
