-- The states of a set as a list: its parts, its order, and what is written of it into an array.
--
--   size_apart                    the size of a union of sets that have no state in common
--   times-append, times-members   how often a number stands in two lists one after the other, and in the list of a set
--   filter-rising                 the numbers that pass rise
--   Stored, stored-*              a loop that stores a set at each place of an array
use Prim.Native.Nat.{ℕ, zero, suc, ◌+◌, ◌≤◌, ◌<◌, zero-le}
use native.Mathlib.Nat.{not-suc-le-zero, zero-add, add-zero}
use native.Mathlib.Omega.{arith}
use mathlib.Core.Path.{◌≡◌, refl, sym, ap, ap₂, ◌∙◌}
use mathlib.Core.Logic.{⊎_elim}
use mathlib.Core.Bool.{Bool, true, false, cond, ◌&&◌, ◌||◌}
use mathlib.Core.List.{List, [], ◌∷◌, ◌++◌, append-nil}
use borrow.Author.Tests.{eq-eqb, ne_eqb, eqb-true, eqb-false, lt-ltb, le-ltb, ltb-true}
use lib.Dec.{eqb, ltb}
use lib.ListN.{length, get_or, set, replicate, length-append, length-set, length-replicate, get_or-append}
use lib.Seq.{get_or-append-add, ext_get_or, get_or-set_same, get_or-set_other}
use Rattle.basics.specs.Bounds.{filter, tabulate}
use Rattle.model.specs.Sets.{max_states, Set, member, union, members, size}
use Rattle.basics.proofs.BoundLaws.{and_true, and_intro, is_false, decided, same_test, below_suc, lt_or_ge, length-tabulate, get_or-tabulate}
use Rattle.model.proofs.SetsMembers.{In, in_bound}
use Rattle.core_state_set.proofs.SetsStates.{union-member}
use Rattle.core_fixpoints.specs.Order.{times}

-- ---- numbers that pass a test

module _ (p q r : ℕ → Bool) (either : (k : ℕ) → r k ≡ (p k || q k)) where
  -- no number passes both
  filter_apart : ((k : ℕ) → p k ≡ true → q k ≡ true → ⊥) → (n : ℕ) → length (filter n r) ≡ length (filter n p) + length (filter n q)
  unfolding filter
  filter_apart apart zero = refl
  filter_apart apart (suc n) =
      let so = filter_apart apart n in
      ⊎_elim
      (λ (t : p n ≡ true).
      let out : q n ≡ false = is_false (q n) (apart n t) in
      let here : r n ≡ true = either n ∙ ap (λ (b : Bool). b || q n) t in
      rw (t, out, here) (omega (arith, so, length-append (filter n r) (n ∷ []), length-append (filter n p) (n ∷ []), length-append (filter n q) [])))
      (λ (f : p n ≡ false).
      let here : r n ≡ q n = either n ∙ ap (λ (b : Bool). b || q n) f in
      rw (f, here)
      (omega
      (arith, so, length-append (filter n r) (cond (q n) (n ∷ []) []), length-append (filter n p) [], length-append (filter n q) (cond (q n) (n ∷ []) []))))
      (decided (p n))

-- ---- the states of a set

pub size_apart : (X Y : Set) → ((s : ℕ) → In X s → In Y s → ⊥) → size (union X Y) ≡ size X + size Y
unfolding size members
size_apart X Y apart =
    filter_apart (member X) (member Y) (member (union X Y)) (union-member X Y) (λ k a b. apart k (record { is = a }) (record { is = b })) max_states

-- ---- how often a number stands in a list

pub times-append : (s : ℕ) (xs ys : List ℕ) → times s (xs ++ ys) ≡ times s xs + times s ys
unfolding times
times-append s [] ys = sym (zero-add _)
times-append s (x ∷ xs) ys = let so = times-append s xs ys in omega arith

times_last : (s n : ℕ) (b : Bool) → n ≡ s → times s (cond b (n ∷ []) []) ≡ cond b 1 0
unfolding times
times_last s n true e = rw (eq-eqb n s e)
times_last s n false e = refl

times-other : (s n : ℕ) (b : Bool) → (n ≡ s → ⊥) → times s (cond b (n ∷ []) []) ≡ 0
unfolding times
times-other s n true o = rw (ne_eqb n s o)
times-other s n false o = refl

times-filter : (p : ℕ → Bool) (s n : ℕ) → times s (filter n p) ≡ cond (ltb s n && p s) 1 0
unfolding times filter
times-filter p s zero = rw (le-ltb s 0 (omega arith))
times-filter p s (suc n) =
    times-append s (filter n p) (cond (p n) (n ∷ []) [])
    ∙ ⊎_elim
    (λ (t : eqb s n ≡ true).
    let e : s ≡ n = eqb-true s n t in
    let none : times s (filter n p) ≡ 0 = times-filter p s n ∙ ap (λ (b : Bool). cond {A = ℕ} (b && p s) 1 0) (le-ltb s n (omega arith)) in
    let last : times s (cond (p n) (n ∷ []) []) ≡ cond (p s) 1 0 = times_last s n (p n) (sym e) ∙ ap (λ (k : ℕ). cond {A = ℕ} (p k) 1 0) (sym e) in
    ap₂ (λ (a b : ℕ). a + b) none last ∙ zero-add _ ∙ sym (ap (λ (b : Bool). cond {A = ℕ} (b && p s) 1 0) (lt-ltb s (suc n) (omega arith))))
    (λ (f : eqb s n ≡ false).
    let o : s ≡ n → ⊥ = eqb-false s n f in
    let same : ltb s (suc n) ≡ ltb s n =
    same_test (ltb s (suc n)) (ltb s n) (λ h. let l = ltb-true s (suc n) h in lt-ltb s n (omega arith)) (λ h. let l = ltb-true s n h in lt-ltb s (suc n) (omega arith)) in
    ap₂ (λ (a b : ℕ). a + b) (times-filter p s n) (times-other s n (p n) (λ e. o (sym e)))
    ∙ add-zero _
    ∙ sym (ap (λ (b : Bool). cond {A = ℕ} (b && p s) 1 0) same))
    (decided (eqb s n))

pub times-members : (X : Set) (s : ℕ) → times s (members X) ≡ cond (member X s) 1 0
unfolding members
times-members X s =
    times-filter (member X) s max_states
    ∙ ap (λ (b : Bool). cond {A = ℕ} b 1 0)
    (same_test (ltb s max_states && member X s) (member X s)
    (λ e. (and_true (ltb s max_states) (member X s) e).1)
    (λ e. and_intro (ltb s max_states) (member X s) (lt-ltb s max_states (in_bound {X = X} {s = s} (record { is = e }))) e))

-- ---- the numbers that pass rise

module _ (p : ℕ → Bool) (n : ℕ) where
  filter_front : (i : ℕ) → i < length (filter n p) → get_or (filter (suc n) p) i 0 ≡ get_or (filter n p) i 0
  unfolding filter
  filter_front i h = get_or-append (filter n p) (cond (p n) (n ∷ []) []) 0 i h

  -- behind those below n there is n, or nothing
  filter_last : (i : ℕ) → length (filter n p) ≤ i → i < length (filter (suc n) p) → (i ≡ length (filter n p)) × (get_or (filter (suc n) p) i 0 ≡ n)
  unfolding filter
  filter_last i l h =
      ⊎_elim
      (λ (t : p n ≡ true).
      let grown : filter (suc n) p ≡ filter n p ++ (n ∷ []) = ap (λ (b : Bool). filter n p ++ cond b (n ∷ []) []) t in
      let e : i ≡ length (filter n p) = omega (arith, ap length grown, length-append (filter n p) (n ∷ [])) in
      (e, ap₂ (λ (xs : List ℕ) (k : ℕ). get_or xs k 0) grown (e ∙ sym (add-zero _)) ∙ get_or-append-add (filter n p) (n ∷ []) 0 0))
      (λ (f : p n ≡ false).
      let same : filter (suc n) p ≡ filter n p = ap (λ (b : Bool). filter n p ++ cond b (n ∷ []) []) f ∙ append-nil (filter n p) in
      absurd (omega (arith, ap length same)))
      (decided (p n))

filter_below : (p : ℕ → Bool) (n i : ℕ) → i < length (filter n p) → get_or (filter n p) i 0 < n
unfolding filter
filter_below p zero i h = absurd (not-suc-le-zero h)
filter_below p (suc n) i h =
    ⊎_elim (λ a. omega (arith, filter_front p n i a, filter_below p n i a)) (λ b. omega (arith, (filter_last p n i b h).1)) (lt_or_ge i (length (filter n p)))

pub filter-rising : (p : ℕ → Bool) (n i j : ℕ) → i < j → j < length (filter n p) → get_or (filter n p) i 0 < get_or (filter n p) j 0
unfolding filter
filter-rising p zero i j l h = absurd (not-suc-le-zero h)
filter-rising p (suc n) i j l h =
    ⊎_elim
    (λ b. let a : i < length (filter n p) = omega arith in omega (arith, filter_front p n i a, filter_front p n j b, filter-rising p n i j l b))
    (λ b.
    let last = filter_last p n j b h in
    let a : i < length (filter n p) = omega (arith, last.0) in
    omega (arith, filter_front p n i a, last.1, filter_below p n i a))
    (lt_or_ge j (length (filter n p)))

-- ---- sets stored one after the other

pub record Stored (m : ℕ) (f : ℕ → Set) (rows : List Set) (k : ℕ) : Type 0 where
  pub long : length rows ≡ m
  pub within : k ≤ m
  pub is : (i : ℕ) → i < k → get_or rows i [] ≡ f i

module _ (m : ℕ) (f : ℕ → Set) where
  pub stored_start : (row : Set) → Stored m f (replicate m row) 0
  stored_start row = record { long = length-replicate m row; within = zero-le; is = λ i h. absurd (not-suc-le-zero h) }

  module _ {rows : List Set} {k : ℕ} (so : Stored m f rows k) where
    pub stored_turn : {row : Set} → k < m → row ≡ f k → Stored m f (set rows k row) (k + 1)
    stored_turn {row} h e =
        record {
          long = length-set rows k row ∙ so.long;
          within = omega arith;
          is = λ i l.
              ⊎_elim
              (λ (q : i ≡ k). ap (λ (j : ℕ). get_or (set rows k row) j []) q ∙ get_or-set_same rows k row [] (omega (arith, so.long)) ∙ e ∙ ap f (sym q))
              (λ (b : i < k). get_or-set_other rows k i row [] (λ q. omega arith) ∙ so.is i b)
              (below_suc (omega (arith, l)));
        }

    pub stored-all : m ≤ k → rows ≡ tabulate m f
    stored-all h =
        ext_get_or [] rows (tabulate m f) (so.long ∙ sym (length-tabulate f m))
        (λ i l. let b : i < m = omega (arith, so.long) in so.is i (omega arith) ∙ sym (get_or-tabulate f m i [] b))
