-- Laws of tests below a bound, and of lists made by `tabulate`.
--
--   and_true, and_intro, or_true, or_intro, or_left, or_right, or_none, or_false     Boolean connectives as facts
--   any_find, any_intro, any_none              some number below the bound passes; none does; any_start, -turn, -end: a loop that looks for one;
--                                              any_cong: tests that agree
--   all_at, all_intro, all_not                 each passes; one that does not
--   first_le, first_passes, first-least        `first` is the least that passes, else the bound; first-is, first-none: so it is that one;
--                                              first_found, first-before: what passes at the bound, or anywhere, tells of it;
--                                              first_cong: tests that agree
--   length-tabulate, get_or-tabulate, tabulate_cong             a list by its elements; in_tabulate: each is one of them; tabulate_const: one throughout
use Prim.Native.Nat.{ℕ, zero, suc, ◌+◌, ◌≤◌, ◌<◌, zero-le, suc-le-suc}
use native.Mathlib.Nat.{le_of_suc-le-suc, not-suc-le-zero, eq-or-lt_of_le, le_antisymm}
use native.Mathlib.Decide.{dec_lt}
use native.Mathlib.Numerals.{add-one}
use native.Mathlib.Omega.{arith}
use mathlib.Core.Path.{◌≡◌, refl, sym, ap, ap₂, ◌∙◌, subst}
use mathlib.Core.Logic.{◌⊎◌, inl, inr, ⊎_elim}
use mathlib.Core.Bool.{Bool, true, false, not, ◌&&◌, ◌||◌, cond, true≢false, false≢true}
use mathlib.Core.List.Memᴰ
use mathlib.Core.List.{[], ◌∷◌, ◌++◌, Memᴰ}
use lib.ListN.{length, get_or, length-append, get_or-append, replicate, length-replicate, get_or-replicate}
use lib.Seq.{get_or_at, ext_get_or}
use Rattle.basics.specs.Bounds.{any, all, first, tabulate}

-- ---- Booleans

pub and_true : (a b : Bool) → (a && b) ≡ true → (a ≡ true) × (b ≡ true)
and_true true b e = (refl, e)
and_true false b e = absurd (false≢true e)

pub and_intro : (a b : Bool) → a ≡ true → b ≡ true → (a && b) ≡ true
and_intro true b p q = q
and_intro false b p q = p

pub or_true : (a b : Bool) → (a || b) ≡ true → (a ≡ true) ⊎ (b ≡ true)
or_true true b e = inl refl
or_true false b e = inr e

pub or_intro : (a b : Bool) → (a ≡ true) ⊎ (b ≡ true) → (a || b) ≡ true
or_intro true b h = refl
or_intro false b h = ⊎_elim (λ p. absurd (false≢true p)) (λ q. q) h

pub or_left : (a b : Bool) → a ≡ true → (a || b) ≡ true
or_left a b e = or_intro a b (inl e)

pub or_right : (a b : Bool) → b ≡ true → (a || b) ≡ true
or_right a b e = or_intro a b (inr e)

pub or_none : (a b : Bool) → a ≡ false → b ≡ false → (a || b) ≡ false
or_none a b e f = rw e f

pub or_false : (a b : Bool) → (a || b) ≡ false → (a ≡ false) × (b ≡ false)
or_false true b e = absurd (true≢false e)
or_false false b e = (refl, e)

pub not_true : (a : Bool) → not a ≡ true → a ≡ false
not_true true e = absurd (false≢true e)
not_true false e = refl

pub is_false : (a : Bool) → (a ≡ true → ⊥) → a ≡ false
is_false true f = absurd (f refl)
is_false false f = refl

pub clash : {a : Bool} → a ≡ true → a ≡ false → ⊥
clash p q = true≢false (sym p ∙ q)

-- a test passes or fails
pub decided : (a : Bool) → (a ≡ true) ⊎ (a ≡ false)
decided true = inl refl
decided false = inr refl

-- two tests that pass together are the same test
pub same_test : (a b : Bool) → (a ≡ true → b ≡ true) → (b ≡ true → a ≡ true) → a ≡ b
same_test true b f g = sym (f refl)
same_test false true f g = absurd (false≢true (g refl))
same_test false false f g = refl

-- a choice has what both of its branches have
pub by_cond {ℓ κ} : {A : Type ℓ} (P : A → Type κ) (b : Bool) (x y : A) → (b ≡ true → P x) → (b ≡ false → P y) → P (cond b x y)
by_cond P true x y f g = f refl
by_cond P false x y f g = g refl

-- ---- below a bound

pub lt_or_ge : (a b : ℕ) → (a < b) ⊎ (b ≤ a)
lt_or_ge a b = go (dec_lt a b)
  where
    go : Dec (a < b) → (a < b) ⊎ (b ≤ a)
    go (yes h) = inl h
    go (no f) = inr (omega arith)

-- what is below suc n is below n, or is n
pub below_suc : {k n : ℕ} → k < suc n → (k ≡ n) ⊎ (k < n)
below_suc h = eq-or-lt_of_le (le_of_suc-le-suc h)

module _ (p : ℕ → Bool) where
  pub any_intro : (n k : ℕ) → k < n → p k ≡ true → any n p ≡ true
  unfolding any
  any_intro zero k h e = absurd (not-suc-le-zero h)
  any_intro (suc n) k h e =
      or_intro (any n p) (p n)
      (⊎_elim (λ q. inr (subst (λ (x : ℕ). p x ≡ true) q e)) (λ l. inl (any_intro n k l e)) (below_suc h))

  pub any_find : (n : ℕ) → any n p ≡ true → (k : ℕ) × (k < n) × (p k ≡ true)
  unfolding any
  any_find zero e = absurd (false≢true e)
  any_find (suc n) e = go (or_true (any n p) (p n) e) (any_find n)
    where
      go : (any n p ≡ true) ⊎ (p n ≡ true) → (any n p ≡ true → (k : ℕ) × (k < n) × (p k ≡ true)) → (k : ℕ) × (k < suc n) × (p k ≡ true)
      go (inl h) ih = ((ih h).0, omega (arith, (ih h).1), (ih h).2)
      go (inr h) ih = (n, omega arith, h)

  pub any_none : (n : ℕ) → any n p ≡ false → (k : ℕ) → k < n → p k ≡ false
  any_none n e k h = is_false (p k) (λ q. clash (any_intro n k h q) e)

  -- a loop that looks for one that passes: none before the first turn, none after a turn that found none
  pub any_start : any 0 p ≡ false
  unfolding any
  any_start = refl

  pub any_turn : (i : ℕ) → any i p ≡ false → p i ≡ false → any (i + 1) p ≡ false
  unfolding any
  any_turn i e f = rw (add-one, e) f

  pub any-end : (i n : ℕ) → i ≤ n → n ≤ i → any i p ≡ false → any n p ≡ false
  any-end i n l h e = subst (λ (k : ℕ). any k p ≡ false) (le_antisymm l h) e

  pub no_any : (n : ℕ) → ((k : ℕ) → k < n → p k ≡ false) → any n p ≡ false
  no_any n f = is_false (any n p) (λ e. let w = any_find n e in clash w.2 (f w.0 w.1))

  pub all_at : (n : ℕ) → all n p ≡ true → (k : ℕ) → k < n → p k ≡ true
  unfolding all
  all_at zero e k h = absurd (not-suc-le-zero h)
  all_at (suc n) e k h =
      let parts = and_true (all n p) (p n) e in
      ⊎_elim (λ q. subst (λ (x : ℕ). p x ≡ true) (sym q) parts.1) (λ l. all_at n parts.0 k l) (below_suc h)

  pub all_intro : (n : ℕ) → ((k : ℕ) → k < n → p k ≡ true) → all n p ≡ true
  unfolding all
  all_intro zero f = refl
  all_intro (suc n) f = and_intro (all n p) (p n) (all_intro n (λ k h. f k (omega arith))) (f n (omega arith))

  -- where not each passes, one does not
  pub all_not : (n : ℕ) → all n p ≡ false → (k : ℕ) × (k < n) × (p k ≡ false)
  unfolding all
  all_not zero e = absurd (true≢false e)
  all_not (suc n) e = go (decided (all n p)) (all_not n)
    where
      go : (all n p ≡ true) ⊎ (all n p ≡ false) → (all n p ≡ false → (k : ℕ) × (k < n) × (p k ≡ false)) → (k : ℕ) × (k < suc n) × (p k ≡ false)
      go (inl h) ih = (n, omega arith, subst (λ (a : Bool). (a && p n) ≡ false) h e)
      go (inr h) ih = ((ih h).0, omega (arith, (ih h).1), (ih h).2)

pub any_cong : (p q : ℕ → Bool) (n : ℕ) → ((k : ℕ) → k < n → p k ≡ q k) → any n p ≡ any n q
unfolding any
any_cong p q zero e = refl
any_cong p q (suc n) e = ap₂ ◌||◌ (any_cong p q n (λ k l. e k (omega arith))) (e n (omega arith))

pub first_le : (p : ℕ → Bool) (n : ℕ) → first n p ≤ n
unfolding first
first_le p zero = zero-le
first_le p (suc n) = by_cond (λ r. r ≤ suc n) (p zero) _ _ (λ e. zero-le) (λ e. suc-le-suc (first_le (λ k. p (suc k)) n))

pub first_passes : (p : ℕ → Bool) (n : ℕ) → first n p < n → p (first n p) ≡ true
unfolding first
first_passes p zero = λ h. absurd (not-suc-le-zero h)
first_passes p (suc n) =
    by_cond (λ r. r < suc n → p r ≡ true) (p zero) _ _ (λ e h. e)
    (λ e h. first_passes (λ k. p (suc k)) n (le_of_suc-le-suc h))

pub first-least : (p : ℕ → Bool) (n k : ℕ) → k < first n p → p k ≡ false
unfolding first
first-least p zero k = λ h. absurd (not-suc-le-zero h)
first-least p (suc n) zero =
    by_cond (λ r. zero < r → p zero ≡ false) (p zero) _ _ (λ e h. absurd (not-suc-le-zero h)) (λ e h. e)
first-least p (suc n) (suc k) =
    by_cond (λ r. suc k < r → p (suc k) ≡ false) (p zero) _ _ (λ e h. absurd (not-suc-le-zero h))
    (λ e h. first-least (λ j. p (suc j)) n k (le_of_suc-le-suc h))

-- the least that passes, from the three facts that make it so
pub first-is : (p : ℕ → Bool) (n k : ℕ) → k < n → p k ≡ true → ((j : ℕ) → j < k → p j ≡ false) → first n p ≡ k
first-is p n k h e f =
    ⊎_elim
    (λ l. absurd (clash (first_passes p n (omega (arith, l, h))) (f (first n p) l)))
    (λ m. ⊎_elim (λ q. sym q) (λ l. absurd (clash e (first-least p n k l))) m)
    (order (first n p) k)
  where
    order : (a b : ℕ) → (a < b) ⊎ ((b ≡ a) ⊎ (b < a))
    order a b = ⊎_elim (λ l. inl l) (λ l. inr (eq-or-lt_of_le l)) (lt_or_ge a b)

-- where the bound passes too, the first that passes does
pub first_cong : (p q : ℕ → Bool) (n : ℕ) → ((k : ℕ) → p k ≡ q k) → first n p ≡ first n q
unfolding first
first_cong p q zero e = refl
first_cong p q (suc n) e =
    ap₂ (λ (a : Bool) (r : ℕ). cond a zero (suc r)) (e zero) (first_cong (λ k. p (suc k)) (λ k. q (suc k)) n (λ k. e (suc k)))

pub first_found : (p : ℕ → Bool) (n : ℕ) → p n ≡ true → p (first n p) ≡ true
first_found p n h = ⊎_elim (λ e. ap p e ∙ h) (λ l. first_passes p n l) (eq-or-lt_of_le (first_le p n))

-- what passes is not before the first
pub first-before : (p : ℕ → Bool) (n k : ℕ) → p k ≡ true → first n p ≤ k
first-before p n k e = ⊎_elim (λ l. absurd (clash e (first-least p n k l))) (λ l. l) (lt_or_ge k (first n p))

-- none passes
pub first-none : (p : ℕ → Bool) (n : ℕ) → ((j : ℕ) → j < n → p j ≡ false) → first n p ≡ n
first-none p n f =
    ⊎_elim (λ e. e) (λ l. absurd (clash (first_passes p n l) (f (first n p) l))) (eq-or-lt_of_le (first_le p n))

-- ---- lists by their elements

module _ {A : Type 0} (f : ℕ → A) where
  pub length-tabulate : (n : ℕ) → length (tabulate n f) ≡ n
  unfolding tabulate
  length-tabulate zero = refl
  length-tabulate (suc n) = length-append (tabulate n f) (f n ∷ []) ∙ ap (λ m. m + 1) (length-tabulate n) ∙ add-one n

  pub get_or-tabulate : (n i : ℕ) (d : A) → i < n → get_or (tabulate n f) i d ≡ f i
  unfolding tabulate
  get_or-tabulate zero i d h = absurd (not-suc-le-zero h)
  get_or-tabulate (suc n) i d h =
      ⊎_elim
      (λ e. subst (λ (j : ℕ). get_or (tabulate n f ++ (f n ∷ [])) j d ≡ f j) (sym e) (get_or_at (tabulate n f) (f n) [] d n (length-tabulate n)))
      (λ l. get_or-append (tabulate n f) (f n ∷ []) d i (subst (λ (m : ℕ). i < m) (sym (length-tabulate n)) l) ∙ get_or-tabulate n i d l)
      (below_suc h)

pub tabulate_cong : {A : Type 0} (f g : ℕ → A) (n : ℕ) → ((i : ℕ) → i < n → f i ≡ g i) → tabulate n f ≡ tabulate n g
unfolding tabulate
tabulate_cong f g zero e = refl
tabulate_cong f g (suc n) e = ap₂ (λ xs x. xs ++ (x ∷ [])) (tabulate_cong f g n (λ i h. e i (omega arith))) (e n (omega arith))

pub in_tabulate : {A : Type 0} (f : ℕ → A) (n : ℕ) {x : A} → Memᴰ x (tabulate n f) → (i : ℕ) × (i < n) × (x ≡ f i)
unfolding tabulate
in_tabulate f zero m = absurd (Memᴰ.not-nil m)
in_tabulate f (suc n) m =
    ⊎_elim (λ l. let w = in_tabulate f n l in (w.0, omega (arith, w.1), w.2)) (λ l. (n, omega arith, Memᴰ.eq_of_singleton l))
    (Memᴰ.append_cases (tabulate n f) m)

pub tabulate_const : {A : Type 0} (n : ℕ) (x : A) → replicate n x ≡ tabulate n (λ i. x)
tabulate_const n x =
    ext_get_or x (replicate n x) (tabulate n (λ i. x)) (length-replicate n x ∙ sym (length-tabulate (λ i. x) n))
    (λ i h.
    let l : i < n = subst (λ (m : ℕ). i < m) (length-replicate n x) h in
    get_or-replicate n i x x l ∙ sym (get_or-tabulate (λ i. x) n i x l))
