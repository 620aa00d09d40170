-- The proof of specs/Intact: what a block's check is good for.
--
--   undivided, indivisible      no product of m and d, with 0 < m < modulus and 0 < d < 256, is a multiple of the modulus: one computed test
--   apart                       so two multiples of the modulus do not differ by u d on one side and v d on the other
--   weight_of                    the weight of each of the 512 places, the check's own two included; weight_of_cases: what it is
--   weights_lt, weights_some, weights_differ     all below the modulus, not 0, and different
--   sum_of w f n                 the sum of w i times f i, for i below n
--   sum_raise                   where f i becomes f i + d at one place, the sum grows by the weight of that place times d
--   intact_multiple             the sum over all the places of an intact block, with `site`, is a multiple of the modulus
--   no_two, raised, exchanged   so two intact blocks do not differ in one byte, nor by an exchange: the smaller byte first
--   intact_read, damaged_read   intact is what ground 13 tests
--   detects                     all of specs/Intact
use Prim.Native.Nat.{ℕ, zero, suc, ◌+◌, ◌*◌, ◌-◌, ◌%◌, ◌/◌, ◌≤◌, ◌<◌}
use native.Mathlib.Nat.{le_refl, mul-add, add-mul, mul-pos, mul-lt-mul_of_pos_right, mul-le-mul_left, mul-mod_left, not-suc-le-zero, div-add-mod, eq-or-lt_of_le}
use native.Mathlib.Omega.{arith}
use mathlib.Core.Path.{◌≡◌, refl, sym, ap, ◌∙◌}
use mathlib.Core.Logic.{◌⊎◌, inl, inr, ⊎_elim, ◌↔◌}
use mathlib.Core.Bool.{Bool, true, false, not, cond, ◌||◌}
use mathlib.Core.List.{List}
use borrow.Author.Tests.{ltb-true, ltb-false, lt-ltb, eqb-true, eqb-false, eq-eqb, ne_eqb}
use lib.Dec.{eqb, ltb}
use lib.ListN.{get_or}
use Rattle.basics.specs.Bounds.{all}
use Rattle.basics.specs.Refusals.{refuse}
use Rattle.model.specs.Blocks.{block_bytes, check_at, modulus, le16_at, weighted, check_of, block_grounds}
use Rattle.model.specs.Intact.{Intact, Block, DifferInOne, Exchanged, Detects}
use Rattle.basics.proofs.BoundLaws.{or_true, not_true, is_false, decided, by_cond, lt_or_ge, below_suc, all_at}
use Rattle.model.proofs.ListsInParts.{get_or_past}
use Rattle.model.proofs.BlockWeights.{weight}

-- ---- multiples of the modulus

-- d divides no modulus * q with 0 < q < d < 256
undivided : all 256 (λ d. all d (λ q. eqb q 0 || not (eqb (modulus * q % d) 0))) ≡ true
unfolding all
undivided = refl

-- m d ≡ modulus q gives q < d
indivisible : (m d q : ℕ) → 0 < m → m < modulus → 0 < d → d < 256 → m * d ≡ modulus * q → ⊥
indivisible m d q some small d-some d_small e =
    let less : q < d =
    ⊎_elim (λ l. l) (λ l. absurd (omega (arith, mul-lt-mul_of_pos_right {m = m} {n = modulus} {k = d} small d-some, mul-le-mul_left modulus l))) (lt_or_ge q d) in
    let row = all_at (λ c. all c (λ p. eqb p 0 || not (eqb (modulus * p % c) 0))) 256 undivided d d_small in
    let cell = all_at (λ p. eqb p 0 || not (eqb (modulus * p % d) 0)) d row q less in
    let divides : modulus * q % d ≡ 0 = ap (λ (x : ℕ). x % d) (sym e) ∙ mul-mod_left m d in
    ⊎_elim
    (λ z. let none = eqb-true q 0 z in let positive = mul-pos some d-some in omega arith)
    (λ z. eqb-false (modulus * q % d) 0 (not_true _ z) divides)
    (or_true (eqb q 0) (not (eqb (modulus * q % d) 0)) cell)

-- u below v
apart_lt : (u v d x y s t : ℕ) → u < v → v < modulus → 0 < d → d < 256 → x ≡ modulus * s → y ≡ modulus * t → x + u * d ≡ y + v * d → ⊥
apart_lt u v d x y s t less small d-some d_small p q e =
    let m = v - u in
    let whole : u + m ≡ v = omega arith in
    let product : v * d ≡ u * d + m * d = ap (λ (w : ℕ). w * d) (sym whole) ∙ add-mul u m d in
    indivisible m d (s - t) (omega arith) (omega arith) d-some d_small (omega arith)

apart : (u v d x y s t : ℕ) → (u ≡ v → ⊥) → u < modulus → v < modulus → 0 < d → d < 256 → x ≡ modulus * s → y ≡ modulus * t
    → x + u * d ≡ y + v * d → ⊥
apart u v d x y s t differ u-small v-small d-some d_small p q e =
    ⊎_elim
    (λ l. apart_lt u v d x y s t l v-small d-some d_small p q e)
    (λ l. ⊎_elim (λ z. differ (sym z)) (λ r. apart_lt v u d y x t s r u-small d-some d_small q p (sym e)) (eq-or-lt_of_le l))
    (lt_or_ge u v)

-- ---- the weights

-- the check's own bytes count as what is to be taken from the sum
unfoldable weight_of : ℕ → ℕ
weight_of i = cond (ltb i check_at) (weight i) (cond (eqb i check_at) (modulus - 1) (modulus - 256))

abbrev Cases : ℕ → ℕ → Type 0
Cases i w = ((i < check_at) × (w ≡ weight i)) ⊎ (((i ≡ check_at) × (w ≡ modulus - 1)) ⊎ ((check_at < i) × (w ≡ modulus - 256)))

weight_of_cases : (i : ℕ) → Cases i (weight_of i)
unfolding weight_of
weight_of_cases i =
    by_cond (Cases i) (ltb i check_at) _ _ (λ e. inl (ltb-true i check_at e, refl))
    (λ e.
    let h = ltb-false i check_at e in
    by_cond (Cases i) (eqb i check_at) _ _ (λ q. inr (inl (eqb-true i check_at q, refl)))
    (λ q. let f = eqb-false i check_at q in inr (inr (omega arith, refl))))

weights_lt : (i : ℕ) → weight_of i < modulus
weights_lt i = go (weight_of i) (weight_of_cases i)
  where
    go : (w : ℕ) → Cases i w → w < modulus
    go w (inl c) = omega arith
    go w (inr (inl c)) = omega arith
    go w (inr (inr c)) = omega arith

weights_some : (i : ℕ) → weight_of i ≡ 0 → ⊥
weights_some i = go (weight_of i) (weight_of_cases i)
  where
    go : (w : ℕ) → Cases i w → w ≡ 0 → ⊥
    go w (inl c) e = omega arith
    go w (inr (inl c)) e = omega arith
    go w (inr (inr c)) e = omega arith

weights_differ : (i j : ℕ) → i < block_bytes → j < block_bytes → weight_of i ≡ weight_of j → i ≡ j
weights_differ i j h l = go (weight_of i) (weight_of j) (weight_of_cases i) (weight_of_cases j)
  where
    go : (v w : ℕ) → Cases i v → Cases j w → v ≡ w → i ≡ j
    go v w (inl c) (inl d) e = omega arith
    go v w (inl c) (inr (inl d)) e = omega arith
    go v w (inl c) (inr (inr d)) e = omega arith
    go v w (inr (inl c)) (inl d) e = omega arith
    go v w (inr (inl c)) (inr (inl d)) e = omega arith
    go v w (inr (inl c)) (inr (inr d)) e = omega arith
    go v w (inr (inr c)) (inl d) e = omega arith
    go v w (inr (inr c)) (inr (inl d)) e = omega arith
    go v w (inr (inr c)) (inr (inr d)) e = omega arith

-- ---- weighted sums

unfoldable sum_of : (ℕ → ℕ) → (ℕ → ℕ) → ℕ → ℕ
sum_of w f zero = 0
sum_of w f (suc n) = sum_of w f n + w n * f n

module _ (w f g : ℕ → ℕ) (k d : ℕ) (there : g k ≡ f k + d) (elsewhere : (i : ℕ) → (i ≡ k → ⊥) → f i ≡ g i) where
  sum_below : (n : ℕ) → n ≤ k → sum_of w g n ≡ sum_of w f n
  unfolding sum_of
  sum_below zero h = refl
  sum_below (suc n) h =
      let e = ap (λ (x : ℕ). w n * x) (elsewhere n (λ q. omega arith)) in
      omega (arith, sum_below n (omega arith))

  sum_raise : (n : ℕ) → k < n → sum_of w g n ≡ sum_of w f n + w k * d
  unfolding sum_of
  sum_raise zero h = absurd (not-suc-le-zero h)
  sum_raise (suc n) h =
      ⊎_elim
      (λ q.
      let e : w n * g n ≡ w n * f n + w k * d =
      ap (λ (m : ℕ). w m * g m) (sym q) ∙ ap (λ (x : ℕ). w k * x) there ∙ mul-add (w k) (f k) d ∙ ap (λ (m : ℕ). w m * f m + w k * d) q in
      omega (arith, sum_below n (omega arith)))
      (λ l.
      let e = ap (λ (x : ℕ). w n * x) (elsewhere n (λ q. omega arith)) in
      omega (arith, sum_raise n l))
      (below_suc h)

abbrev byte : List ℕ → ℕ → ℕ
byte block i = get_or block i 0

abbrev total : List ℕ → ℕ
total block = sum_of weight_of (byte block) block_bytes

sum_suc : (w f : ℕ → ℕ) (n : ℕ) → sum_of w f (suc n) ≡ sum_of w f n + w n * f n
unfolding sum_of
sum_suc w f n = refl

-- ---- intact blocks

module _ (block : List ℕ) where
  weighted-sum : (n : ℕ) → n ≤ check_at → weighted block n ≡ sum_of weight_of (byte block) n
  unfolding weighted sum_of weight_of
  weighted-sum zero h = refl
  weighted-sum (suc n) h =
      let here : weight_of n ≡ weight n =
      ap (λ b. cond b (weight n) (cond (eqb n check_at) (modulus - 1) (modulus - 256))) (lt-ltb n check_at (omega arith)) in
      let e = ap (λ (x : ℕ). x * byte block n) here in
      omega (arith, weighted-sum n (omega arith))

  total_is : total block ≡ weighted block check_at + (modulus - 1) * byte block check_at + (modulus - 256) * byte block (check_at + 1)
  unfolding weight_of
  total_is =
      omega (
        arith,
        weighted-sum check_at (le_refl check_at),
        sum_suc weight_of (byte block) check_at,
        sum_suc weight_of (byte block) (check_at + 1),
      )

  intact_multiple : (site : ℕ) → Intact site block → (q : ℕ) × (site + total block ≡ modulus * q)
  unfolding check_of
  intact_multiple site h =
      let sum = site + weighted block check_at in
      (sum / modulus + byte block check_at + byte block (check_at + 1), omega (arith, h.stored, total_is, div-add-mod sum modulus))

-- ---- the two cases

-- the bytes past its end are alike
in_block : (a b : List ℕ) → Block a → Block b → (k : ℕ) → (byte a k ≡ 0 → byte b k ≡ 0 → ⊥) → k < block_bytes
in_block a b A B k f =
    ⊎_elim (λ l. l)
    (λ l. absurd (f (get_or_past a k 0 (omega (arith, A.long))) (get_or_past b k 0 (omega (arith, B.long)))))
    (lt_or_ge k block_bytes)

module _ (site : ℕ) (a b : List ℕ) (a-ok : Intact site a) (b-ok : Intact site b) where
  -- weights and byte differences that two intact blocks cannot have
  no_two : (u v d : ℕ) → (u ≡ v → ⊥) → u < modulus → v < modulus → 0 < d → d < 256 → total a + u * d ≡ total b + v * d → ⊥
  no_two u v d differ u-small v-small some small e =
      let s = intact_multiple a site a-ok in
      let t = intact_multiple b site b-ok in
      apart u v d (site + total a) (site + total b) s.0 t.0 differ u-small v-small some small s.1 t.1 (omega arith)

  raised : (k : ℕ) → k < block_bytes → byte a k < byte b k → byte b k < 256 → ((i : ℕ) → (i ≡ k → ⊥) → byte a i ≡ byte b i) → ⊥
  raised k h less small elsewhere =
      let d = byte b k - byte a k in
      no_two (weight_of k) 0 d (weights_some k) (weights_lt k) (omega arith) (omega arith) (omega arith)
      (omega (arith, sum_raise weight_of (byte a) (byte b) k d (omega arith) elsewhere block_bytes h))

  -- both are raised to one block: a where it has the smaller byte, b where it has it
  exchanged : (j k : ℕ) → j < block_bytes → k < block_bytes → byte a j < byte a k → byte a k < 256 → byte b j ≡ byte a k → byte b k ≡ byte a j
      → ((i : ℕ) → (i ≡ j → ⊥) → (i ≡ k → ⊥) → byte a i ≡ byte b i) → ⊥
  exchanged j k h l less small to_j to-k elsewhere =
      no_two (weight_of j) (weight_of k) d (λ e. apart_places (weights_differ j k h l e)) (weights_lt j) (weights_lt k) (omega arith) (omega arith)
      (sym (sum_raise weight_of (byte a) both j d (both_j ∙ omega arith) (λ i f. sym (both_other i f)) block_bytes h)
      ∙ sum_raise weight_of (byte b) both k d (both_other k (λ e. apart_places (sym e)) ∙ omega arith) from_b block_bytes l)
    where
      d : ℕ
      d = byte a k - byte a j

      both : ℕ → ℕ
      both i = cond (eqb i j) (byte b j) (byte a i)

      apart_places : j ≡ k → ⊥
      apart_places e = let q = ap (byte a) e in omega arith

      both_j : both j ≡ byte b j
      both_j = ap (λ c. cond c (byte b j) (byte a j)) (eq-eqb j j refl)

      both_other : (i : ℕ) → (i ≡ j → ⊥) → both i ≡ byte a i
      both_other i f = ap (λ c. cond c (byte b j) (byte a i)) (ne_eqb i j f)

      from_b : (i : ℕ) → (i ≡ k → ⊥) → byte b i ≡ both i
      from_b i f =
          ⊎_elim (λ e. ap (byte b) (eqb-true i j e) ∙ sym both_j ∙ ap both (sym (eqb-true i j e)))
          (λ e. sym (elsewhere i (eqb-false i j e) f) ∙ sym (both_other i (eqb-false i j e)))
          (decided (eqb i j))

one_byte : (site : ℕ) (a b : List ℕ) → Block a → Block b → DifferInOne a b → Intact site a → Intact site b → ⊥
one_byte site a b A B c a-ok b-ok =
    let k = c.place in
    let h = in_block a b A B k (λ p q. c.there (p ∙ sym q)) in
    ⊎_elim
    (λ l. raised site a b a-ok b-ok k h l (B.bytes k) c.elsewhere)
    (λ l.
    ⊎_elim (λ e. c.there (sym e)) (λ r. raised site b a b-ok a-ok k h r (A.bytes k) (λ i f. sym (c.elsewhere i f))) (eq-or-lt_of_le l))
    (lt_or_ge (byte a k) (byte b k))

exchange : (site : ℕ) (a b : List ℕ) → Block a → Block b → Exchanged a b → Intact site a → Intact site b → ⊥
exchange site a b A B c a-ok b-ok =
    let j = c.place in
    let k = c.other in
    let h = in_block a b A B j (λ p q. c.unequal (p ∙ sym q ∙ c.to_place)) in
    let l = in_block a b A B k (λ p q. c.unequal (sym c.to_other ∙ q ∙ sym p)) in
    ⊎_elim
    (λ r. exchanged site a b a-ok b-ok j k h l r (A.bytes k) c.to_place c.to_other c.elsewhere)
    (λ r.
    ⊎_elim (λ e. c.unequal (sym e))
    (λ less. exchanged site a b a-ok b-ok k j l h less (A.bytes j) c.to_other c.to_place (λ i f g. c.elsewhere i g f))
    (eq-or-lt_of_le r))
    (lt_or_ge (byte a j) (byte a k))

-- ---- ground 13

module _ (site : ℕ) (block : List ℕ) where
  abbrev test : Bool
  test = eqb (le16_at block check_at) (check_of site block)

  fault_is : refuse (block_grounds site block (le16_at block 0)) ≡ cond test 0 13
  unfolding block_grounds refuse
  fault_is = rw (eq-eqb (le16_at block 0) (le16_at block 0) refl) (go test)
    where
      go : (b : Bool) → ◌≡◌ {A = ℕ} (cond (not b) 13 0) (cond b 0 13)
      go true = refl
      go false = refl

  intact_test : Intact site block → test ≡ true
  intact_test h = eq-eqb (le16_at block check_at) (check_of site block) h.stored

  test_intact : test ≡ true → Intact site block
  test_intact e = record { stored = eqb-true (le16_at block check_at) (check_of site block) e }

  fault_true : (b : Bool) → ◌≡◌ {A = ℕ} (cond b 0 13) 0 → b ≡ true
  fault_true true e = refl
  fault_true false e = absurd (omega arith)

  intact_read : Intact site block ↔ (refuse (block_grounds site block (le16_at block 0)) ≡ 0)
  intact_read = (λ h. fault_is ∙ ap (λ (b : Bool). cond b 0 13) (intact_test h), λ e. test_intact (fault_true test (sym fault_is ∙ e)))

  damaged_read : (Intact site block → ⊥) ↔ (refuse (block_grounds site block (le16_at block 0)) ≡ 13)
  damaged_read = (
    λ f. fault_is ∙ ap (λ (b : Bool). cond b 0 13) (is_false test (λ e. f (test_intact e))),
    λ e h. let z = intact_read.0 h in omega arith,
  )

pub detects : Detects
detects = record { one_byte = one_byte; exchange = exchange; intact_read = intact_read; damaged_read = damaged_read }
