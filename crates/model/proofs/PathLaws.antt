-- Laws of paths (specs/Paths.antt): `reaching` as a breadth-first search from the forbidden states, the path that walk finds, distances.
--
--   reaching_suc, reaching_mono                what is near stays near
--   in_reaching, reaching_in                   a state is within k + 1 steps exactly if it, or a successor, is within k
--   reaching-leads, leads-reaching             from a state within k steps at most k more lead to a forbidden one, and back
--   At t s k                           s is k steps from a forbidden state and no fewer; reaching_at, at_unique: there is one such k
--   Nearest t X d                      so near are the nearest states of X; nearest_at: each of those
--   at_row                             the row of a state at k + 1 is nearest at k
--   at_size, at_lt                     a state at k is one of more than k near ones, so k is below n
--   shortest_le, shortest-nearest      shortest t is how near the initial states are
--   pick t d X, pick_at                the state that walk takes first, and what it has
--   length-walk, length-smallest       how many states walk and smallest_path give
--   walk-smallest, walk-leads          no path from X of the length of walk is smaller than it, and walk is a path from X
--   path_of, has_path_lem                  there is a path exactly if has_path says so
--   smallest-is, smallest_below        smallest_path is the path that the specification names; its states are below n
--   distance_is                        where s is at k, its distance is k
--   distance-unreachable               where s is never near, it has none
--   reaching-distance, distance-reaching       it is at most k exactly if s is within k steps
use Prim.Native.Nat.{ℕ, zero, suc, ◌≤◌, ◌<◌, zero-le, suc-le-suc}
use native.Mathlib.Nat.{le_refl, le_of_suc-le-suc, not-suc-le-zero, eq-or-lt_of_le}
use native.Mathlib.Omega.{arith}
use mathlib.Core.Path.{◌≡◌, refl, sym, ap}
use mathlib.Core.Logic.{◌⊎◌, inl, inr, ⊎_elim}
use mathlib.Core.Bool.{Bool, true, false, ◌&&◌, false≢true}
use mathlib.Core.List.{List, [], ◌∷◌}
use borrow.Author.Tests.{ltb-true, ltb-false, lt-ltb}
use lib.Dec.{ltb}
use lib.ListN.{length, get_or}
use Rattle.basics.specs.Bounds.{first}
use Rattle.model.specs.Sets.{max_states, Set, member, meet, meets, first_states, smallest, size}
use Rattle.model.specs.Tables.{Table}
use Rattle.model.specs.Paths.{leads, is_path, reaching, unreachable, distance, shortest, has_path, walk, smallest_path}
use Rattle.model.specs.Promises.{LexLe, IsSmallest}
use Rattle.basics.proofs.BoundLaws.{and_true, and_intro, is_false, clash, by_cond, first_passes, first-least, lt_or_ge}
use Rattle.model.proofs.SetsMembers.{In, in_bound, in_or_out, in_union, union_in, in_meet, meet_in, in_states, states_in_lem, in_first_states, first_states_in, ◌⊆◌, in_meets, meets_in, smallest_le, smallest_in_lem}
use Rattle.model.proofs.SetsCounted.{size_lt, size_bound, size_pos}
use Rattle.model.specs.WellFormed.{WellFormed}

-- ---- general laws

-- a test that begins with a membership, as is_path and leads do
in_and : {X : Set} {x : ℕ} {b : Bool} → In X x → b ≡ true → (member X x && b) ≡ true
in_and {X} {x} {b} h e = and_intro (member X x) b h.is e

and_in : (X : Set) (x : ℕ) (b : Bool) → (member X x && b) ≡ true → In X x × (b ≡ true)
and_in X x b e = let both = and_true (member X x) b e in (record { is = both.0 }, both.1)

-- ---- near

module _ (t : Table) where
  pub reaching_suc : (k : ℕ) → reaching t k ⊆ reaching t (suc k)
  unfolding reaching
  reaching_suc k s h = in_union (inl h)

  pub reaching_mono : (i j : ℕ) → i ≤ j → reaching t i ⊆ reaching t j
  reaching_mono i zero l s h = let e : i ≡ zero = omega arith in rw e at h
  reaching_mono i (suc j) l s h =
      ⊎_elim (λ (e : i ≡ suc j). rw e at h) (λ m. reaching_suc j s (reaching_mono i j (le_of_suc-le-suc m) s h)) (eq-or-lt_of_le l)

  pub in_reaching : (k : ℕ) {s x : ℕ} → In (first_states t.n) s → In (t.row s) x → In (reaching t k) x → In (reaching t (suc k)) s
  unfolding reaching
  in_reaching k h r c =
      in_union (inr (in_states t.n (λ u. meets (t.row u) (reaching t k)) (in_bound h) (first_states_in h) (in_meets r c)))

  pub reaching_in : (k : ℕ) {s : ℕ} → In (reaching t (suc k)) s
      → In (reaching t k) s ⊎ ((x : ℕ) × In (first_states t.n) s × In (t.row s) x × In (reaching t k) x)
  unfolding reaching
  reaching_in k {s} h = ⊎_elim inl (λ q. inr (go (states_in_lem t.n (λ u. meets (t.row u) (reaching t k)) q))) (union_in h)
    where
      go : (s < t.n) × (meets (t.row s) (reaching t k) ≡ true) → (x : ℕ) × In (first_states t.n) s × In (t.row s) x × In (reaching t k) x
      go w = let m = meets_in w.1 in (m.0, in_first_states (in_bound h) w.0, m.1, m.2)

  pub reaching-leads : (k : ℕ) {s : ℕ} → In (reaching t k) s → (xs : List ℕ) × (leads t s xs ≡ true) × (length xs ≤ k)
  unfolding reaching leads
  reaching-leads zero h = ([], h.is, zero-le)
  reaching-leads (suc k) {s} h =
      ⊎_elim
      (λ c. let w = reaching-leads k c in (w.0, w.1, omega arith))
      (λ m. let w = reaching-leads k {s = m.0} m.3 in (m.0 ∷ w.0, in_and m.2 w.1, suc-le-suc w.2))
      (reaching_in k h)

-- ---- how near exactly

-- s is k steps from a forbidden state and no fewer
pub record At (t : Table) (s k : ℕ) : Type 0 where
  pub within : In (reaching t k) s
  pub no_closer : (j : ℕ) → j < k → In (reaching t j) s → ⊥

-- the states of X nearest to a forbidden one are d steps from it
pub record Nearest (t : Table) (X : Set) (d : ℕ) : Type 0 where
  pub within : meets X (reaching t d) ≡ true
  pub no_closer : (j : ℕ) → j < d → meets X (reaching t j) ≡ false

module _ (t : Table) where
  pub reaching_at : (k : ℕ) {s : ℕ} → In (reaching t k) s → (d : ℕ) × (d ≤ k) × At t s d
  reaching_at zero h = (zero, zero-le, record { within = h; no_closer = λ j l. absurd (not-suc-le-zero l) })
  reaching_at (suc k) {s} h =
      ⊎_elim
      (λ c. let w = reaching_at k c in (w.0, omega arith, w.2))
      (λ f. (suc k, le_refl (suc k), record { within = h; no_closer = λ j l i. f (reaching_mono t j k (le_of_suc-le-suc l) s i) }))
      (in_or_out (reaching t k) s)

  pub at_unique : {s i j : ℕ} → At t s i → At t s j → i ≡ j
  at_unique {s} {i} {j} a b =
      ⊎_elim
      (λ l. absurd (b.no_closer i l a.within))
      (λ l. ⊎_elim (λ e. sym e) (λ m. absurd (a.no_closer j m b.within)) (eq-or-lt_of_le l))
      (lt_or_ge i j)

  pub nearest_at : {X : Set} {s d : ℕ} → Nearest t X d → In X s → In (reaching t d) s → At t s d
  nearest_at n h c = record { within = c; no_closer = λ j l i. clash (in_meets h i) (n.no_closer j l) }

  pub at_row : {s d : ℕ} → At t s (suc d) → Nearest t (t.row s) d
  at_row {s} {d} a =
      ⊎_elim (λ c. absurd (a.no_closer d (omega arith) c))
      (λ m.
      record {
        within = in_meets m.2 m.3;
        no_closer =
            λ j l. is_false (meets (t.row s) (reaching t j))
            (λ e. let w = meets_in e in a.no_closer (suc j) (suc-le-suc l) (in_reaching t j m.1 w.1 w.2));
      })
      (reaching_in t d a.within)

  -- there is a state at each smaller distance: near grows at each step up to s
  pub at_size : (k : ℕ) {s : ℕ} → At t s k → k < size (reaching t k)
  at_size zero a = size_pos a.within
  at_size (suc k) {s} a =
      let w = meets_in (at_row a).within in
      let fewer : size (reaching t k) < size (reaching t (suc k)) = size_lt (reaching_suc t k) a.within (a.no_closer k (omega arith)) in
      omega (arith, at_size k (nearest_at (at_row a) w.1 w.2))

  pub shortest_le : (k : ℕ) {s : ℕ} → In t.initial s → In (reaching t k) s → shortest t ≤ k
  unfolding shortest
  shortest_le k h c =
      let p : ℕ → Bool = λ j. meets t.initial (reaching t j) in
      ⊎_elim (λ l. absurd (clash (in_meets h c) (first-least p t.n k l))) (λ l. l) (lt_or_ge k (first t.n p))

  pub shortest-nearest : has_path t ≡ true → Nearest t t.initial (shortest t)
  unfolding has_path shortest
  shortest-nearest e =
      let p : ℕ → Bool = λ j. meets t.initial (reaching t j) in
      record { within = first_passes p t.n (ltb-true _ _ e); no_closer = first-least p t.n }

-- ---- walk

abbrev pub pick : Table → ℕ → Set → ℕ
pick t d X = smallest (meet X (reaching t d))

module _ (t : Table) where
  pub length-walk : (d : ℕ) (X : Set) → length (walk t d X) ≡ suc d
  unfolding walk
  length-walk zero X = refl
  length-walk (suc d) X = ap suc (length-walk d _)

  pub length-smallest : length (smallest_path t) ≡ suc (shortest t)
  unfolding smallest_path
  length-smallest = length-walk (shortest t) t.initial

  pub pick_at : {d : ℕ} {X : Set} → Nearest t X d → In X (pick t d X) × At t (pick t d X) d
  pick_at n =
      let w = meets_in n.within in
      let both = meet_in (smallest_in_lem (in_meet w.1 w.2)) in
      (both.0, nearest_at t n both.0 both.1)

-- ---- well_formed tables

module _ {t : Table} (ok : WellFormed t) where
  pub reaching-states : (k : ℕ) → reaching t k ⊆ first_states t.n
  unfolding reaching
  reaching-states zero s h = ok.forbidden s h
  reaching-states (suc k) s h = ⊎_elim (reaching-states k s) (λ m. m.1) (reaching_in t k h)

  -- the successors of a state of the table
  successors : {s : ℕ} → In (first_states t.n) s → t.row s ⊆ first_states t.n
  successors {s} h = ok.rows s (first_states_in h)

  pub leads-reaching : (xs : List ℕ) {s : ℕ} → In (first_states t.n) s → leads t s xs ≡ true → In (reaching t (length xs)) s
  unfolding reaching leads
  leads-reaching [] h e = record { is = e }
  leads-reaching (x ∷ xs) {s} h e =
      let p = and_in (t.row s) x _ e in
      in_reaching t (length xs) h p.0 (leads-reaching xs (successors h x p.0) p.1)

  pub at_lt : (k : ℕ) {s : ℕ} → At t s k → k < t.n
  at_lt k a = omega (arith, at_size t k a, size_bound (reaching-states k))

  path-reaching : (x : ℕ) (xs : List ℕ) → is_path t (x ∷ xs) ≡ true → In t.initial x × In (reaching t (length xs)) x
  unfolding is_path
  path-reaching x xs e = let p = and_in t.initial x _ e in (p.0, leads-reaching xs (ok.initial x p.0) p.1)

  pub has_path_lem : (xs : List ℕ) → is_path t xs ≡ true → has_path t ≡ true
  unfolding is_path has_path
  has_path_lem [] e = absurd (false≢true e)
  has_path_lem (x ∷ xs) e =
      let p = path-reaching x xs e in
      let a = reaching_at t (length xs) p.1 in
      lt-ltb (shortest t) t.n (omega (arith, shortest_le t a.0 p.0 a.2.within, at_lt a.0 a.2))

  -- y is near enough to be picked; where it is the one picked, its successors decide
  pub walk-smallest : (ys : List ℕ) {X : Set} {y : ℕ} → X ⊆ first_states t.n → In X y → leads t y ys ≡ true
      → LexLe (walk t (length ys) X) (y ∷ ys)
  unfolding walk leads
  walk-smallest [] {X} {y} f h e =
      ⊎_elim (λ q. inr (q, tt)) inl (eq-or-lt_of_le (smallest_le (in_meet h (leads-reaching [] (f y h) e))))
  walk-smallest (z ∷ zs) {X} {y} f h e =
      let p = and_in (t.row y) z _ e in
      ⊎_elim (λ q. inr (q, rw q (walk-smallest zs (successors (f y h)) p.0 p.1))) inl
      (eq-or-lt_of_le (smallest_le (in_meet h (leads-reaching (z ∷ zs) (f y h) e))))

-- ---- the path that the specification names

module _ (t : Table) where
  pub walk-leads : (d : ℕ) {X : Set} → Nearest t X d → (x : ℕ) × (xs : List ℕ) × (walk t d X ≡ x ∷ xs) × In X x × (leads t x xs ≡ true)
  unfolding walk leads reaching
  walk-leads zero {X} n = let p = pick_at t n in (pick t zero X, [], refl, p.0, p.1.within.is)
  walk-leads (suc d) {X} n =
      let p = pick_at t n in
      let w = walk-leads d (at_row t p.1) in
      (pick t (suc d) X, walk t d (t.row (pick t (suc d) X)), refl, p.0, rw w.2 (in_and w.3 w.4))

  pub path_of : has_path t ≡ true → is_path t (smallest_path t) ≡ true
  unfolding is_path smallest_path
  path_of e = let w = walk-leads (shortest t) (shortest-nearest t e) in rw w.2 (in_and w.3 w.4)

module _ {t : Table} (ok : WellFormed t) where
  no_shorter : (ys : List ℕ) → is_path t ys ≡ true → length (smallest_path t) ≤ length ys
  unfolding is_path
  no_shorter [] e = absurd (false≢true e)
  no_shorter (y ∷ ys) e = let p = path-reaching ok y ys e in omega (arith, length-smallest t, shortest_le t (length ys) p.0 p.1)

  no_smaller : (ys : List ℕ) → is_path t ys ≡ true → length ys ≡ length (smallest_path t) → LexLe (smallest_path t) ys
  unfolding is_path smallest_path
  no_smaller [] e l = absurd (false≢true e)
  no_smaller (y ∷ ys) e l =
      let p = and_in t.initial y _ e in
      let q : shortest t ≡ length ys = omega (arith, length-smallest t) in
      rw q (walk-smallest ok ys ok.initial p.0 p.1)

  pub smallest-is : has_path t ≡ true → IsSmallest t (smallest_path t)
  smallest-is e = record { path = path_of t e; shortest = no_shorter; smallest = no_smaller }

  -- ---- the states of a path

  leads_below : (xs : List ℕ) {x : ℕ} → In (first_states t.n) x → leads t x xs ≡ true → (i : ℕ) → i < suc (length xs)
      → get_or (x ∷ xs) i 0 < t.n
  unfolding leads
  leads_below xs h e zero l = first_states_in h
  leads_below [] h e (suc i) l = absurd (not-suc-le-zero (le_of_suc-le-suc l))
  leads_below (y ∷ ys) {x} h e (suc i) l =
      let p = and_in (t.row x) y _ e in
      leads_below ys (successors ok h y p.0) p.1 i (le_of_suc-le-suc l)

  path_below : (xs : List ℕ) → is_path t xs ≡ true → (i : ℕ) → i < length xs → get_or xs i 0 < t.n
  unfolding is_path
  path_below [] e i l = absurd (not-suc-le-zero l)
  path_below (x ∷ xs) e i l = let p = and_in t.initial x _ e in leads_below xs (ok.initial x p.0) p.1 i l

  pub smallest_below : has_path t ≡ true → (i : ℕ) → i < length (smallest_path t) → get_or (smallest_path t) i 0 < t.n
  smallest_below e = path_below (smallest_path t) (path_of t e)

-- ---- distance

-- what a state has of its distance r: exactly that near, or never
abbrev IsDistance : Table → ℕ → ℕ → Type 0
IsDistance t s r = ((r < t.n) × At t s r) ⊎ (((k : ℕ) → k < t.n → In (reaching t k) s → ⊥) × (r ≡ unreachable))

module _ (t : Table) where
  distance_cases : (s : ℕ) → IsDistance t s (distance t s)
  unfolding distance
  distance_cases s =
      let p : ℕ → Bool = λ k. member (reaching t k) s in
      let d = first t.n p in
      by_cond (IsDistance t s) (ltb d t.n) d unreachable
      (λ e.
      let l = ltb-true d t.n e in
      inl (l, record { within = record { is = first_passes p t.n l }; no_closer = λ j m h. clash h.is (first-least p t.n j m) }))
      (λ e. inr ((λ k l h. clash h.is (first-least p t.n k (omega (arith, ltb-false d t.n e)))), refl))

  pub distance-unreachable : (s : ℕ) → ((k : ℕ) → k < t.n → In (reaching t k) s → ⊥) → distance t s ≡ unreachable
  distance-unreachable s f = ⊎_elim (λ c. absurd (f (distance t s) c.0 c.1.within)) (λ c. c.1) (distance_cases s)

  module _ (s k : ℕ) (l : k < t.n) where
    pub distance_is : At t s k → distance t s ≡ k
    distance_is a = ⊎_elim (λ c. at_unique t c.1 a) (λ c. absurd (c.0 k l a.within)) (distance_cases s)

    pub reaching-distance : In (reaching t k) s → distance t s ≤ k
    reaching-distance h =
        ⊎_elim
        (λ c. ⊎_elim (λ m. absurd (c.1.no_closer k m h)) (λ m. m) (lt_or_ge k (distance t s)))
        (λ c. absurd (c.0 k l h))
        (distance_cases s)

    -- no more states than a set can hold: `unreachable` is no distance
    module _ (small : t.n ≤ max_states) where
      pub distance-reaching : distance t s ≤ k → In (reaching t k) s
      distance-reaching m =
          ⊎_elim (λ c. reaching_mono t (distance t s) k m s c.1.within) (λ c. absurd (omega arith)) (distance_cases s)
