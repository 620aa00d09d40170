-- The front of a log's entries, and when it obeys.
--
--   obeys-held, held-obeys       a list obeys where each element is a state that it may be, and only there; walks-held, held-walks: from one on
--   entries-long                 how many entries there are
--   front_length, front_may      the first k entries: how many they are, and what each may be
use Prim.Native.Nat.{ℕ, zero, suc, ◌≤◌, ◌<◌}
use native.Mathlib.Nat.{not-suc-le-zero}
use native.Mathlib.Omega.{arith}
use mathlib.Core.Path.{◌≡◌, refl, ap, ◌∙◌}
use mathlib.Core.Bool.{true}
use mathlib.Core.List.{List, [], ◌∷◌}
use lib.ListN.{length, get_or, take}
use lib.Seq.{length-take-le, get_or-take}
use Rattle.model.specs.Sets.{Set, member}
use Rattle.model.specs.Tables.{Table}
use Rattle.basics.proofs.BoundLaws.{and_true, and_intro, length-tabulate, get_or-tabulate}
use Rattle.core_reach.specs.Reached.{walks}
use Rattle.call_replay.specs.Logs.{entry_count, entry, may_hold}
use Rattle.call_replay.specs.ReplayPromises.{entries, obeys}

-- ---- a list that obeys

-- what element i of xs may be
abbrev may_be : Table → List ℕ → ℕ → Set
may_be t xs zero = t.initial
may_be t xs (suc i) = t.row (get_or xs i 0)

walks-held : (t : Table) (x : ℕ) (xs : List ℕ) → ((i : ℕ) → i < length xs → member (t.row (get_or (x ∷ xs) i 0)) (get_or xs i 0) ≡ true) → walks t x xs ≡ true
unfolding walks
walks-held t x [] f = refl
walks-held t x (y ∷ ys) f = and_intro (member (t.row x) y) (walks t y ys) (f 0 (omega arith)) (walks-held t y ys (λ i h. f (suc i) (omega arith)))

held-walks : (t : Table) (x : ℕ) (xs : List ℕ) → walks t x xs ≡ true → (i : ℕ) → i < length xs → member (t.row (get_or (x ∷ xs) i 0)) (get_or xs i 0) ≡ true
unfolding walks
held-walks t x [] e i h = absurd (not-suc-le-zero h)
held-walks t x (y ∷ ys) e zero h = (and_true (member (t.row x) y) (walks t y ys) e).0
held-walks t x (y ∷ ys) e (suc i) h = held-walks t y ys (and_true (member (t.row x) y) (walks t y ys) e).1 i (omega arith)

pub obeys-held : (t : Table) (xs : List ℕ) → ((i : ℕ) → i < length xs → member (may_be t xs i) (get_or xs i 0) ≡ true) → obeys t xs ≡ true
unfolding obeys
obeys-held t [] f = refl
obeys-held t (x ∷ xs) f = and_intro (member t.initial x) (walks t x xs) (f 0 (omega arith)) (walks-held t x xs (λ i h. f (suc i) (omega arith)))

pub held-obeys : (t : Table) (xs : List ℕ) → obeys t xs ≡ true → (i : ℕ) → i < length xs → member (may_be t xs i) (get_or xs i 0) ≡ true
unfolding obeys
held-obeys t [] e i h = absurd (not-suc-le-zero h)
held-obeys t (x ∷ xs) e zero h = (and_true (member t.initial x) (walks t x xs) e).0
held-obeys t (x ∷ xs) e (suc i) h = held-walks t x xs (and_true (member t.initial x) (walks t x xs) e).1 i (omega arith)

-- ---- the front of a log's entries

module _ (log : List ℕ) where
  pub entries-long : length (entries log) ≡ entry_count log
  unfolding entries
  entries-long = length-tabulate (entry log) (entry_count log)

  module _ (k : ℕ) (fits : k ≤ length (entries log)) where
    pub front_length : length (take k (entries log)) ≡ k
    front_length = length-take-le k (entries log) fits

    front_at : (i : ℕ) → i < k → get_or (take k (entries log)) i 0 ≡ entry log i
    unfolding entries
    front_at i h =
        get_or-take k (entries log) i 0 h ∙ get_or-tabulate (entry log) (entry_count log) i 0 (omega (arith, entries-long))

    -- what an entry of the front may be is what the entry of the log may hold
    pub front_may : (t : Table) (i : ℕ) → i < k → member (may_be t (take k (entries log)) i) (get_or (take k (entries log)) i 0) ≡ member (may_hold t log i) (entry log i)
    unfolding may_hold
    front_may t zero h = ap (member t.initial) (front_at zero h)
    front_may t (suc i) h =
        ap (λ (x : ℕ). member (t.row x) (get_or (take k (entries log)) (suc i) 0)) (front_at i (omega arith))
        ∙ ap (member (t.row (entry log i))) (front_at (suc i) h)
