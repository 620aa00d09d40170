-- Laws of a walk.
--
--   holds_word, holds-past               membership in a set of the store, by its one word
--   seen_in, in_seen                     the states that the first entries hold; seen_none, seen_more: before the first, and one more
--   breaks t log i                       entry i breaks the walk
--   followed_in, followed-states         each followed entry is a state that it may hold, and a state of the table
--   followed_cong                        only the initial states and the rows of the table's states play a part
--   Closed t X, followed-closed          what holds the initial states and each step out of it holds every followed entry
use Prim.Native.Nat.{ℕ, zero, suc, ◌+◌, ◌/◌, ◌%◌, ◌^◌, ◌≤◌, ◌<◌}
use native.Mathlib.Nat.{eq-or-lt_of_le}
use native.Mathlib.Omega.{arith}
use mathlib.Core.Path.{◌≡◌, refl, sym, ap, ◌∙◌}
use mathlib.Core.Logic.{⊎_elim}
use mathlib.Core.Bool.{Bool, not}
use mathlib.Core.List.{List}
use borrow.Author.Tests.{not-false, lt-ltb, eqb-true, eq-eqb}
use lib.Bits.{bit_and}
use lib.Dec.{eqb, ltb}
use lib.ListN.{get_or, replicate}
use Rattle.basics.specs.Bounds.{tabulate, any, first}
use Rattle.model.specs.Sets.{WORDS, max_states, Set, member, number, set_of, single, union, first_states}
use Rattle.model.specs.Tables.{Table}
use Rattle.model.specs.Stores.{set_at}
use Rattle.basics.proofs.BoundLaws.{any_intro, any_find, first_le, first_passes, first-least, first-is, first-none}
use Rattle.model.proofs.SetsMembers.{member-set_of, set_of_cong, In, in_set_of, set_of_in, first_states_in}
use Rattle.model.proofs.StoresTables.{get_or-set_at}
use Rattle.model.specs.WellFormed.{WellFormed}
use Rattle.core_state_set.proofs.SetsWords.{member_word, member-past}
use Rattle.call_replay.specs.Logs.{entry_count, entry, may_hold, followed, seen}

-- ---- a set of the store

module _ (store : List ℕ) (at s : ℕ) where
  pub holds_word : s / 64 < WORDS → eqb (bit_and (get_or store (at + s / 64) 0 / 2 ^ (s % 64)) 1) 1 ≡ member (set_at store at) s
  holds_word h =
      ap (λ (x : ℕ). eqb (bit_and (x / 2 ^ (s % 64)) 1) 1) (sym (get_or-set_at store at (s / 64) h)) ∙ member_word (set_at store at) s h

  pub holds-past : WORDS ≤ s / 64 → ltb (s / 64) WORDS ≡ member (set_at store at) s
  holds-past h = member-past (set_at store at) s h

-- ---- the states that the first entries hold

pub seen_in : (log : List ℕ) (k : ℕ) {s : ℕ} → In (seen log k) s → (i : ℕ) × (i < k) × (entry log i ≡ s)
unfolding seen
seen_in log k {s} h =
    let w = any_find (λ i. eqb s (entry log i)) k (set_of_in _ h) in
    (w.0, w.1, sym (eqb-true s (entry log w.0) w.2))

pub in_seen : (log : List ℕ) (k i : ℕ) → i < k → entry log i < max_states → In (seen log k) (entry log i)
unfolding seen
in_seen log k i h l = in_set_of _ l (any_intro (λ j. eqb (entry log i) (entry log j)) k i h (eq-eqb (entry log i) (entry log i) refl))

pub seen_none : (log : List ℕ) → replicate WORDS 0 ≡ seen log 0
unfolding seen set_of tabulate number any
seen_none log = refl

pub seen_more : (log : List ℕ) (i : ℕ) → union (seen log i) (single (entry log i)) ≡ seen log (suc i)
unfolding seen union single any
seen_more log i =
    set_of_cong _ _
    (λ s h.
    rw (
      member-set_of (λ r. any i (λ j. eqb r (entry log j))) s,
      member-set_of (λ r. eqb r (entry log i)) s,
      lt-ltb s max_states h,
    ))

-- ---- the walk

-- entry i breaks it
abbrev pub breaks : Table → List ℕ → ℕ → Bool
breaks t log i = not (member (may_hold t log i) (entry log i))

module _ (t : Table) (log : List ℕ) where
  pub followed_in : (i : ℕ) → i < followed t log → In (may_hold t log i) (entry log i)
  unfolding followed
  followed_in i h = record { is = not-false _ (first-least (breaks t log) (entry_count log) i h) }

  module _ (ok : WellFormed t) where
    pub followed-states : (i : ℕ) → i < followed t log → In (first_states t.n) (entry log i)
    unfolding may_hold
    followed-states zero h = ok.initial _ (followed_in zero h)
    followed-states (suc i) h = ok.rows (entry log i) (first_states_in (followed-states i (omega arith))) _ (followed_in (suc i) h)

    pub followed_cong : (u : Table) → t.initial ≡ u.initial → ((s : ℕ) → s < t.n → t.row s ≡ u.row s) → followed t log ≡ followed u log
    unfolding followed may_hold
    followed_cong u e f =
        let p = breaks t log in
        let q = breaks u log in
        let m = entry_count log in
        let same : (i : ℕ) → i ≤ first m p → p i ≡ q i = alike in
        ⊎_elim
        (λ whole. whole ∙ sym (first-none q m (λ j h. sym (same j (omega arith)) ∙ first-least p m j (omega arith))))
        (λ broken.
        sym (first-is q m (first m p) broken (sym (same (first m p) (omega arith)) ∙ first_passes p m broken)
        (λ j h. sym (same j (omega arith)) ∙ first-least p m j h)))
        (eq-or-lt_of_le (first_le p m))
      where
        alike : (i : ℕ) → i ≤ followed t log → breaks t log i ≡ breaks u log i
        alike zero h = ap (λ (X : Set). not (member X (entry log zero))) e
        alike (suc i) h = ap (λ (X : Set). not (member X (entry log (suc i)))) (f (entry log i) (first_states_in (followed-states i h)))

-- a set that holds the initial states and each step out of it
pub record Closed (t : Table) (X : Set) : Type 0 where
  pub initial : (s : ℕ) → In t.initial s → In X s
  pub steps : (s u : ℕ) → In X s → In (t.row s) u → In X u

pub followed-closed : {t : Table} {X : Set} (log : List ℕ) → Closed t X → (i : ℕ) → i < followed t log → In X (entry log i)
unfolding may_hold
followed-closed {t} log c zero h = c.initial _ (followed_in t log zero h)
followed-closed {t} log c (suc i) h = c.steps (entry log i) _ (followed-closed log c i (omega arith)) (followed_in t log (suc i) h)
