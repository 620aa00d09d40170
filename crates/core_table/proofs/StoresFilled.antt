-- A store that is filled with a table: cleared, then set by set.
--
--   cleared-long, cleared-set, cleared-drop     a cleared store: its length, its sets, the words behind a table
--   Filling                                     a loop that puts sets at their places: filling_none, -more, -all
--   sets-long, sets_own, sets_apart, sets-drop  a store so filled: its length, a set that was put, any other, the words behind
--   holds-overwrite                             a store that holds t, the words past a table as before, is t's layout written over what was there
use Prim.Native.Nat.{ℕ, zero, suc, ◌+◌, ◌≤◌, ◌<◌}
use native.Mathlib.Nat.{not-suc-le-zero, le_antisymm}
use native.Mathlib.Numerals.{add-one}
use native.Mathlib.Omega.{arith}
use mathlib.Core.Path.{◌≡◌, refl, sym, ap, ap₂, ◌∙◌}
use mathlib.Core.Logic.{◌⊎◌, inl, inr, ⊎_elim}
use mathlib.Core.List.{List, ◌++◌}
use lib.ListN.{length, drop, take-append-drop}
use lib.Seq.{length-take-le}
use Rattle.basics.specs.Bounds.{tabulate}
use Rattle.model.specs.Sets.{WORDS, Set, empty}
use Rattle.model.specs.Tables.{Dialogue}
use Rattle.model.specs.Stores.{store_words, set_at, layout}
use Rattle.model.specs.Calls.{overwrite}
use Rattle.basics.proofs.BoundLaws.{below_suc, length-tabulate, get_or-tabulate}
use Rattle.model.proofs.ListsInParts.{length-overwrite, drop-overwrite}
use Rattle.model.proofs.StoresTables.{set_at-overwrite, set_at-empty, Holds, holds-layout}
use Rattle.core_table.specs.Writing.{overwrite_from, cleared, put_sets}
use Rattle.core_table.proofs.StoresPut.{put_long, put_own, put_apart, put_drop}

-- ---- a cleared store

module _ (old : List ℕ) (room : store_words ≤ length old) where
  abbrev zeros : List ℕ
  zeros = tabulate store_words (λ i. 0)

  zeros_long : length zeros ≡ store_words
  zeros_long = length-tabulate (λ (i : ℕ). 0) store_words

  pub cleared-long : length (cleared old) ≡ length old
  unfolding cleared
  cleared-long = length-overwrite zeros old (omega (arith, zeros_long))

  pub cleared-set : (at : ℕ) → at + WORDS ≤ store_words → set_at (cleared old) at ≡ empty
  unfolding cleared
  cleared-set at h =
      set_at-overwrite zeros old at (omega (arith, zeros_long))
      ∙ set_at-empty zeros at (omega (arith, zeros_long)) (λ w l. get_or-tabulate (λ i. 0) store_words (at + w) 0 (omega arith))

  pub cleared-drop : drop store_words (cleared old) ≡ drop store_words old
  unfolding cleared
  cleared-drop = drop-overwrite zeros old store_words zeros_long

-- ---- sets put at their places

pub record Filling (place : ℕ → ℕ) (f : ℕ → Set) (k : ℕ) (old store : List ℕ) : Type 0 where
  pub long : length store ≡ length old
  pub is : store ≡ put_sets place f k old

module _ (place : ℕ → ℕ) (f : ℕ → Set) (old : List ℕ) where
  pub filling_none : Filling place f 0 old old
  unfolding put_sets
  filling_none = record { long = refl; is = refl }

  module _ (k : ℕ) (store : List ℕ) (so : Filling place f k old store) where
    pub filling_more : (next : List ℕ) → length next ≡ length store → next ≡ overwrite_from (place k) (f k) store → Filling place f (k + 1) old next
    unfolding put_sets
    filling_more next long e =
        record {
          long = long ∙ so.long;
          is = e ∙ ap (overwrite_from (place k) (f k)) so.is ∙ ap (λ (m : ℕ). put_sets place f m old) (sym (add-one k));
        }

    pub filling_all : (m : ℕ) → k ≤ m → m ≤ k → store ≡ put_sets place f m old
    filling_all m l h = so.is ∙ ap (λ (j : ℕ). put_sets place f j old) (le_antisymm l h)

-- m sets in a store that has their places
module _ (place : ℕ → ℕ) (f : ℕ → Set) (wide : (k : ℕ) → length (f k) ≡ WORDS) (m : ℕ) (old : List ℕ)
    (inside : (k : ℕ) → k < m → place k + WORDS ≤ length old) where
  abbrev after : ℕ → List ℕ
  after k = put_sets place f k old

  pub sets-long : (k : ℕ) → k ≤ m → length (after k) ≡ length old
  unfolding put_sets
  sets-long zero h = refl
  sets-long (suc k) h =
      let rest = sets-long k (omega arith) in
      put_long (place k) (f k) (after k) (omega (arith, wide k, rest, inside k (omega arith))) ∙ rest

  -- the next set fits
  fits : (k : ℕ) → k < m → place k + length (f k) ≤ length (after k)
  fits k h = omega (arith, wide k, sets-long k (omega arith), inside k h)

  pub sets_apart : (k : ℕ) → k ≤ m → (at : ℕ) → at + WORDS ≤ length old → ((j : ℕ) → j < k → (at + WORDS ≤ place j) ⊎ (place j + WORDS ≤ at))
      → set_at (after k) at ≡ set_at old at
  unfolding put_sets
  sets_apart zero h at l apart = refl
  sets_apart (suc k) h at l apart =
      put_apart (place k) (f k) (after k) (fits k (omega arith)) at (omega (arith, sets-long k (omega arith)))
      (⊎_elim inl (λ b. inr (omega (arith, wide k))) (apart k (omega arith)))
      ∙ sets_apart k (omega arith) at l (λ j b. apart j (omega arith))

  pub sets-drop : (k : ℕ) → k ≤ m → (n : ℕ) → n ≤ length old → ((j : ℕ) → j < k → place j + WORDS ≤ n) → drop n (after k) ≡ drop n old
  unfolding put_sets
  sets-drop zero h n l before = refl
  sets-drop (suc k) h n l before =
      put_drop (place k) (f k) (after k) n (omega (arith, wide k, before k (omega arith))) (omega (arith, sets-long k (omega arith)))
      ∙ sets-drop k (omega arith) n l (λ j b. before j (omega arith))

  -- each place lies behind those before it
  pub sets_own : ((j k : ℕ) → j < k → place j + WORDS ≤ place k) → (k : ℕ) → k ≤ m → (j : ℕ) → j < k → set_at (after k) (place j) ≡ f j
  unfolding put_sets set_at
  sets_own rise zero h j l = absurd (not-suc-le-zero l)
  sets_own rise (suc k) h j l =
      ⊎_elim
      (λ q. ap (λ (i : ℕ). set_at (after (suc k)) (place i)) q ∙ put_own (place k) (f k) (after k) (fits k (omega arith)) WORDS (wide k) ∙ ap f (sym q))
      (λ b.
      put_apart (place k) (f k) (after k) (fits k (omega arith)) (place j) (omega (arith, sets-long k (omega arith), inside j (omega arith))) (inl (rise j k b))
      ∙ sets_own rise k (omega arith) j b)
      (below_suc l)

-- ---- a store that was filled

pub holds-overwrite : (t : Dialogue) (old store : List ℕ) → store_words ≤ length store → Holds store t → drop store_words store ≡ drop store_words old
    → store ≡ overwrite (layout t) old
unfolding overwrite
holds-overwrite t old store room h past =
    let front = holds-layout store t h in
    let long : length (layout t) ≡ store_words = ap length front ∙ length-take-le store_words store room in
    sym (take-append-drop store_words store) ∙ ap₂ (λ xs ys. xs ++ ys) (sym front) (past ∙ ap (λ (m : ℕ). drop m old) (sym long))
