-- A store that `fill` has filled.
--
--   laid       the sets of a table made of numbers have WORDS words each
--   filled     a store cleared, then written over with initial set, marked set and rows, holds the table
use Rattle.std.proofs.Common.{◌≡◌, ℕ, zero, suc, ◌+◌, ◌-◌, ◌<◌, ◌≤◌, ◌⊎◌, List, length, drop, refl, ap, ◌∙◌, inl, inr, ⊎_elim, arith, le-ltb, lt-ltb}
use Rattle.model.specs.Sets.{WORDS, max_states, Set, empty, single}
use Rattle.model.specs.Stores.{marked_at, resting_at, group_at, row_at, store_words, set_at, layout}
use Rattle.model.specs.Calls.{overwrite}
use Rattle.basics.proofs.BoundLaws.{lt_or_ge}
use Rattle.model.proofs.SetsMembers.{set_of_proper, empty_proper}
use Rattle.model.proofs.StoresTables.{Holds, Laid}
use Rattle.core_table.specs.Writing.{overwrite_from, cleared, put_sets}
use Rattle.core_table.proofs.StoresFilled.{cleared-long, cleared-set, cleared-drop, sets-long, sets_own, sets_apart, sets-drop, holds-overwrite}
use Rattle.call_generate.specs.Load.{successors, load_from}
use Rattle.call_generate.proofs.RowsGenerated.{remainders_wide}

single_wide : (s : ℕ) → length (single s) ≡ WORDS
unfolding single
single_wide s = (set_of_proper _).long

successors_wide : (xs : List ℕ) (n f s : ℕ) → length (successors xs n f s) ≡ WORDS
unfolding successors
successors_wide xs n f s = remainders_wide _ n

pub laid : (xs : List ℕ) (n f : ℕ) → Laid (load_from xs n f)
unfolding load_from
laid xs n f =
    record {
      initial = single_wide _;
      marked = single_wide _;
      resting = empty_proper.long;
      group = λ j. empty_proper.long;
      row = λ s. successors_wide xs n f s;
    }

-- ---- the sets in their order: initial set, marked set, rows

abbrev place : ℕ → ℕ
place zero = 0
place (suc zero) = marked_at
place (suc (suc s)) = row_at s

rise : (j k : ℕ) → j < k → place j + WORDS ≤ place k
rise j zero h = omega arith
rise zero (suc zero) h = omega arith
rise (suc j) (suc zero) h = omega arith
rise zero (suc (suc k)) h = omega arith
rise (suc zero) (suc (suc k)) h = omega arith
rise (suc (suc j)) (suc (suc k)) h = omega arith

module _ (n : ℕ) (small : n ≤ max_states) where
  inside : (k : ℕ) → k < suc (suc n) → place k + WORDS ≤ store_words
  inside zero h = omega arith
  inside (suc zero) h = omega arith
  inside (suc (suc s)) h = omega arith

  -- what stands between the marked set and the rows, or behind those, is apart from each
  apart : (b : ℕ) → resting_at ≤ b → (b + WORDS ≤ row_at 0) ⊎ (row_at n ≤ b) → (k : ℕ) → k < suc (suc n) → (b + WORDS ≤ place k) ⊎ (place k + WORDS ≤ b)
  apart b low side zero h = inr (omega arith)
  apart b low side (suc zero) h = inr (omega arith)
  apart b low side (suc (suc s)) h = ⊎_elim (λ l. inl (omega arith)) (λ l. inr (omega arith)) side

module _ (xs : List ℕ) (n f : ℕ) where
  abbrev put : ℕ → Set
  put zero = single 0
  put (suc zero) = single (n - 1)
  put (suc (suc s)) = successors xs n f s

  put_wide : (k : ℕ) → length (put k) ≡ WORDS
  put_wide zero = single_wide 0
  put_wide (suc zero) = single_wide (n - 1)
  put_wide (suc (suc s)) = successors_wide xs n f s

  in_order : (store : List ℕ) (k : ℕ) → put_sets row_at (successors xs n f) k (put_sets place put 2 store) ≡ put_sets place put (suc (suc k)) store
  unfolding put_sets
  in_order store zero = refl
  in_order store (suc k) = ap (overwrite_from (row_at k) (successors xs n f k)) (in_order store k)

  module _ (small : n ≤ max_states) (old : List ℕ) (room : store_words ≤ length old) where
    abbrev whole : List ℕ
    whole = put_sets place put (suc (suc n)) (cleared old)

    fits : (k : ℕ) → k < suc (suc n) → place k + WORDS ≤ length (cleared old)
    fits k h = omega (arith, inside n small k h, cleared-long old room)

    whole_long : length whole ≡ length old
    whole_long = sets-long place put put_wide (suc (suc n)) (cleared old) fits (suc (suc n)) (omega arith) ∙ cleared-long old room

    own : (k : ℕ) → k < suc (suc n) → set_at whole (place k) ≡ put k
    own = sets_own place put put_wide (suc (suc n)) (cleared old) fits rise (suc (suc n)) (omega arith)

    unused : (b : ℕ) → resting_at ≤ b → b + WORDS ≤ store_words → (b + WORDS ≤ row_at 0) ⊎ (row_at n ≤ b) → set_at whole b ≡ empty
    unused b low high side =
        sets_apart place put put_wide (suc (suc n)) (cleared old) fits (suc (suc n)) (omega arith) b (omega (arith, cleared-long old room)) (apart n small b low side)
        ∙ cleared-set old room b high

    holds : Holds whole (load_from xs n f)
    unfolding load_from
    holds =
        record {
          initial = own 0 (omega arith);
          marked = own 1 (omega arith);
          resting = unused resting_at (omega arith) (omega arith) (inl (omega arith));
          group = λ j h. unused (group_at j) (omega arith) (omega arith) (inl (omega arith));
          row = λ s h. ⊎_elim (λ l. own (suc (suc s)) (omega arith) ∙ rw (lt-ltb s n l))
              (λ l. unused (row_at s) (omega arith) (omega arith) (inr (omega arith)) ∙ rw (le-ltb s n l)) (lt_or_ge s n);
        }

    past : drop store_words whole ≡ drop store_words old
    past =
        sets-drop place put put_wide (suc (suc n)) (cleared old) fits (suc (suc n)) (omega arith) store_words (omega (arith, cleared-long old room)) (inside n small)
        ∙ cleared-drop old room

    -- the store as the calls left it
    pub filled : {s₁ s₂ s₃ s₄ X Y : List ℕ} → s₁ ≡ cleared old → s₂ ≡ overwrite_from 0 X s₁ → X ≡ single 0 → s₃ ≡ overwrite_from marked_at Y s₂ → Y ≡ single (n - 1)
        → s₄ ≡ put_sets row_at (successors xs n f) n s₃ → s₄ ≡ overwrite (layout (load_from xs n f)) old
    unfolding put_sets
    filled {s₁} {s₂} {s₃} {s₄} {X} {Y} e₁ e₂ x e₃ y e₄ =
        e₄ ∙ rw (e₃, y, e₂, x, e₁) (in_order (cleared old) n) ∙ holds-overwrite (load_from xs n f) old whole (omega (arith, whole_long)) holds past
