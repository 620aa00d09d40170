-- A small table and its store, word by word (the specification, "The store").
--
--   words a b       a set of states below 128: eight words, of which the first two are a and b
--   small           66 states and two groups, each set another: initial {0}, marked {65}, resting {1, 64}, the groups {0, 1} and {64, 65},
--                   0 → 1, 0 → 65, 65 → 0, 65 → 64
--   small_store      its 4,632 words: the initial set at word 0, the marked states at 8, the resting ones at 16, the groups from 24 on,
--                   the successors of state 0 at 536, those of state 65 at 1,056
--   WorkedStore     the words are those, and what they hold is the table
-- `StoresTables.worked_store` proves it.
use Rattle.std.specs.Prelude.{ℕ, ◌*◌, ◌≡◌, cond, List, [], ◌∷◌, ◌++◌, eqb, replicate}
use Rattle.basics.specs.Bounds.{tabulate}
use Rattle.model.specs.Sets.{Set}
use Rattle.model.specs.Tables.{Dialogue}
use Rattle.model.specs.Stores.{dialogue_of, layout}

abbrev pub words : ℕ → ℕ → Set
words a b = a ∷ b ∷ 0 ∷ 0 ∷ 0 ∷ 0 ∷ 0 ∷ 0 ∷ []

abbrev pub small : Dialogue
small =
    record {
      n = 66;
      initial = words 1 0;
      marked = words 0 2;
      resting = words 2 1;
      groups = words 3 0 ∷ words 0 3 ∷ [];
      row = λ s. cond (eqb s 0) (words 2 2) (cond (eqb s 65) (words 1 1) (words 0 0));
    }

-- 62 groups are unused; 64 states between 0 and 65 have no successor; 446 rows are unused.
abbrev pub small_store : List ℕ
small_store =
    words 1 0
    ++ (words 0 2
    ++ (words 2 1
    ++ (words 3 0
    ++ (words 0 3
    ++ (replicate (8 * 62) 0 ++ (words 2 2 ++ (replicate (8 * 64) 0 ++ (words 1 1 ++ replicate (8 * 446) 0))))))))

pub record WorkedStore : Type 0 where
  pub laid_out : layout small ≡ small_store
  pub initial : (dialogue_of small_store 66 2).initial ≡ words 1 0
  pub marked : (dialogue_of small_store 66 2).marked ≡ words 0 2
  pub resting : (dialogue_of small_store 66 2).resting ≡ words 2 1
  pub groups : (dialogue_of small_store 66 2).groups ≡ words 3 0 ∷ words 0 3 ∷ []
  pub rows : tabulate 67 (dialogue_of small_store 66 2).row ≡ words 2 2 ∷ (replicate 64 (words 0 0) ++ (words 1 1 ∷ words 0 0 ∷ []))
