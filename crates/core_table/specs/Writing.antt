-- What is written into a store.
--
--   overwrite_from at xs old     xs written from `at` on over a buffer that held old, the rest of it untouched
--   cleared store               a store whose words of a table are 0
--   put_sets place f k store     the sets f 0, .., f (k − 1), each put in turn at its place
use Rattle.std.specs.Prelude.{ℕ, zero, suc, List, ◌++◌, take, drop}
use Rattle.basics.specs.Bounds.{tabulate}
use Rattle.model.specs.Sets.{Set}
use Rattle.model.specs.Stores.{store_words}
use Rattle.model.specs.Calls.{overwrite}

unfoldable pub overwrite_from : ℕ → List ℕ → List ℕ → List ℕ
overwrite_from at xs old = take at old ++ overwrite xs (drop at old)

unfoldable pub cleared : List ℕ → List ℕ
cleared store = overwrite (tabulate store_words (λ i. 0)) store

unfoldable pub put_sets : (ℕ → ℕ) → (ℕ → Set) → ℕ → List ℕ → List ℕ
put_sets place f zero store = store
put_sets place f (suc k) store = overwrite_from (place k) (f k) (put_sets place f k store)
