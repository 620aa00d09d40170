-- The parts of the contents of a file, as they are written.
--
--   word_bytes x count            the lowest so many bytes of a word, lowest first; words_bytes words v: all eight of word v
--   place_of g k                  where set k of a file with g groups begins in the store: before the groups, among them, or among the rows
--   placed_set store w g k        the w bytes of that set
use Rattle.std.specs.Prelude.{ℕ, ◌+◌, ◌*◌, ◌-◌, ◌/◌, ◌%◌, ◌^◌, cond, List, ltb, get_or}
use Rattle.basics.specs.Bounds.{tabulate}
use Rattle.model.specs.Sets.{WORDS}
use Rattle.model.specs.Stores.{head_sets, group_at, row_at, set_at}
use Rattle.model.specs.Contents.{set_bytes}

unfoldable pub word_bytes : ℕ → ℕ → List ℕ
word_bytes x count = tabulate count (λ b. x / 2 ^ (8 * b) % 256)

unfoldable pub words_bytes : List ℕ → ℕ → List ℕ
words_bytes words v = word_bytes (get_or words v 0) 8

unfoldable pub place_of : ℕ → ℕ → ℕ
place_of g k = cond (ltb k head_sets) (WORDS * k) (cond (ltb k (head_sets + g)) (group_at (k - head_sets)) (row_at (k - (head_sets + g))))

unfoldable pub placed_set : List ℕ → ℕ → ℕ → ℕ → List ℕ
placed_set store w g k = set_bytes w (set_at store (place_of g k))
