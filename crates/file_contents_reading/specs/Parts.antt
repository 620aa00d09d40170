-- What the functions that read contents ask of them, and the sets of a part of the store.
--
--   PartInside bytes first count     `count` sets from set `first` on: no more than a table has, of bytes that are as many as contents are joined in,
--                                    which is enough for every table
--   part_set bytes n first count k   set k of a part of the store: one of the contents, or an unused one, which is empty
use Rattle.std.specs.Prelude.{ℕ, ◌+◌, ◌≤◌, cond, List, ltb, length}
use Rattle.model.specs.Sets.{max_states, Set, empty}
use Rattle.model.specs.Stores.{head_sets, max_groups}
use Rattle.model.specs.Contents.{set_number}
use Rattle.file_blocks.specs.Forms.{joined_room}

pub record PartInside (bytes : List ℕ) (first count : ℕ) : Type 0 where
  pub many : first + count ≤ head_sets + max_groups + max_states
  pub room : joined_room ≤ length bytes

unfoldable pub part_set : List ℕ → ℕ → ℕ → ℕ → ℕ → Set
part_set bytes n first count k = cond (ltb k count) (set_number bytes n (first + k)) empty
