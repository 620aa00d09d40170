-- The rows transposed: for each state the states that step to it.
--
--   with_bit s words             the words with the bit of state s
--   predecessors_in rows n u     the states below n that step to u
--   predecessor_rows rows n      those of each state, which are the rows transposed
use Rattle.std.specs.Prelude.{ℕ, ◌*◌, ◌/◌, ◌%◌, ◌^◌, List, get_or, set as replaced}
use Rattle.std.specs.Int.Bits.{bit_or}
use Rattle.basics.specs.Bounds.{tabulate}
use Rattle.model.specs.Sets.{max_states, Set, member, states}
use Rattle.core_rows.specs.Rows.{row_in}

abbrev pub with_bit : ℕ → Set → Set
with_bit s words = replaced words (s / 64) (bit_or (get_or words (s / 64) 0) (1 * 2 ^ (s % 64) % 2 ^ 64))

unfoldable pub predecessors_in : List ℕ → ℕ → ℕ → Set
predecessors_in rows n u = states n (λ s. member (row_in rows s) u)

unfoldable pub predecessor_rows : List ℕ → ℕ → List Set
predecessor_rows rows n = tabulate max_states (predecessors_in rows n)
