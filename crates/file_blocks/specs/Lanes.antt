-- The bytes of a block summed in lanes, side by side.
--
--   lanes, chunks        the bytes of a chunk, one to a lane, and how many whole chunks stand before the check
--   byte_most, lane_most   the greatest byte, and the greatest number that a lane can hold
--   lanes_sum at sums turns n
--                        the weighted sum that the first n lanes of two rows stand for: what is in `sums` counts as at its place in the chunk that begins at
--                        `at`, and each of `turns` as one chunk more
--   plus xs ys           two rows of lanes added, lane by lane
--   Most m xs            a row of lanes, none of which has more than m
use Rattle.std.specs.Prelude.{ℕ, zero, suc, ◌+◌, ◌*◌, ◌/◌, ◌≤◌, ◌<◌, ◌≡◌, List, length, get_or}
use Rattle.basics.specs.Bounds.{tabulate}
use Rattle.model.specs.Blocks.{check_at}

abbrev pub lanes : ℕ
lanes = 64

abbrev pub chunks : ℕ
chunks = check_at / lanes

abbrev pub byte_most : ℕ
byte_most = 255

abbrev pub lane_most : ℕ
lane_most = 65535

-- A byte that is summed once counts as at its place in that chunk, and each turn as one chunk more.
unfoldable pub lanes_sum : ℕ → List ℕ → List ℕ → ℕ → ℕ
lanes_sum at sums turns zero = 0
lanes_sum at sums turns (suc n) = lanes_sum at sums turns n + (lanes * get_or turns n 0 + (at + n + 1) * get_or sums n 0)

unfoldable pub plus : List ℕ → List ℕ → List ℕ
plus xs ys = tabulate lanes (λ l. get_or xs l 0 + get_or ys l 0)

pub record Most (m : ℕ) (xs : List ℕ) : Type 0 where
  pub long : length xs ≡ lanes
  pub each : (l : ℕ) → l < lanes → get_or xs l 0 ≤ m
