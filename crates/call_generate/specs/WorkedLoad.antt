-- The figures of the numbers, and of one load, worked out apart from the definitions; `WorkedLoadKept.worked_load` proves it.
--
--   WorkedLoad     lags and increment; seed 12345: the numbers that are the first sums, and the rows that they give in a table of 7 states with fan-out 3
use Rattle.std.specs.Prelude.{◌≡◌, [], ◌∷◌}
use Rattle.call_generate.specs.Load.{short_lag, long_lag, increment, next_number, numbers, load}

pub record WorkedLoad : Type 0 where
  pub figures : (short_lag ≡ 24) × (long_lag ≡ 55) × (increment ≡ 2654435769)
  -- the 56th number and the 57th
  pub first_sums : (next_number 12345 (numbers 12345 55) ≡ 683154905) × (next_number 12345 (numbers 12345 56) ≡ 1697059147)
  -- the 80th, of which one term is a sum: with other lags whose sum is 79 the first sums are the same, and this one is not
  pub later_sum : next_number 12345 (numbers 12345 79) ≡ 4260083562
  -- state 0 takes the first two and 2,710,963,389, so leads to 6, 0 and 1; state 1 the next three, so leads to 2, 6 and 0
  pub rows : ((load 12345 7 3).row 0 ≡ 67 ∷ 0 ∷ 0 ∷ 0 ∷ 0 ∷ 0 ∷ 0 ∷ 0 ∷ []) × ((load 12345 7 3).row 1 ≡ 69 ∷ 0 ∷ 0 ∷ 0 ∷ 0 ∷ 0 ∷ 0 ∷ 0 ∷ [])
  -- states 0 and 6
  pub ends : ((load 12345 7 3).initial ≡ 1 ∷ 0 ∷ 0 ∷ 0 ∷ 0 ∷ 0 ∷ 0 ∷ 0 ∷ []) × ((load 12345 7 3).marked ≡ 64 ∷ 0 ∷ 0 ∷ 0 ∷ 0 ∷ 0 ∷ 0 ∷ 0 ∷ [])
