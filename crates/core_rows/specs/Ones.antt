-- What an iterator over the ones of a word gives.
use Rattle.std.specs.Prelude.{ℕ, ◌≡◌, ◌-◌, ◌<◌, Option, None, Some, bit_and}
use Rattle.std.specs.Int.Count.{count_trailing_zeros}

-- the place of the lowest one, which is left out from then on; nothing where there is none
abbrev pub gives_lowest : ℕ → Option ℕ → ℕ → Type 0
gives_lowest old None new = (old ≡ 0) × (new ≡ 0)
gives_lowest old (Some i) new = (i < 64) × (old ≡ 0 → ⊥) × (i ≡ count_trailing_zeros 64 old) × (new ≡ bit_and old (old - 1))
