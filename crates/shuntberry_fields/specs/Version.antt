-- The number that `shuntberry_version` gives.
--
--   version    the first number of the library's version
use Rattle.std.specs.Prelude.{ℕ}

abbrev pub version : ℕ
version = 6
