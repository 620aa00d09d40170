-- Sets joined.
--
--   union_of count f     the union of f 0, f 1, .., f (count − 1)
use Rattle.std.specs.Prelude.{ℕ, zero, suc}
use Rattle.model.specs.Sets.{Set, empty, union}

unfoldable pub union_of : ℕ → (ℕ → Set) → Set
union_of zero f = empty
union_of (suc count) f = union (union_of count f) (f count)
