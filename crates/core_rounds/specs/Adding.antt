-- The cover in its array after a set is added to the list of a round.
--
--   narrowed cover Z        the cover after Z is added to the list
--   narrowed_by L cover     the cover after the sets of L are, from the last to the first
use Rattle.std.specs.Prelude.{List, [], ◌∷◌}
use Rattle.model.specs.Sets.{Set, meet}
use Rattle.core_rows.specs.Rows.{map_at}

unfoldable pub narrowed : List Set → Set → List Set
narrowed cover Z = map_at Z (λ row. meet row Z) [] cover

unfoldable pub narrowed_by : List Set → List Set → List Set
narrowed_by [] cover = cover
narrowed_by (Z ∷ L) cover = narrowed (narrowed_by L cover) Z
