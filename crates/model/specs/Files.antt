-- The file of a table (the specification, "Files").
--
--   block_file form site d     the contents of a dialogue in blocks; block_file_length form n g: its bytes
--   file_of form site d        the file of a dialogue for a site; file_length form n g: its bytes
--   max_file                   the length of the largest file, of either form
use Rattle.std.specs.Prelude.{ℕ, ◌*◌, cond, List, [], eqb, length}
use Rattle.model.specs.Sets.{max_states}
use Rattle.model.specs.Tables.{Dialogue}
use Rattle.basics.specs.Bounds.{concat}
use Rattle.model.specs.Stores.{max_groups}
use Rattle.model.specs.Blocks.{block_bytes, blocks_for, block_of}
use Rattle.model.specs.Contents.{Form, new_form, contents, content_length}

unfoldable pub block_file : Form → ℕ → Dialogue → List ℕ
block_file form site d = let bytes = contents form d in concat (blocks_for (length bytes)) (block_of site bytes)

abbrev pub block_file_length : Form → ℕ → ℕ → ℕ
block_file_length form n g = block_bytes * blocks_for (content_length form n g)

-- A table without states, an untouched draft, is a file of no bytes, whatever the site.
unfoldable pub file_of : Form → ℕ → Dialogue → List ℕ
file_of form site d = cond (eqb d.n 0) [] (block_file form site d)

unfoldable pub file_length : Form → ℕ → ℕ → ℕ
file_length form n g = cond (eqb n 0) 0 (block_file_length form n g)

-- n and g at their greatest.
abbrev pub max_file : ℕ
max_file = block_file_length new_form max_states max_groups
