-- `write_block`: number, content and check, one behind the other.
use mathlib.Core.Path.{refl, ◌∙◌}
use Rattle.model.specs.Blocks.{check_at}
use Rattle.core_table.proofs.ListsOverwritten.{overwrite_lent}
use Rattle.file_writing.proofs.WriteLaws.{length_block_front, block_written}
use Rattle.file_writing.proofs.write_block.Goals as goal

pub returns : goal.returns
returns c =
    let inside = c.requires.0 in
    let front = overwrite_lent _ _ _ _ _ 2 refl c.write_le16.ensures c.copy_content.ensures in
    overwrite_lent _ _ _ _ _ check_at (length_block_front _ _ inside) front c.write_le16-2.ensures ∙ block_written _ _ inside _ _ _ _ front c.checksum_of-check.ensures
