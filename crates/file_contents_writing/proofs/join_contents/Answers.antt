-- `join_contents`: the header, then the sets.
use mathlib.Core.Path.{refl, ◌∙◌}
use Rattle.model.specs.Contents.{header_bytes}
use Rattle.core_table.proofs.ListsOverwritten.{overwrite_lent}
use Rattle.file_contents_writing.proofs.ContentsJoined.{contents-written}
use Rattle.file_contents_writing.proofs.join_contents.Goals as goal

pub returns : goal.returns
returns c =
    let header = overwrite_lent _ _ _ _ _ 2 refl c.write_le16.ensures c.write_le16-2.ensures in
    overwrite_lent _ _ _ _ _ header_bytes refl header c.join_sets.ensures ∙ contents-written _ _ _ _ c.added.ensures.0
