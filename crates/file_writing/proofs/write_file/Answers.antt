-- `write_file`: the contents joined, in blocks.
use native.Mathlib.Omega.{arith}
use borrow.Author.Rules.{rules}
use Rattle.file_blocks.specs.Forms.{joined_room}
use Rattle.file_writing.proofs.Joined.{contents-room, length-joined, blocks-joined}
use Rattle.file_writing.proofs.write_file.Goals as goal

pub join_contents-requires : goal.join_contents-requires
join_contents-requires c = contents-room (search rules) (search rules) joined_room (omega arith)

pub write_blocks-requires : goal.write_blocks-requires
write_blocks-requires c =
    let pre = c.requires in
    (omega (arith, pre.0, length-joined (search rules) (search rules) joined_room (omega arith) c.args.store.words.now c.join_contents.ensures), omega (arith, pre.0), search rules)

pub returns : goal.returns
returns c = blocks-joined _ joined_room _ _ _ _ c.join_contents.ensures c.write_blocks.ensures
