-- `write_blocks`: the blocks passed are written.
use borrow.Author.Rules.{rules}
use Rattle.model.proofs.BlockLaws.{block_of-is}
use Rattle.core_table.proofs.ListsOverwritten.{parts_none, parts_more, parts_all}
use Rattle.file_writing.proofs.write_blocks.Goals as goal

pub loop-k-init : goal.loop-k-init
loop-k-init c = (search rules, parts_none _ _)

pub loop-k-preserved : goal.loop-k-preserved
loop-k-preserved c = (search rules, parts_more _ _ (λ j l. (block_of-is _ _ j).long) c.loop-k.invariant.1 _ c.write_block.ensures (search rules))

pub returns : goal.returns
returns c = parts_all _ _ _ _ _ (search rules) (search rules) c.loop-k.invariant.1
