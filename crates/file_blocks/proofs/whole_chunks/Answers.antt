-- `whole_chunks`: the chunks passed are in the lanes.
use native.Mathlib.Omega.{arith}
use mathlib.Core.Path.{◌∙◌}
use borrow.Author.Rules.{rules}
use Rattle.file_blocks.proofs.Lanes.{most_up}
use Rattle.file_blocks.proofs.Chunks.{chunk_none, chunk_more, chunk_all}
use Rattle.file_blocks.proofs.whole_chunks.Goals as goal

pub loop-k-init : goal.loop-k-init
loop-k-init c = chunk_none _

pub add_lanes-requires : goal.add_lanes-requires
add_lanes-requires c = let so = c.loop-k.invariant in (most_up so.low (omega arith), most_up so.low_turns (omega arith))

pub add_bytes-requires : goal.add_bytes-requires
add_bytes-requires c = (search rules, most_up c.loop-k.invariant.low (omega arith))

pub loop-k-preserved : goal.loop-k-preserved
loop-k-preserved c =
    chunk_more c.loop-k.invariant (search rules) c.add_lanes.ensures c.add_bytes.ensures.0
    c.add_bytes.ensures.1

pub returns : goal.returns
returns c = (c.lanes_sum.ensures.0 ∙ chunk_all c.loop-k.invariant (search rules), search rules)
