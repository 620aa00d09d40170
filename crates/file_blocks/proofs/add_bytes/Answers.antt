-- `add_bytes`: the bytes passed are added.
use native.Mathlib.Omega.{arith}
use mathlib.Core.Path.{sym, ◌∙◌}
use borrow.Author.Rules.{rules}
use Rattle.file_blocks.specs.Lanes.{byte_most}
use Rattle.file_blocks.proofs.Lanes.{add_none, add-fits, add-more, add-all, get_or-chunk, most_chunk}
use Rattle.file_blocks.proofs.add_bytes.Goals as goal

pub loop-l-init : goal.loop-l-init
loop-l-init c = add_none _ _

pub overflow_add-sum : goal.overflow_add-sum
overflow_add-sum c = record { fits = add-fits c.loop-l.invariant {n = byte_most} c.requires.1 (search rules) (search rules) (omega arith) }

pub loop-l-preserved : goal.loop-l-preserved
loop-l-preserved c = add-more c.loop-l.invariant (search rules) c.requires.1.long (search rules ∙ sym (get_or-chunk c.args.block.now c.args.from _ (search rules)))

pub returns : goal.returns
returns c = (add-all c.loop-l.invariant c.requires.1.long (search rules), most_chunk c.args.block.now c.args.from (search rules) (λ i. (c.shared_slice_known-1.given i).fits))
