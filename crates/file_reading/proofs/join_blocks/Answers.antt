-- `join_blocks`: the blocks passed have no fault, and their contents are joined.
use native.Mathlib.Omega.{arith}
use mathlib.Core.Path.{refl, ap}
use borrow.Author.Rules.{rules}
use lib.ListN.{length-take, length-drop}
use Rattle.core_refusals.specs.Refusals.{number_of}
use Rattle.core_refusals.proofs.RefusalNumbers.{number_some}
use Rattle.core_refusals.proofs.RefusalsPassed.{passed_on}
use Rattle.file_reading.proofs.BlocksJoined.{joining_none, joining_stop, joining_more, joining_all}
use Rattle.file_reading.proofs.join_blocks.Goals as goal

pub loop-k-init : goal.loop-k-init
loop-k-init c = joining_none _ _ _

pub check_block-requires : goal.check_block-requires
check_block-requires c = simp (length-take, length-drop) (omega (arith, c.loop-k-test.true))

pub returns-in_err-check_block : goal.returns-in_err-check_block
returns-in_err-check_block c =
    joining_stop c.loop-k.invariant (search rules) (c.in_err-check_block.ensures) (number_some _) (ap number_of (passed_on _ c.from_residual.ensures.1))

pub loop-k-preserved : goal.loop-k-preserved
loop-k-preserved c = joining_more c.loop-k.invariant (search rules) (c.in_ok-check_block.ensures) _ refl c.copy_content.ensures (search rules)

pub returns : goal.returns
returns c = joining_all c.loop-k.invariant (search rules)
