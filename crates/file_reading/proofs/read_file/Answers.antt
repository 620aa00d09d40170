-- `read_file`: the length, the blocks, and then the contents.
use native.Mathlib.Omega.{arith}
use mathlib.Core.Path.{refl}
use mathlib.Core.List.{[], ◌∷◌}
use borrow.Author.Rules.{rules}
use Rattle.core_refusals.proofs.RefusalNumbers.{number_some}
use Rattle.core_refusals.proofs.RefusalsPassed.{passed_on}
use Rattle.model.specs.Calls.{blocks_grounds, file_grounds}
use Rattle.basics.proofs.RefusalLaws.{refuse-append}
use Rattle.model.proofs.CallLaws.{blocks-numbered}
use Rattle.file_blocks.specs.Forms.{joined_room}
use Rattle.file_reading.proofs.ReadGrounds.{reads_refused, reads_first, reads_behind, reads_past, part-block, long_input, whole_blocks, zeros_same, joined-room, reads_joined}
use Rattle.file_reading.proofs.read_file.Goals as goal

pub returns-then-input-ne0 : goal.returns-then-input-ne0
unfolding file_grounds
returns-then-input-ne0 c = reads_first 0 _ (search (rules, part-block)) refl

pub returns-then-input-gt-MAX_FILE : goal.returns-then-input-gt-MAX_FILE
unfolding file_grounds
returns-then-input-gt-MAX_FILE c = reads_first 0 _ (search (rules, long_input)) refl

pub join_blocks-requires : goal.join_blocks-requires
unfolding file_grounds
join_blocks-requires c = joined-room joined_room (omega arith) c.if-input-gt-MAX_FILE.false

pub returns-in_err-join_blocks : goal.returns-in_err-join_blocks
unfolding file_grounds
returns-in_err-join_blocks c =
    let join = c.in_err-join_blocks.ensures in
    rw (passed_on _ c.from_residual.ensures.1)
    (reads_behind (_ ∷ []) _ (search (rules, whole_blocks), tt) (reads_refused _ (refuse-append (blocks_grounds _ _) _ join.first_ground (number_some _))))

pub returns : goal.returns
unfolding file_grounds
returns c =
    let join = c.in_ok-join_blocks.ensures in
    reads_behind (_ ∷ []) _ (search (rules, whole_blocks), tt)
    (reads_past (blocks_grounds _ _) _ (blocks-numbered _ _) join.first_ground refl
    (reads_joined _ _ (zeros_same _ joined_room (join.joined refl)) c.le16_at-n.ensures c.le16_at-second.ensures c.read_contents.ensures))
