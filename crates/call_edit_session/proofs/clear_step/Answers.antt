-- `clear_step`: the bit of the step, cleared in its word.
use borrow.Author.Rules.{rules}
use Rattle.call_edit_session.proofs.RowsEdited.{clear_step_word}
use Rattle.call_edit_session.proofs.clear_step.Goals as goal

pub returns : goal.returns
returns c = clear_step_word _ _ _ (search rules) (search rules) (search rules) (λ i. (c.slice_known-1.given i).fits)
