-- `has_step`: the row of the state, and the other among it.
use Rattle.call_edit_session.proofs.SessionAnswered.{has_step_is}
use Rattle.call_edit_session.proofs.has_step.Goals as goal

pub returns : goal.returns
returns c = has_step_is _ _ _ c.of.ensures c.row.ensures c.contains.ensures
