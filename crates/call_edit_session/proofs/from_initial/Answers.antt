-- `from_initial`: what the first set of the store reaches.
use Rattle.call_edit_session.proofs.SessionAnswered.{from_initial-is}
use Rattle.call_edit_session.proofs.from_initial.Goals as goal

pub returns : goal.returns
returns c = from_initial-is _ c.of.ensures c.initial.ensures c.reached.ensures
