-- `rest_dead_ends`: the states in hold of the empty set.
use Rattle.call_rewrite.proofs.StoresRested.{rested_by}
use Rattle.call_rewrite.proofs.rest_dead_ends.Goals as goal

pub returns : goal.returns
returns c = rested_by _ _ _ c.of-steps.ensures c.first_states.ensures c.empty.ensures c.meet_hold-dead.ensures c.put_set.ensures
