-- `successors`: of the rows that a table has.
use Rattle.core_rows.specs.Rows.{successors_by}
use Rattle.core_rows.proofs.Steps.successors.Goals as goal

pub returns : goal.returns
unfolding successors_by
returns c = c.join_rows.ensures
