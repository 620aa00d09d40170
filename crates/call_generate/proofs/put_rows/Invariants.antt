-- `put_rows`: the rows passed stand in their places.
use Rattle.std.proofs.Common.{◌≤◌}
use Rattle.model.specs.Stores.{row_at}
use Rattle.core_table.proofs.StoresFilled.{Filling}
use Rattle.call_generate.specs.Load.{successors}
use Rattle.call_generate.proofs.put_rows.Given as goal

abbrev pub invariant-loop-s : goal.invariant-loop-s
invariant-loop-s l = (l.s ≤ l.n) × Filling row_at (successors l.numbers l.n l.f) l.s l.initial.store l.store
