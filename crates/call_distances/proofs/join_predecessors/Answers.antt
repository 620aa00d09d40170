-- `join_predecessors`: the rows of the states passed, transposed.
use native.Mathlib.Nat.{le_antisymm}
use mathlib.Core.Path.{ap, ◌∙◌}
use borrow.Author.Rules.{rules}
use Rattle.call_distances.specs.Transposing.{predecessor_rows}
use Rattle.call_distances.proofs.RowsTransposed.{transposed_turn}
use Rattle.call_distances.proofs.join_predecessors.Goals as goal

pub loop-s-preserved : goal.loop-s-preserved
loop-s-preserved c = transposed_turn _ _ (search rules) c.row.ensures c.join_predecessor.ensures c.loop-s.invariant

pub returns : goal.returns
returns c = c.loop-s.invariant ∙ ap (predecessor_rows _) (le_antisymm (search rules) (search rules))
