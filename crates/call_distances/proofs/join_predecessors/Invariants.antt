-- `join_predecessors`: the rows of the states passed, transposed.
use mathlib.Core.Path.{◌≡◌}
use Rattle.call_distances.specs.Transposing.{predecessor_rows}
use Rattle.call_distances.proofs.join_predecessors.Given as goal

abbrev pub invariant-loop-s : goal.invariant-loop-s
invariant-loop-s l = l.before ≡ predecessor_rows l.steps.words.now l.s
