-- `narrow_back`: to narrow the rows that are left leads to the whole.
use mathlib.Core.Path.{◌≡◌}
use Rattle.call_paths.specs.Search.{narrowed_back}
use Rattle.call_paths.proofs.narrow_back.Given as goal

abbrev pub invariant-loop-i : goal.invariant-loop-i
invariant-loop-i l = narrowed_back l.steps.words.now l.i l.layers ≡ narrowed_back l.steps.words.now l.d l.initial.layers
