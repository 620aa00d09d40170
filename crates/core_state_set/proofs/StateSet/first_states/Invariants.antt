-- `StateSet::first_states`: the words passed are those of the first n states.
use Rattle.model.specs.Sets.{first_states}
use Rattle.core_state_set.proofs.SetsWords.{Filling}
use Rattle.core_state_set.proofs.StateSet.first_states.Given as goal

abbrev pub invariant-loop-w : goal.invariant-loop-w
invariant-loop-w l = Filling (first_states l.n) l.initial.word-items l.w l.word-items
