-- `StateSet::count`: the number of states in the words passed.
use Rattle.core_state_set.proofs.SetsOnes.{Counting}
use Rattle.core_state_set.proofs.StateSet.count.Given as goal

abbrev pub invariant-loop-word : goal.invariant-loop-word
invariant-loop-word l = Counting l.word-items l.word-index l.states
