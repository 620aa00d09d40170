-- `put_set`: the words passed are those of the set.
use Rattle.model.specs.Sets.{WORDS}
use Rattle.core_table.proofs.StoresPut.{Putting}
use Rattle.core_table.proofs.put_set.Given as goal

abbrev pub invariant-loop-w : goal.invariant-loop-w
invariant-loop-w l = Putting l.at l.word-items WORDS l.w l.initial.store l.store
