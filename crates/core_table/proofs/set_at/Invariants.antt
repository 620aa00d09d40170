-- `set_at`: the words passed are those of the store.
use Rattle.model.specs.Stores.{set_at}
use Rattle.core_state_set.proofs.SetsWords.{Filling}
use Rattle.core_table.proofs.set_at.Given as goal

abbrev pub invariant-loop-w : goal.invariant-loop-w
invariant-loop-w l = Filling (set_at l.store l.at) l.initial.word-items l.w l.word-items
