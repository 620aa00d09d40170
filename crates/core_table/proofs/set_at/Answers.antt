-- `set_at`: the words passed are those of the store.
use mathlib.Core.Path.{sym}
use borrow.Author.Rules.{rules}
use Rattle.model.proofs.StoresTables.{length-set_at, get_or-set_at}
use Rattle.core_state_set.proofs.SetsWords.{filling_none, filling_more, filling_all}
use Rattle.core_table.proofs.set_at.Goals as goal

pub loop-w-init : goal.loop-w-init
loop-w-init c = filling_none _ _ (length-set_at _ _ (search rules)) (search rules)

pub loop-w-preserved : goal.loop-w-preserved
loop-w-preserved c = filling_more _ _ _ _ c.loop-w.invariant _ (search rules) (sym (get_or-set_at _ _ _ (search rules)))

pub returns : goal.returns
returns c = filling_all _ _ _ _ c.loop-w.invariant (search rules)
