-- `put_set`: the words passed are those of the set.
use borrow.Author.Rules.{rules}
use Rattle.core_table.proofs.StoresPut.{putting_none, putting_more, putting_all}
use Rattle.core_table.proofs.put_set.Goals as goal

pub loop-w-init : goal.loop-w-init
loop-w-init c = putting_none _ _ _ _ (search rules) (search rules)

pub loop-w-preserved : goal.loop-w-preserved
loop-w-preserved c = putting_more _ _ _ _ _ _ c.loop-w.invariant (search rules)

pub returns : goal.returns
returns c = putting_all _ _ _ _ _ _ c.loop-w.invariant (search rules)
