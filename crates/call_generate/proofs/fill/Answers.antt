-- `fill`: the store cleared, then initial set, marked set and rows, one after the other.
use Rattle.std.proofs.Common.{rules}
use Rattle.call_generate.proofs.StoresGenerated.{filled}
use Rattle.call_generate.proofs.fill.Goals as goal

pub returns : goal.returns
returns c =
    filled _ _ _ (search rules) _ (search rules) c.clear.ensures c.put_set.ensures
    c.single.ensures c.put_set-2.ensures c.single-2.ensures c.put_rows.ensures
