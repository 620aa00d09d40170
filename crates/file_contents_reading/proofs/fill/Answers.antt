-- `fill`: the three parts of the store, one behind the other.
use Rattle.file_contents_reading.proofs.StoresRead.{filled}
use Rattle.file_contents_reading.proofs.fill.Goals as goal

pub returns : goal.returns
returns c = filled _ c.head_sets-heads.ensures.0 _ _ _ _ c.fill_sets.ensures c.fill_sets-2.ensures c.fill_sets-3.ensures
