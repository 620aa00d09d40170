-- `find_path`: where no layer holds a forbidden state, there is no path; else the walk through what is kept of the layers is it.
use mathlib.Core.Path.{refl}
use Rattle.call_paths.proofs.PathsFound.{find_none, find_short, find_writable, find_some}
use Rattle.call_paths.proofs.find_path.Goals as goal

pub narrow_back-requires : goal.narrow_back-requires
narrow_back-requires c = find_short c.requires.0 _ _ c.in_ok-d.ensures refl

pub write_path-requires : goal.write_path-requires
write_path-requires c = find_writable c.requires.0 _ _ c.in_ok-d.ensures c.narrow_back.ensures c.smallest_in_layer-first.ensures c.requires.1

pub returns-in_err-d : goal.returns-in_err-d
returns-in_err-d c = rw c.from_residual.ensures (find_none c.requires.0 _ c.in_err-d.ensures.0)

pub returns : goal.returns
returns c =
    find_some c.requires.0 _ _ c.in_ok-d.ensures c.narrow_back.ensures _ c.smallest_in_layer-first.ensures c.requires.1
    c.write_path.ensures
