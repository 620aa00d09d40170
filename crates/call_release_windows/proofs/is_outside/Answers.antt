-- `is_outside`: the three tests of the definition.
use Rattle.call_release_windows.specs.Windows.{outside}
use Rattle.call_release_windows.proofs.is_outside.Goals as goal

pub returns : goal.returns
unfolding outside
returns c = rw (c.from-window.ensures.0, c.from-window.ensures.1)
