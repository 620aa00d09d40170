-- `put_row`: past the end nothing is set.
use mathlib.Core.Path.{sym}
use lib.Seq.{set_out}
use Rattle.call_paths.proofs.put_row.Goals as goal

pub returns-else-i-layers : goal.returns-else-i-layers
returns-else-i-layers c = sym (set_out _ _ _ c.if-i-layers.false)
