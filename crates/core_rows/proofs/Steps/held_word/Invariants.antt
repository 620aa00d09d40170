-- `held_word`: what is gathered, with what passes of the bits that are left, is the whole.
use Prim.Native.Nat.{◌+◌, ◌*◌}
use lib.ListN.{get_or}
use Rattle.model.specs.Sets.{subset}
use Rattle.core_rows.specs.Rows.{row_in}
use Rattle.core_rows.proofs.SetsHeld.{Gathering}
use Rattle.core_rows.proofs.Steps.held_word.Given as goal

abbrev pub invariant-loop-i : goal.invariant-loop-i
invariant-loop-i l = Gathering (λ i. subset (row_in l.self.words.now (64 * l.w + i)) l.y.words) (get_or l.fn.x.words l.w 0) l.i-iterator.0 l.kept
