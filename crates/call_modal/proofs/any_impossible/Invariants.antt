-- `any_impossible`: no state passed has a certain step that is not possible.
use Prim.Native.Nat.{◌≤◌}
use mathlib.Core.Path.{◌≡◌}
use mathlib.Core.Bool.{false}
use Rattle.call_modal.specs.Modal.{certain_impossible}
use Rattle.call_modal.proofs.any_impossible.Given as goal

abbrev pub invariant-loop-s : goal.invariant-loop-s
invariant-loop-s l = (l.s ≤ l.n) × (certain_impossible l.store.words.now l.s l.possible.words.now ≡ false)
