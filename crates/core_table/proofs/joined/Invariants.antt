-- `joined`: what is joined is the union of the sets passed.
use Prim.Native.Nat.{◌+◌, ◌*◌, ◌≤◌}
use mathlib.Core.Path.{◌≡◌}
use Rattle.model.specs.Sets.{WORDS}
use Rattle.model.specs.Stores.{set_at}
use Rattle.core_table.specs.Joining.{union_of}
use Rattle.core_table.proofs.joined.Given as goal

abbrev pub invariant-loop-j : goal.invariant-loop-j
invariant-loop-j l = (l.j ≤ l.count) × (l.out.words ≡ union_of l.j (λ i. set_at l.store (l.at + WORDS * i)))
