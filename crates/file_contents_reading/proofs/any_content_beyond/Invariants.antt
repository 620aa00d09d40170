-- `any_content_beyond`: no set passed has a state from n up.
use Prim.Native.Nat.{◌≤◌}
use mathlib.Core.Path.{◌≡◌}
use mathlib.Core.Bool.{false}
use Rattle.basics.specs.Bounds.{any}
use Rattle.model.specs.Stores.{beyond}
use Rattle.model.specs.Contents.{set_number}
use Rattle.file_contents_reading.proofs.any_content_beyond.Given as goal

abbrev pub invariant-loop-k : goal.invariant-loop-k
invariant-loop-k l = (l.k ≤ l.k-end) × (any l.k (λ i. beyond l.fn.counts.n (set_number l.bytes l.fn.counts.n i)) ≡ false)
