-- `next`: what is left stays the same while words without a state are passed. The measure: the words that are left.
use Prim.Native.Nat.{◌-◌}
use mathlib.Core.Path.{◌≡◌}
use Rattle.model.specs.Sets.{WORDS}
use Rattle.core_state_set.specs.WordSets.{left_of}
use Rattle.core_state_set.proofs.StatesIterator.next.Given as goal

abbrev pub invariant-loop-self : goal.invariant-loop-self
invariant-loop-self l = left_of l.self.w l.self.rest l.self.words ≡ left_of l.initial.self.w l.initial.self.rest l.initial.self.words

abbrev pub decreases-loop-self : goal.decreases-loop-self
decreases-loop-self l = WORDS - l.self.w
