-- `backward`: s is the cover of the states that stay, which step to none outside the set before it.
use mathlib.Core.Path.{◌≡◌}
use Rattle.model.specs.Sets.{size}
use Rattle.core_fixpoints.proofs.Staying.{Staying}
use Rattle.core_fixpoints.proofs.backward.Given as goal

abbrev pub invariant-loop-smaller : goal.invariant-loop-smaller
invariant-loop-smaller l =
    Staying l.fn.r.steps.words.now l.cover.rows.now l.fn.r.x.words l.staying.x.words l.s.words × (l.staying.steps.words.now ≡ l.fn.r.steps.words.now)

abbrev pub decreases-loop-smaller : goal.decreases-loop-smaller
decreases-loop-smaller l = size l.s.words
