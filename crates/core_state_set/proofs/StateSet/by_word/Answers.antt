-- `StateSet::by_word`: a turn makes one word, and leaves the others.
use Prim.Native.Nat.{◌<◌}
use native.Mathlib.Nat.{le_refl}
use native.Mathlib.Omega.{arith}
use mathlib.Core.Path.{◌≡◌}
use Rattle.std.specs.Prelude.{◌≢◌}
use borrow.Author.Count.{below_more}
use borrow.Author.Rules.{rules}
use lib.ListN.{length}
use lib.Seq.{get_or-set_same, get_or-set_other}
use Rattle.core_state_set.specs.declared.TheConstants.{WORDS}
use Rattle.core_state_set.proofs.StateSet.by_word.Goals as goal

pub loop-w-preserved : goal.loop-w-preserved
loop-w-preserved g c =
    let so = c.loop-w.invariant in
    let at = c.loop-w.w in
    let long : length c.loop-w.x-items ≡ WORDS = search rules in
    let inside : at < length c.loop-w.x-items = omega arith in (
      below_more _ _
          (λ v h. let other : v ≢ at = omega arith in rw get_or-set_other (so.0 v h))
          (rw (get_or-set_same, ← so.1 at (le_refl at)) c.f.ensures),
      (λ v h. let other : v ≢ at = omega arith in rw get_or-set_other (so.1 v (omega arith))),
    )

pub returns : goal.returns
returns g c = λ w h. c.loop-w.invariant.0 w (omega arith)
