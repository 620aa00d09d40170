-- `conclude`: the tests of steps 2 and 4, of R and S.
use Rattle.core_fixpoints.proofs.Bridge.{forward-closed}
use Rattle.core_fixpoints.proofs.Leaving.{leads_start}
use Rattle.core_rounds.proofs.Running.{conclude_safe, conclude_unsafe, conclude_open}
use Rattle.core_rounds.proofs.conclude.Goals as goal

pub returns-then-is_subset : goal.returns-then-is_subset
returns-then-is_subset c =
    conclude_safe c.forward-reached.ensures.0 c.forward-reached.ensures.3 c.is_subset.ensures c.requires.is-cover c.if-is_subset.true

pub invariant_of-leading : goal.invariant_of-leading
invariant_of-leading c = record { leads = leads_start _ _ _ _ _ c.requires c.forward-reached.ensures.0 c.forward-reached.ensures.3 }

pub backward-held-requires : goal.backward-held-requires
backward-held-requires c = forward-closed _ _ c.requires.is-cover _ _ c.forward-reached.ensures.0

pub returns-then-not-is_subset : goal.returns-then-not-is_subset
returns-then-not-is_subset c =
    conclude_unsafe c.forward-reached.ensures.0 c.forward-reached.ensures.3 c.is_subset.ensures c.backward-held.ensures.0 c.if-is_subset.false
    c.is_subset-2.ensures c.if-not-is_subset.true

pub returns : goal.returns
returns c =
    conclude_open c.forward-reached.ensures.0 c.forward-reached.ensures.3 c.is_subset.ensures c.backward-held.ensures.0 c.if-is_subset.false
    c.is_subset-2.ensures c.if-not-is_subset.false c.backward-held.ensures.1
