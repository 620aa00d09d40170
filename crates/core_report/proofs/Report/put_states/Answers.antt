-- `Report::put_states` meets its contract. After some turns all states but those that are left are put.
use native.Mathlib.Omega.{arith}
use Rattle.model.proofs.SetsMembers.{in_bound}
use Rattle.core_report.proofs.Turns.{putting_none, putting_room, putting_turn, putting_end}
use Rattle.core_report.proofs.Report.put_states.Goals as goal

pub loop-s-init : goal.loop-s-init
loop-s-init c = rw (c.into_iter-s-iterator.ensures.into_iter_gives, c.states-s-items.ensures) (putting_none _ _)

pub put_spaced-requires : goal.put_spaced-requires
put_spaced-requires c =
    let taken = c.in-Some.ensures.steps in
    (omega (arith, in_bound (record { is = taken.0 })), putting_room c.loop-s.invariant taken c.requires)

pub loop-s-preserved : goal.loop-s-preserved
loop-s-preserved c = putting_turn c.loop-s.invariant c.in-Some.ensures.steps c.put_spaced.ensures

pub returns : goal.returns
returns c = putting_end c.loop-s.invariant c.in-None.ensures.steps
