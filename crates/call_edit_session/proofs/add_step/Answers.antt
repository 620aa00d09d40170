-- `add_step`: the grounds, the step that exists, then the step added, from a state outside the set and from one in it.
use mathlib.Core.Path.{refl, sym, ◌∙◌}
use Rattle.core_refusals.proofs.RefusalsPassed.{passed_on}
use Rattle.call_edit_session.specs.Edits.{add}
use Rattle.call_edit_session.proofs.RowsEdited.{edited-longer}
use Rattle.call_edit_session.proofs.SessionAnswered.{accepted, in_range, after-added, after-unreached, added-nothing, added_changes, edit-refused, edit-nothing, edit_changes}
use Rattle.call_edit_session.proofs.add_step.Goals as goal

pub returns-in_err-held : goal.returns-in_err-held
returns-in_err-held c = rw (passed_on _ c.from_residual.ensures.1) (edit-refused _ _ _ (add _ _) _ _ _ c.in_err-held.ensures.0 refl)

pub has_step-requires : goal.has_step-requires
has_step-requires c = (in_range _ _ _ _ _ c.in_ok-held.ensures.0).0

pub returns-then-has_step : goal.returns-then-has_step
returns-then-has_step c =
    edit-nothing _ _ _ (add _ _) _ _ _ c.in_ok-held.ensures.0
    (added-nothing _ _ _ (rw c.in_ok-held.ensures.1 at c.has_step.ensures) c.if-has_step.true) refl refl

pub set_step-requires : goal.set_step-requires
set_step-requires c = in_range _ _ _ _ _ c.in_ok-held.ensures.0

pub returns-then-not-contains : goal.returns-then-not-contains
returns-then-not-contains c =
    edit_changes _ _ _ (add _ _) _ _ _ c.in_ok-held.ensures.0
    (added_changes _ _ _ (rw c.in_ok-held.ensures.1 at c.has_step.ensures) c.if-has_step.false)
    (after-unreached _ _ _ _ _ _ (sym c.contains.ensures ∙ c.if-not-contains.true))
    c.set_step.ensures

pub invariant_of-of : goal.invariant_of-of
invariant_of-of c =
    let h = accepted _ _ _ _ _ c.in_ok-held.ensures.0 in
    record { long = edited-longer _ _ _ (add _ _) h.0 h.1 h.2 c.set_step.ensures }

pub returns : goal.returns
returns c =
    let h = accepted _ _ _ _ _ c.in_ok-held.ensures.0 in
    edit_changes _ _ _ (add _ _) _ _ _ c.in_ok-held.ensures.0
    (added_changes _ _ _ (rw c.in_ok-held.ensures.1 at c.has_step.ensures) c.if-has_step.false)
    (after-added _ _ _ _ _ _ h.0 h.1 h.2 c.set_step.ensures (sym c.contains.ensures ∙ c.if-not-contains.false)
    c.of.ensures c.single.ensures c.reached-found.ensures c.union.ensures)
    c.set_step.ensures
