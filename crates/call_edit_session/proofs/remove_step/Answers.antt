-- `remove_step`: the grounds, the step that does not exist, then the step removed and the set worked out afresh.
use mathlib.Core.Path.{refl}
use Rattle.core_refusals.proofs.RefusalsPassed.{passed_on}
use Rattle.call_edit_session.specs.Edits.{remove}
use Rattle.call_edit_session.proofs.RowsEdited.{edited-longer}
use Rattle.call_edit_session.proofs.SessionAnswered.{accepted, in_range, after-removed, removed-nothing, removed_changes, edit-refused, edit-nothing, edit_changes}
use Rattle.call_edit_session.proofs.remove_step.Goals as goal

pub returns-in_err-held : goal.returns-in_err-held
returns-in_err-held c = rw (passed_on _ c.from_residual.ensures.1) (edit-refused _ _ _ (remove _ _) _ _ _ c.in_err-held.ensures.0 refl)

pub has_step-requires : goal.has_step-requires
has_step-requires c = (in_range _ _ _ _ _ c.in_ok-held.ensures.0).0

pub returns-then-not-has_step : goal.returns-then-not-has_step
returns-then-not-has_step c =
    edit-nothing _ _ _ (remove _ _) _ _ _ c.in_ok-held.ensures.0
    (removed-nothing _ _ _ (rw c.in_ok-held.ensures.1 at c.has_step.ensures) c.if-not-has_step.true) refl refl

pub clear_step-requires : goal.clear_step-requires
clear_step-requires c = in_range _ _ _ _ _ c.in_ok-held.ensures.0

pub invariant_of-from_initial : goal.invariant_of-from_initial
invariant_of-from_initial c =
    let h = accepted _ _ _ _ _ c.in_ok-held.ensures.0 in
    record { long = edited-longer _ _ _ (remove _ _) h.0 h.1 h.2 c.clear_step.ensures }

pub returns : goal.returns
returns c =
    let h = accepted _ _ _ _ _ c.in_ok-held.ensures.0 in
    edit_changes _ _ _ (remove _ _) _ _ _ c.in_ok-held.ensures.0
    (removed_changes _ _ _ (rw c.in_ok-held.ensures.1 at c.has_step.ensures) c.if-not-has_step.false)
    (after-removed _ _ _ _ _ _ h.0 h.1 h.2 c.clear_step.ensures c.from_initial-found.ensures)
    c.clear_step.ensures
