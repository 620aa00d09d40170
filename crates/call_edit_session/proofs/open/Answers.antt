-- `open`: the grounds, then what the initial states reach.
use Rattle.core_refusals.proofs.RefusalsPassed.{passed_on}
use Rattle.call_edit_session.proofs.SessionAnswered.{accepted_open, reached-opened, open_refused, open_answered}
use Rattle.call_edit_session.proofs.open.Goals as goal

pub returns-in_err-store : goal.returns-in_err-store
returns-in_err-store c = rw (passed_on _ c.from_residual.ensures.1) (open_refused _ _ _ _ c.in_err-store.ensures.0)

pub returns : goal.returns
returns c =
    let ok = c.in_ok-store.ensures in
    open_answered _ _ _ _ ok.0 (reached-opened _ _ _ (accepted_open _ _ _ ok.0) (rw ok.1 at c.from_initial.ensures))
