-- `decide`: the grounds, on which the path buffer is left alone,
-- then the answer for each ending of the rounds.
use Rattle.core_refusals.proofs.RefusalsPassed.{passed_on}
use Rattle.core_rows.proofs.RowsLent.{groups-long}
use Rattle.call_paths.proofs.Groups.{holds-table, store_path}
use Rattle.call_decide.proofs.DecideAnswered.{ended_is, refused-answer, accepted, safe-answer, unsafe-answer, undecided-answer}
use Rattle.call_decide.proofs.decide.Goals as goal

pub returns-in_err-store : goal.returns-in_err-store
returns-in_err-store c = rw (passed_on _ c.from_residual.ensures.1) (refused-answer _ _ _ _ _ _ c.in_err-store.ensures.0)

pub run-ending-requires : goal.run-ending-requires
run-ending-requires c =
    let ok = c.in_ok-store.ensures in
    let e = (accepted _ _ _ _ _ ok.0).0 in
    rw ok.1 (e.few, groups-long c.args.store.now e.long)

pub find_path-requires : goal.find_path-requires
find_path-requires c =
    let ok = c.in_ok-store.ensures in
    let e = accepted _ _ _ _ _ ok.0 in
    (rw (c.of-steps.ensures, ok.1) (holds-table _ _ _ (rw ok.1 at c.forbidden-forbidden.ensures) (rw ok.1 at c.initial-initial.ensures) e.0), e.1)

pub returns-in-Safe : goal.returns-in-Safe
returns-in-Safe c =
    let ok = c.in_ok-store.ensures in
    safe-answer _ _ _ _ _ ok.0
    (ended_is _ _ _ _ (rw ok.1 at c.forbidden-forbidden.ensures) (rw ok.1 at c.initial-initial.ensures) (rw (c.of-steps.ensures, ok.1) at c.in-Safe.ensures)) c.count.ensures

pub returns-in-Unsafe : goal.returns-in-Unsafe
returns-in-Unsafe c =
    let ok = c.in_ok-store.ensures in
    unsafe-answer _ _ _ _ _ ok.0
    (ended_is _ _ _ _ (rw ok.1 at c.forbidden-forbidden.ensures) (rw ok.1 at c.initial-initial.ensures) (rw (c.of-steps.ensures, ok.1) at c.in-Unsafe.ensures))
    (store_path _ _ _ (rw ok.1 at c.forbidden-forbidden.ensures) (rw ok.1 at c.initial-initial.ensures) _ (rw (c.of-steps.ensures, ok.1) at c.find_path.ensures)) c.unwrap_or.ensures

pub returns-in-Undecided : goal.returns-in-Undecided
returns-in-Undecided c =
    let ok = c.in_ok-store.ensures in
    undecided-answer _ _ _ _ _ ok.0
    (ended_is _ _ _ _ (rw ok.1 at c.forbidden-forbidden.ensures) (rw ok.1 at c.initial-initial.ensures) (rw (c.of-steps.ensures, ok.1) at c.in-Undecided.ensures))
