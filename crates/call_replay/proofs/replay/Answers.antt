-- `replay`: the grounds in their order, then what was followed of the log beside what can be reached.
use native.Mathlib.Omega.{arith}
use Rattle.model.proofs.SetsCounted.{size-most}
use Rattle.core_refusals.proofs.RefusalsPassed.{passed_on}
use Rattle.call_replay.proofs.ReplayAnswered.{refused-answer, walk-answer}
use Rattle.call_replay.proofs.replay.Goals as goal

pub returns-in_err-store : goal.returns-in_err-store
returns-in_err-store c = rw (passed_on _ c.from_residual.ensures.1) (refused-answer _ _ _ _ _ c.in_err-store.ensures.0)

pub coverage-covered-requires : goal.coverage-covered-requires
coverage-covered-requires c = omega (arith, c.count-seen.ensures, size-most c.follow-walked.result.seen.words)

pub returns : goal.returns
returns c =
    let ok = c.in_ok-store.ensures in
    walk-answer _ _ _ _ ok.0
    (rw ok.1 at c.follow-walked.ensures.0) c.follow-walked.ensures.1 c.count-seen.ensures
    (rw ok.1 at c.of.ensures) (rw ok.1 at c.initial.ensures) c.reached.ensures c.count-reached.ensures c.coverage-covered.ensures.0 c.coverage-covered.ensures.1
