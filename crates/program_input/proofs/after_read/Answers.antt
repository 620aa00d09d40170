-- `after_read`: each answer from the arm that leads to it.
use Rattle.std.proofs.Common.{◌≡◌, sym, ◌∙◌}
use Rattle.program_input.specs.Reads.{after_read}
use Rattle.program_input.proofs.Results.{ended, more, full, over}
use Rattle.program_input.proofs.after_read.Goals as goal

pub returns-in-Err : goal.returns-in-Err
unfolding after_read
returns-in-Err c = rw c.in-Err.is

pub returns-in-Ok-eq0 : goal.returns-in-Ok-eq0
returns-in-Ok-eq0 c = rw c.in-Ok-eq0.is (ended _ _ _ (sym c.in-Ok-eq0.field-0-is ∙ c.in-Ok-eq0.field-0-test))

pub returns-in-Ok : goal.returns-in-Ok
returns-in-Ok c = rw c.in-Ok.is (more _ _ c.requires c.in-Ok.more (λ z. c.in-Ok.more-test.1 (rw c.in-Ok.is z)) c.if-more-left.true)

pub returns-in-Ok-2 : goal.returns-in-Ok-2
returns-in-Ok-2 c = rw c.in-Ok-2.is (full _ _ c.requires c.in-Ok-2.more (λ z. c.in-Ok.more-test.1 (rw c.in-Ok-2.is z)) c.if-more-left-2.true)

pub returns-in-Ok-3 : goal.returns-in-Ok-3
returns-in-Ok-3 c =
    let same : c.in-Ok-2.more ≡ c.in-Ok.more = cc in
    let some = λ (z : c.in-Ok.more ≡ 0). c.in-Ok.more-test.1 (rw c.in-Ok.is z) in
    rw c.in-Ok.is (over _ _ c.requires c.in-Ok.more some c.if-more-left.false (λ q. c.if-more-left-2.false (same ∙ q)))
