-- `rewrite`: what write gives for the table that read_old put into the store, or read_old's refusal.
use mathlib.Core.Path.{◌∙◌}
use borrow.Author.Rules.{rules}
use Rattle.core_refusals.proofs.RefusalsPassed.{passed_on}
use Rattle.call_rewrite.proofs.RewriteAnswered.{rewrite-refused, rewrite-written}
use Rattle.call_rewrite.proofs.rewrite.Goals as goal

pub returns-in_err-size : goal.returns-in_err-size
returns-in_err-size c = rw (passed_on _ c.from_residual.ensures.1) (rewrite-refused _ c.in_err-size.ensures.0 _)

pub returns : goal.returns
returns c =
    let new =
    rewrite-written _ _ (search rules) c.in_ok-size.ensures.0 c.in_ok-size.ensures.1 c.rest_dead_ends.ensures _ in
    (c.write.ensures.0 ∙ new.0, c.write.ensures.1 ∙ new.1)
