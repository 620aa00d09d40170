-- `put_text`: what the call put there; it is not refused.
use mathlib.Core.Path.{sym, ap, ◌∙◌}
use borrow.Author.Rules.{rules}
use Rattle.call_check.specs.CheckAnswers.{checked_of}
use Rattle.program_check.proofs.Texts.{text_put, never-refused}
use Rattle.program_check.proofs.put_text.Goals as goal

pub returns-in-Ok : goal.returns-in-Ok
returns-in-Ok c =
    let given = c.check.ensures in
    text_put _ _ (search rules) (sym (ap checked_of c.in-Ok.is) ∙ given.0) given.1 (search rules)

pub returns-in-Err : goal.returns-in-Err
returns-in-Err c =
    let given = c.check.ensures in
    absurd (never-refused _ (sym (ap checked_of c.in-Err.is) ∙ given.0) (search rules))
