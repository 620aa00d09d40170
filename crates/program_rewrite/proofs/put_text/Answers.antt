-- `put_text`: the file that the call left, or its refusal.
use mathlib.Core.Path.{sym, ap, ◌∙◌}
use borrow.Author.Rules.{rules}
use Rattle.file_writing.specs.WriteAnswers.{written_of}
use Rattle.program_rewrite.proofs.Texts.{text_done, text-refused}
use Rattle.program_rewrite.proofs.put_text.Goals as goal

pub returns-in-Ok : goal.returns-in-Ok
returns-in-Ok c =
    let given = c.rewrite.ensures in
    text_done _ _ given.1 (sym (ap written_of c.in-Ok.is) ∙ given.0) (search rules)

pub returns-in-Err : goal.returns-in-Err
returns-in-Err c =
    let given = c.rewrite.ensures in
    let text = rw c.from.ensures at c.write_refused.ensures in
    text-refused _ _ given.1 (sym (ap written_of c.in-Err.is) ∙ given.0) (search rules) text
