-- `check`: what belongs to the table that read put into the store, or to read's refusal; else the call's own refusal.
use mathlib.Core.Path.{sym, ap, ◌∙◌}
use borrow.Author.Rules.{rules}
use Rattle.file_reading.specs.ReadAnswers.{read_of}
use Rattle.call_check.proofs.Reports.{file-refused, file-read, called, site_refused, room-refused}
use Rattle.call_check.proofs.check.Goals as goal

pub returns-then-site-gt-MAX_SITE : goal.returns-then-site-gt-MAX_SITE
returns-then-site-gt-MAX_SITE c = site_refused _ _ _ (search rules)

pub returns-then-output-lt-CHECK_TEXT : goal.returns-then-output-lt-CHECK_TEXT
returns-then-output-lt-CHECK_TEXT c = room-refused _ _ _ (search rules) (search rules)

pub returns-in-Ok : goal.returns-in-Ok
returns-in-Ok c =
    called _ _ _ (search rules) (search rules)
    (file-read _ _ _ (sym (ap read_of c.in-Ok.is) ∙ c.read.ensures.0) c.read.ensures.1 c.check_table.ensures)

pub returns-in-Err : goal.returns-in-Err
returns-in-Err c =
    called _ _ _ (search rules) (search rules)
    (file-refused _ _ _ (sym (ap read_of c.in-Err.is) ∙ c.read.ensures.0) c.refused_file.ensures)
