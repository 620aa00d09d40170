-- `run`: the cover is that of the list to which the round will add its Z.
use Rattle.core_rows.specs.Rows.{groups_in, table_on}
use Rattle.core_rounds.proofs.Running.{Running}
use Rattle.core_rounds.proofs.run.Given as goal

abbrev pub invariant-loop-count : goal.invariant-loop-count
invariant-loop-count l =
    Running (table_on l.n l.initial'.words l.fn.forbidden.words (groups_in l.groups l.g) l.steps.words.now) l.steps.words.now l.cover l.z.words
    l.count
