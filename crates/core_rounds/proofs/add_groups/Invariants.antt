-- `add_groups`: with the first j groups, which are left, added, all are.
use mathlib.Core.Path.{◌≡◌}
use Rattle.core_rows.specs.Rows.{groups_in}
use Rattle.core_rounds.specs.Adding.{narrowed_by}
use Rattle.core_rounds.proofs.add_groups.Given as goal

abbrev pub invariant-loop-j : goal.invariant-loop-j
invariant-loop-j l = narrowed_by (groups_in l.groups l.j) l.cover ≡ narrowed_by (groups_in l.groups l.g) l.fn.cover
