-- `is_beyond`: not inside the first n states.
use mathlib.Core.Path.{sym, ◌∙◌, ap}
use mathlib.Core.Bool.{not}
use borrow.Author.Rules.{rules}
use Rattle.model.specs.Sets.{subset}
use Rattle.core_table.proofs.StoresGrounds.{none-beyond, beyond-is}
use Rattle.core_table.proofs.is_beyond.Goals as goal

pub returns-then-n-ge-MAX_STATES : goal.returns-then-n-ge-MAX_STATES
returns-then-n-ge-MAX_STATES c = sym (none-beyond _ _ (search rules))

pub returns : goal.returns
returns c = ap not (c.is_subset.ensures ∙ ap (subset _) c.first_states.ensures) ∙ beyond-is _ _
