-- `any_stored_beyond`: what is joined has a state from n up where one of the sets has.
use mathlib.Core.Path.{sym, ap, ◌∙◌}
use borrow.Author.Rules.{rules}
use Rattle.model.specs.Stores.{beyond}
use Rattle.core_table.proofs.StoresGrounds.{all-states, joined-beyond}
use Rattle.core_table.proofs.any_stored_beyond.Goals as goal

pub returns-then-n-ge-MAX_STATES : goal.returns-then-n-ge-MAX_STATES
returns-then-n-ge-MAX_STATES c = sym (all-states _ _ _ (search rules))

pub returns : goal.returns
returns c = c.is_beyond.ensures ∙ ap (beyond _) c.joined.ensures ∙ joined-beyond _ _ _
