-- `is_malformed`: its two tests, one after the other.
use borrow.Author.Rules.{rules}
use Rattle.call_modal.proofs.ModalGrounds.{rows-beyond, rows_used}
use Rattle.call_modal.proofs.is_malformed.Goals as goal

pub returns-then-any_stored_beyond : goal.returns-then-any_stored_beyond
returns-then-any_stored_beyond c = rows-beyond _ _ c.any_stored_beyond.ensures c.if-any_stored_beyond.true

pub returns-else-any_stored_beyond : goal.returns-else-any_stored_beyond
returns-else-any_stored_beyond c = rows_used _ _ (search rules) c.any_stored_beyond.ensures c.if-any_stored_beyond.false c.any_stored.ensures
