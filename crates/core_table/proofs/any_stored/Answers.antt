-- `any_stored`: what is joined is empty just where no word of the sets is other than 0.
use mathlib.Core.Path.{ap, ◌∙◌}
use mathlib.Core.Bool.{not}
use borrow.Author.Rules.{rules}
use Rattle.model.specs.Sets.{Set, subset, empty}
use Rattle.core_table.proofs.StoresGrounds.{joined_words}
use Rattle.core_table.proofs.any_stored.Goals as goal

pub returns : goal.returns
returns c =
    ap not (c.is_empty.ensures ∙ ap (λ (X : Set). subset X empty) c.joined.ensures)
    ∙ joined_words _ _ _ (search rules) (λ i. (c.shared_slice_known-1.given i).fits)
