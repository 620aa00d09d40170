-- `clear`: the words of a table are filled with 0.
use borrow.Author.Rules.{rules}
use lib.Seq.{length-take-le}
use Rattle.core_table.specs.Writing.{cleared}
use Rattle.core_table.proofs.ListsOverwritten.{zero_filled}
use Rattle.core_table.proofs.clear.Goals as goal

pub returns : goal.returns
unfolding cleared
returns c = zero_filled _ _ _ _ (length-take-le _ _ c.requires) (c.fill.ensures.after (λ y e. search rules))
