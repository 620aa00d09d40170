-- `StateSet::is_empty`: all words are joined into one.
use borrow.Author.Rules.{rules}
use mathlib.Core.Path.{◌≡◌, ap, ◌∙◌}
use lib.Bits.{bit_or}
use lib.Dec.{eqb}
use Rattle.std.specs.List.{fold}
use Rattle.std.proofs.iter.runs.Made.{chains}
use Rattle.core_state_set.proofs.SetsWords.{proper}
use Rattle.core_state_set.proofs.SetsTests.{joined_all}
use Rattle.core_state_set.proofs.StateSet.is_empty.Goals as goal

pub returns : goal.returns
returns c =
    let ran : c.fold.result ≡ fold bit_or 0 c.args.self.words = search (rules, chains) in
    ap (λ x. eqb x 0) ran ∙ joined_all _ (search (rules, proper))
