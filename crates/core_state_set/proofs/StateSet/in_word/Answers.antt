-- `in_word`: of the empty set one word is changed.
use mathlib.Core.Path.{ap, ◌∙◌}
use borrow.Author.Rules.{rules}
use lib.ListN.{get_or, set}
use mir.Val.{Fits}
use mir.Syntax.{w64}
use Rattle.model.specs.Sets.{Set}
use Rattle.core_state_set.proofs.SetsStates.{one_word}
use Rattle.core_state_set.proofs.StateSet.in_word.Goals as goal

pub returns : goal.returns
returns c =
    let small : Fits w64 (get_or c.args.self.words c.args.w 0) = search rules in
    ap (λ (X : Set). set X c.args.w (get_or c.args.self.words c.args.w 0)) c.empty-set.ensures ∙ one_word _ _ (search rules) small.fits
