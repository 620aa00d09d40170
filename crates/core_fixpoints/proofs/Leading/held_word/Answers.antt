-- `Leading::held_word`: the rows of the word are looked at, or every state of it stays.
use mathlib.Core.Path.{sym, ◌∙◌}
use borrow.Author.Rules.{rules}
use lib.ListN.{get_or}
use mir.Syntax.{w64}
use mir.Val.{Fits}
use Rattle.core_fixpoints.proofs.Leaving.{kept_word}
use Rattle.core_fixpoints.proofs.Leading.held_word.Goals as goal

pub returns : goal.returns
returns c =
    let fits : Fits w64 (get_or c.args.self.now.x.words c.args.w 0) = search rules in
    kept_word _ _ _ _ _ _ c.args.self.now.leads c.difference.ensures (search rules) fits (sym c.meets.ensures ∙ c.if-meets.false)
