-- `Leading::held`: the words passed are those of the states that are in hold.
use mathlib.Core.Path.{refl}
use borrow.Author.Rules.{rules}
use Rattle.core_state_set.proofs.SetsWords.{filling_none, filling_more, filling_all}
use Rattle.core_rows.proofs.SetsHeld.{meet_hold_proper}
use Rattle.core_fixpoints.proofs.Leaving.{leads_again}
use Rattle.core_fixpoints.proofs.Leading.held.Goals as goal

pub loop-w-init : goal.loop-w-init
loop-w-init c = filling_none _ _ (meet_hold_proper _ _ _).long (search rules)

pub loop-w-preserved : goal.loop-w-preserved
loop-w-preserved c = filling_more _ _ _ _ c.loop-w.invariant _ (search rules) c.held_word.ensures

pub returns : goal.returns
returns c = (filling_all _ _ _ _ c.loop-w.invariant (search rules), refl)

pub invariant_of-result : goal.invariant_of-result
invariant_of-result c = record { leads = leads_again _ _ _ _ _ c.args.self.now.leads (filling_all _ _ _ _ c.loop-w.invariant (search rules)) }
