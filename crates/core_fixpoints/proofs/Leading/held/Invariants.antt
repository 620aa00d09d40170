-- `Leading::held`: the words passed are those of the states that are in hold.
use Rattle.core_state_set.proofs.SetsWords.{Filling}
use Rattle.core_rows.specs.Rows.{meet_hold}
use Rattle.core_fixpoints.proofs.Leading.held.Given as goal

abbrev pub invariant-loop-w : goal.invariant-loop-w
invariant-loop-w l = Filling (meet_hold l.self.steps.words.now l.self.x.words l.y.words) l.initial.word-items l.w l.word-items
