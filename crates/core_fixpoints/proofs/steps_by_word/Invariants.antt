-- `steps_by_word`: what the states of each word passed step to is stored.
use lib.ListN.{get_or}
use Rattle.model.specs.Sets.{WORDS}
use Rattle.core_state_set.specs.WordSets.{word_set}
use Rattle.core_rows.specs.Rows.{successors_by}
use Rattle.core_fixpoints.proofs.SetsListed.{Stored}
use Rattle.core_fixpoints.proofs.steps_by_word.Given as goal

abbrev pub invariant-loop-w : goal.invariant-loop-w
invariant-loop-w l = Stored WORDS (λ v. successors_by l.steps.words.now (word_set v (get_or l.x.words v 0))) l.words-items l.w
