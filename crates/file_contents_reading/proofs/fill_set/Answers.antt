-- `fill_set`: the words passed are those of the set, without the states that `own` has not.
use borrow.Author.Rules.{rules}
use Rattle.model.specs.Sets.{WORDS, meet}
use Rattle.model.proofs.SetsMembers.{set_of_proper}
use Rattle.model.proofs.SetsBytes.{set_in_proper}
use Rattle.core_state_set.proofs.SetsWords.{proper}
use Rattle.core_table.proofs.ListsOverwritten.{over_none, over_next, over_list}
use Rattle.file_contents_reading.proofs.ContentsWords.{cut_word}
use Rattle.file_contents_reading.proofs.fill_set.Goals as goal

pub loop-v-init : goal.loop-v-init
unfolding meet
loop-v-init c = (search rules, over_none _ _)

pub loop-v-preserved : goal.loop-v-preserved
unfolding meet
loop-v-preserved c = (search rules, over_next _ _ _ _ (search rules) (cut_word (set_in_proper _ _ _) (search (rules, proper)) (search rules) c.word_in.ensures) c.loop-v.invariant.1)

pub returns : goal.returns
unfolding meet
returns c = over_list _ _ WORDS (set_of_proper _).long (search rules) (search rules) c.loop-v.invariant.1
