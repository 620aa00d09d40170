-- `put_words`: the words passed are written.
use borrow.Author.Rules.{rules}
use Rattle.core_table.proofs.ListsOverwritten.{parts_none, parts_all}
use Rattle.file_contents_writing.proofs.SetsBytesWritten.{words_more}
use Rattle.file_contents_writing.proofs.put_words.Goals as goal

pub loop-v-init : goal.loop-v-init
loop-v-init c = (search rules, parts_none _ _)

pub loop-v-preserved : goal.loop-v-preserved
loop-v-preserved c = (search rules, words_more _ _ _ _ _ c.loop-v.invariant.1 c.put_bytes.ensures (search rules))

pub returns : goal.returns
returns c = parts_all _ _ _ _ _ (search rules) (search rules) c.loop-v.invariant.1
