-- `place_of`: before the groups, among them, or among the rows.
use borrow.Author.Rules.{rules}
use Rattle.file_contents_writing.proofs.StoresPlaces.{head_place, group_place, row-place}
use Rattle.file_contents_writing.proofs.place_of.Goals as goal

pub returns-then-k-lt-HEAD_SETS : goal.returns-then-k-lt-HEAD_SETS
returns-then-k-lt-HEAD_SETS c = (head_place _ _ (search rules) (search rules), search rules)

pub returns-then-k-g : goal.returns-then-k-g
returns-then-k-g c = (group_place _ _ (search rules) (search rules) (search rules), search rules)

pub returns : goal.returns
returns c = (row-place _ _ (search rules) (search rules), search rules)
