-- `fill_set`: the words passed are those of the set, without the states that `own` has not.
use Prim.Native.Nat.{◌*◌, ◌≤◌}
use lib.ListN.{get_or}
use Rattle.basics.specs.Bounds.{tabulate}
use Rattle.model.specs.Sets.{WORDS, meet}
use Rattle.model.specs.Contents.{set_in}
use Rattle.core_table.proofs.ListsOverwritten.{Over}
use Rattle.file_contents_reading.proofs.fill_set.Given as goal

abbrev pub invariant-loop-v : goal.invariant-loop-v
invariant-loop-v l = (l.v ≤ WORDS) × Over (tabulate l.v (λ i. get_or (meet (set_in l.bytes (8 * WORDS) l.at) l.own.words) i 0)) l.initial.words l.words
