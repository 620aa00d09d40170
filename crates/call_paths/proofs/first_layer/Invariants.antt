-- `first_layer`: the layers so far hold no forbidden state, and each has its row. A layer with a state makes one more found, so there are fewer
-- layers than states.
use lib.ListN.{length}
use Rattle.call_paths.proofs.Outward.{Outward, PutDown}
use Rattle.call_paths.proofs.first_layer.Given as goal

abbrev pub invariant-loop-d : goal.invariant-loop-d
invariant-loop-d l =
    Outward l.steps.words.now l.initial.found.words l.forbidden.words l.d l.found.words l.layer.words
    × PutDown l.steps.words.now l.initial.found.words (length l.initial.layers) l.d l.layers
