-- `StateSet::empty`: the comprehension of nothing computes to words of 0.
use mathlib.Core.Path.{refl}
use Rattle.basics.specs.Bounds.{tabulate}
use Rattle.model.specs.Sets.{number, set_of, empty}
use Rattle.core_state_set.proofs.StateSet.empty.Goals as goal

pub returns : goal.returns
unfolding empty set_of tabulate number
returns c = refl
