-- The proof of specs/WorkedLoad, by computation.
use Rattle.std.proofs.Common.{refl}
use Rattle.basics.specs.Bounds.{any, tabulate}
use Rattle.model.specs.Sets.{number, set_of, single}
use Rattle.call_generate.specs.Load.{next_number, numbers, remainders, successors, load_from, load}
use Rattle.call_generate.specs.WorkedLoad.{WorkedLoad}

pub worked_load : WorkedLoad
unfolding any tabulate number set_of single next_number numbers remainders successors load_from load
worked_load = record { figures = (refl, refl, refl); first_sums = (refl, refl); later_sum = refl; rows = (refl, refl); ends = (refl, refl) }
