-- The reads of specs/WorkedReads, by computation.
use mathlib.Core.Path.{refl}
use Rattle.program_input.specs.Reads.{after_read}
use Rattle.program_input.specs.WorkedReads.{WorkedReads}

pub worked_reads : WorkedReads
unfolding after_read
worked_reads = record { failed = refl; ended = refl; more = refl; full = refl; too_many = refl }
