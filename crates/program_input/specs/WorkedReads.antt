-- One read, worked: in a room of 10 bytes, 3 of which are there. `WorkedReadsKept.worked_reads` proves it.
use Rattle.std.specs.Prelude.{◌≡◌, pos, negsuc}
use Rattle.program_input.specs.declared.Input.TheVariants.{Ended, Full, Failed}
use Rattle.std.specs.declared.ops.ControlFlow.TheVariants.{Continue, Break}
use Rattle.program_input.specs.Reads.{after_read}

pub record WorkedReads : Type 0 where
  -- −1, as C's read says that it failed
  pub failed : after_read 3 10 (negsuc 0) ≡ Break Failed
  pub ended : after_read 3 10 (pos 0) ≡ Break (Ended 3)
  pub more : after_read 3 10 (pos 6) ≡ Continue 9
  pub full : after_read 3 10 (pos 7) ≡ Break Full
  pub too_many : after_read 3 10 (pos 8) ≡ Break Failed
