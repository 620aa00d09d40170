-- `number_of`: the bytes passed are digits, and say the value.
use Rattle.program_generate.proofs.Digits.{Reading}
use Rattle.program_generate.proofs.number_of.Given as goal

abbrev pub invariant-loop-b : goal.invariant-loop-b
invariant-loop-b l = Reading l.word l.b-index l.value
