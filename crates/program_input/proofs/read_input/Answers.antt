-- `read_input`: the state lies within the room, and each read that gives bytes leaves less of it.
use native.Mathlib.Omega.{arith}
use Rattle.program_input.proofs.Results.{more-fits, stopped_within}
use Rattle.program_input.proofs.read_input.Goals as goal

pub loop-length-smaller : goal.loop-length-smaller
loop-length-smaller g c =
    let inside = c.loop-length.invariant.0 in
    omega (arith, c.read_more.ensures.long, more-fits c.read_more.ensures inside c.in-Continue.is)

pub loop-length-preserved : goal.loop-length-preserved
loop-length-preserved g c =
    let at = c.loop-length in
    let fits = more-fits c.read_more.ensures at.invariant.0 c.in-Continue.is in
    (omega (arith, fits), omega (arith, c.read_more.ensures.long, at.invariant.1))

pub returns-in-Break : goal.returns-in-Break
returns-in-Break g c = stopped_within c.read_more.ensures c.loop-length.invariant.0 c.in-Break.is
