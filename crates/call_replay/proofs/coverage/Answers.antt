-- `coverage`: nothing can be reached, or the division with its remainder.
use borrow.Author.Tests.{eq-eqb, ne_eqb}
use Rattle.call_replay.specs.Logs.{percent_of, remainder_of}
use Rattle.call_replay.proofs.coverage.Goals as goal

pub returns-then-reached-eq0 : goal.returns-then-reached-eq0
unfolding percent_of remainder_of
returns-then-reached-eq0 c = let none = eq-eqb _ 0 c.if-reached-eq0.true in (rw none, rw none)

pub returns : goal.returns
unfolding percent_of remainder_of
returns c = let some = ne_eqb _ 0 c.if-reached-eq0.false in (rw some, rw some)
