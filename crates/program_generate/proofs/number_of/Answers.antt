-- `number_of`: the bytes passed are digits, and say the value.
use Rattle.std.proofs.Common.{rules, eqb-true, sym}
use borrow.Author.Tests.{eqb-false}
use Rattle.program_generate.proofs.Digits.{reading_none, reading_more, reading_all, no_word, not_digit}
use Rattle.program_generate.proofs.number_of.Goals as goal

pub returns-then-is_empty : goal.returns-then-is_empty
returns-then-is_empty c = no_word _ (eqb-true _ _ (sym c.if-is_empty.ensures))

pub loop-b-init : goal.loop-b-init
loop-b-init c = reading_none _

pub returns-then-not-is_ascii_digit : goal.returns-then-not-is_ascii_digit
returns-then-not-is_ascii_digit c = not_digit _ c.loop-b.b-index (search rules) c.if-not-is_ascii_digit.ensures.cases

pub loop-b-preserved : goal.loop-b-preserved
loop-b-preserved c =
    let digit = c.if-not-is_ascii_digit.ensures.cases in
    reading_more _ _ _ c.loop-b.invariant _ _ (search rules) digit.0 digit.1 (search rules) c.min-value.ensures

pub returns : goal.returns
returns c = reading_all _ _ _ c.loop-b.invariant (search rules) (eqb-false _ _ (sym c.if-is_empty.ensures))
