-- `put_decimal`: by the call all digits but the last, then that one.
use Prim.Native.Nat.{◌/◌, ◌%◌}
use native.Mathlib.Omega.{arith}
use mathlib.Core.Path.{ap}
use mathlib.Core.List.{[], ◌∷◌}
use lib.ListN.{length, length-append}
use Rattle.core_report.specs.Text.{digit, decimal}
use Rattle.core_report.proofs.Decimals.{decimal_one, decimal-more, decimal-long}
use Rattle.core_report.proofs.TextsPut.{put_most, put_then}
use Rattle.core_report.proofs.Report.+put_decimal.Goals as goal

pub put_digit-requires : goal.put_digit-requires
put_digit-requires t c = (c.if-n-lt10.true, omega (arith, ap length (decimal_one c.args.n c.if-n-lt10.true)))

pub returns-then-n-lt10 : goal.returns-then-n-lt10
returns-then-n-lt10 t c = rw (decimal_one c.args.n c.if-n-lt10.true) c.put_digit.ensures

pub put_decimal-requires : goal.put_decimal-requires
put_decimal-requires t c =
    let many = c.if-n-lt10.false in
    omega (arith, decimal-long c.args.n many)

pub put_digit-requires-else-n-lt10 : goal.put_digit-requires-else-n-lt10
put_digit-requires-else-n-lt10 t c =
    let many = c.if-n-lt10.false in
    (omega arith, omega (arith, decimal-long c.args.n many))

pub returns-else-n-lt10 : goal.returns-else-n-lt10
returns-else-n-lt10 t c =
    let many = c.if-n-lt10.false in
    rw (decimal-more c.args.n many)
    (put_most (omega (arith, length-append (decimal (c.args.n / 10)) (digit (c.args.n % 10) ∷ [])))
    (put_then c.put_decimal.ensures c.put_digit-else-n-lt10.ensures))
