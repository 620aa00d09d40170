-- `Report::put_number` meets its contract: a number has at most number_bytes digits.
use Prim.Native.Nat.{ℕ, ◌≤◌, ◌<◌}
use native.Mathlib.Omega.{arith}
use borrow.Author.Rules.{rules}
use lib.ListN.{length}
use Rattle.core_report.specs.Text.{decimal}
use Rattle.core_report.specs.Put.{number_limit, number_bytes}
use Rattle.core_report.proofs.TextsPut.{put_most, put_then}
use Rattle.core_report.proofs.Decimals.{decimal-short}
use Rattle.core_report.proofs.Report.put_number.Goals as goal

short : (n : ℕ) → n < number_limit → length (decimal n) ≤ number_bytes
short n h = decimal-short 4 n (omega arith)

pub put_decimal-requires : goal.put_decimal-requires
put_decimal-requires c = omega (arith, short c.args.n (search rules))

pub returns : goal.returns
returns c = put_then c.put.ensures (put_most (short _ (search rules)) c.put_decimal.ensures)
