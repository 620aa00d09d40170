-- `put_decimal`: the measure is n.
use Rattle.core_report.proofs.Report.+put_decimal.Given as goal

abbrev pub decreases-put_decimal : goal.decreases-put_decimal
decreases-put_decimal l = l.n
