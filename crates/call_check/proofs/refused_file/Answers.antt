-- `refused_file`: the text and the verdict of a refusal.
use Rattle.core_refusals.specs.Refusals.{number}
use Rattle.core_report.specs.Text.{refused_text}
use Rattle.core_report.specs.Put.{Front}
use Rattle.call_check.proofs.Reports.{refused_told}
use Rattle.call_check.proofs.refused_file.Goals as goal

pub returns : goal.returns
returns c =
    let text : Front (refused_text (number c.args.refusal)) c.args.out.now c.write_refused.result c.write_refused.new.out = rw c.from.ensures at c.write_refused.ensures in
    refused_told _ text
