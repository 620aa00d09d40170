-- `put_file`: write's file of what generate filled, or generate's refusal.
use Rattle.std.proofs.Common.{◌∙◌, rules}
use Rattle.std.proofs.lemmas.Result.{IfOk-from_err}
use Rattle.core_refusals.proofs.RefusalsPassed.{passed_on}
use Rattle.program_generate.proofs.Files.{made_file, made_refused, made_short}
use Rattle.program_generate.proofs.put_file.Goals as goal

pub returns-in_err-generate : goal.returns-in_err-generate
returns-in_err-generate c =
    record {
      file = rw (passed_on _ c.from_residual.ensures.1) (made_refused _ _ _ _ _ c.generate.result c.generate.ensures (search rules) _ _ c.in_err-generate.was);
      inside = IfOk-from_err _ _ c.from_residual.ensures.0;
    }

pub returns : goal.returns
returns c =
    let file = made_file _ _ _ _ _ c.generate.result c.generate.ensures (search rules) c.in_ok-generate.was _ (search rules) in
    record { file = (c.write.ensures.0 ∙ file.0, c.write.ensures.1 ∙ file.1); inside = made_short _ _ _ _ _ _ c.write.ensures.0 }
