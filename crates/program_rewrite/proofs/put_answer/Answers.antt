-- `put_answer`: what `put_text` puts for a text is what is asked.
use borrow.Author.Rules.{rules}
use Rattle.program_input.proofs.Counting.{put_by}
use Rattle.program_rewrite.proofs.put_answer.Goals as goal

pub returns : goal.returns
returns c = put_by (λ input end put. search rules) c.put_for.ensures
