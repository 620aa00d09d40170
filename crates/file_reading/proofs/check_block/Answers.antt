-- `check_block`: the number, then the check.
use mathlib.Core.Path.{sym, ap, ◌∙◌}
use mathlib.Core.Bool.{not}
use borrow.Author.Tests.{eq-eqb, ne_eqb}
use Rattle.model.specs.Blocks.{block_grounds}
use Rattle.basics.proofs.RefusalLaws.{refuse-first}
use Rattle.file_reading.proofs.check_block.Goals as goal

pub returns-then-number-k : goal.returns-then-number-k
unfolding block_grounds
returns-then-number-k c = refuse-first 0 _ (ap not (ne_eqb _ _ (λ e. c.if-number-k.true (c.le16_at-number.ensures ∙ e))))

pub returns-then-check-sum : goal.returns-then-check-sum
unfolding block_grounds
returns-then-check-sum c =
    let right = sym c.le16_at-number.ensures ∙ c.if-number-k.false in
    refuse-first 1 _ (
      ap not (eq-eqb _ _ right),
      ap not (ne_eqb _ _ (λ e. c.if-check-sum.true (c.le16_at-check.ensures ∙ e ∙ sym c.checksum_of-sum.ensures))),
    )

pub returns : goal.returns
unfolding block_grounds
returns c =
    refuse-first 2 _ (
      ap not (eq-eqb _ _ (sym c.le16_at-number.ensures ∙ c.if-number-k.false)),
      (ap not (eq-eqb _ _ (sym c.le16_at-check.ensures ∙ c.if-check-sum.false ∙ c.checksum_of-sum.ensures)), tt),
    )
