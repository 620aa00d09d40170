-- `any_impossible`: no state passed has a certain step that is not possible.
use mathlib.Core.Path.{sym}
use borrow.Author.Rules.{rules}
use Rattle.call_modal.proofs.ModalGrounds.{impossible_start, impossible_hit, impossible_pass, impossible-end}
use Rattle.call_modal.proofs.any_impossible.Goals as goal

pub loop-s-init : goal.loop-s-init
loop-s-init c = (search rules, impossible_start _ _)

pub returns-then-not-is_subset : goal.returns-then-not-is_subset
returns-then-not-is_subset c =
    sym
    (impossible_hit _ _ _ c.of-certain.ensures c.row.ensures c.row-in-loop-s.ensures c.is_subset.ensures _
    c.loop-s-test.true (c.if-not-is_subset.true))

pub loop-s-preserved : goal.loop-s-preserved
loop-s-preserved c =
    let loop = c.loop-s in (
      search rules,
      impossible_pass _ _ _ c.of-certain.ensures c.row.ensures c.row-in-loop-s.ensures c.is_subset.ensures (c.if-not-is_subset.false) loop.invariant.1,
    )

pub returns : goal.returns
returns c = sym (impossible-end _ _ _ _ c.loop-s.invariant.0 c.loop-s-test.false c.loop-s.invariant.1)
