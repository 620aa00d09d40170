-- `backward`: s is the cover of the states that stay, which step to none outside the set before it.
use mathlib.Core.Path.{refl, sym, ◌∙◌}
use mathlib.Core.Logic.{∥∥₁_elim}
use borrow.Author.Rules.{rules}
use Rattle.std.proofs.Props.{props}
use Rattle.core_state_set.proofs.SetsWords.{proper}
use Rattle.core_fixpoints.proofs.Staying.{staying_start, staying_less, staying_turn, staying_greatest, staying_next}
use Rattle.core_fixpoints.proofs.backward.Goals as goal

pub loop-smaller-init : goal.loop-smaller-init
loop-smaller-init c = (staying_start _ _ _ (proper (search rules) (λ w. search rules)) c.requires, refl)

pub returns-then-equals : goal.returns-then-equals
returns-then-equals c =
    let e = sym c.equals.ensures ∙ c.if-equals.true in (
      staying_greatest _ _ _ c.loop-smaller.invariant c.held-kept.ensures.0 c.of-smaller.ensures c.requires e,
      ∥∥₁_elim c.args.cover.is_cover (search props)
          (λ k. staying_next _ _ _ c.loop-smaller.invariant c.held-kept.ensures.0 c.of-smaller.ensures c.requires e k),
    )

pub loop-smaller-smaller : goal.loop-smaller-smaller
loop-smaller-smaller c =
    staying_less _ _ _ c.loop-smaller.invariant c.held-kept.ensures.0 c.of-smaller.ensures (sym c.equals.ensures ∙ c.if-equals.false)

pub loop-smaller-preserved : goal.loop-smaller-preserved
loop-smaller-preserved c =
    (staying_turn _ _ _ c.loop-smaller.invariant c.held-kept.ensures.0 c.of-smaller.ensures, c.held-kept.ensures.1 ∙ c.loop-smaller.invariant.1)
