-- `accept_edit`: the grounds in their order.
use mathlib.Core.Path.{refl}
use mathlib.Core.Logic.{⊎_elim}
use borrow.Author.Rules.{rules}
use borrow.Author.Tests.{le-leb, lt-leb}
use Rattle.basics.proofs.BoundLaws.{or_left, or_right, or_none}
use Rattle.basics.proofs.RefusalLaws.{refuse-first, refuse-append, refuse-past}
use Rattle.call_edit_session.specs.Edits.{edit_grounds}
use Rattle.core_refusals.proofs.RefusalNumbers.{number_some}
use Rattle.core_refusals.proofs.RefusalsPassed.{passed_on}
use Rattle.call_edit_session.proofs.accept_edit.Goals as goal

pub returns-in_err-store : goal.returns-in_err-store
unfolding edit_grounds
returns-in_err-store c = rw (passed_on _ c.from_residual.ensures.1) (refuse-append _ _ c.in_err-store.ensures.0 (number_some _), tt)

pub returns-then-n-from : goal.returns-then-n-from
unfolding edit_grounds
returns-then-n-from c = (
  refuse-past _ _ refl c.in_ok-store.ensures.0 refl
      (refuse-first 0 _
      (⊎_elim (λ h. search (rules, le-leb, or_left)) (λ h. search (rules, le-leb, or_right)) c.then-n-from.either)),
  tt,
)

pub returns : goal.returns
unfolding edit_grounds
returns c = (refuse-past _ _ refl c.in_ok-store.ensures.0 refl (refuse-first 1 _ (search (rules, lt-leb, or_none))), c.in_ok-store.ensures.1)
