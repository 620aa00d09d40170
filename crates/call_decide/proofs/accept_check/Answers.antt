-- `accept_check`: the grounds in their order.
use mathlib.Core.Path.{refl}
use borrow.Author.Rules.{rules}
use borrow.Author.Tests.{lt-ltb, le-ltb}
use Rattle.basics.proofs.RefusalLaws.{refuse-first, refuse-append, refuse-past}
use Rattle.model.specs.Calls.{decide_grounds}
use Rattle.core_refusals.proofs.RefusalNumbers.{number_some}
use Rattle.core_refusals.proofs.RefusalsPassed.{passed_on}
use Rattle.call_decide.proofs.accept_check.Goals as goal

pub returns-in_err-store : goal.returns-in_err-store
unfolding decide_grounds
returns-in_err-store c = rw (passed_on _ c.from_residual.ensures.1) (refuse-append _ _ c.in_err-store.ensures.0 (number_some _), tt)

pub returns-then-allowance-gt-MAX_ALLOWANCE : goal.returns-then-allowance-gt-MAX_ALLOWANCE
unfolding decide_grounds
returns-then-allowance-gt-MAX_ALLOWANCE c = (refuse-past _ _ refl c.in_ok-store.ensures.0 refl (refuse-first 0 _ (search (rules, lt-ltb))), tt)

pub returns-then-room-lt-MAX_STATES : goal.returns-then-room-lt-MAX_STATES
unfolding decide_grounds
returns-then-room-lt-MAX_STATES c = (refuse-past _ _ refl c.in_ok-store.ensures.0 refl (refuse-first 1 _ (search (rules, lt-ltb, le-ltb))), tt)

pub returns : goal.returns
unfolding decide_grounds
returns c = (refuse-past _ _ refl c.in_ok-store.ensures.0 refl (refuse-first 2 _ (search (rules, le-ltb))), c.in_ok-store.ensures.1)
