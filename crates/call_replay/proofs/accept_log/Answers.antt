-- `accept_log`: the grounds in their order.
use mathlib.Core.Path.{refl, ap}
use mathlib.Core.Bool.{not}
use borrow.Author.Rules.{rules}
use borrow.Author.Tests.{lt-ltb, le-ltb, eq-eqb, ne_eqb}
use Rattle.basics.proofs.RefusalLaws.{refuse-first, refuse-append, refuse-past}
use Rattle.call_replay.specs.Logs.{replay_grounds}
use Rattle.core_refusals.proofs.RefusalNumbers.{number_some}
use Rattle.core_refusals.proofs.RefusalsPassed.{passed_on}
use Rattle.call_replay.proofs.accept_log.Goals as goal

pub returns-in_err-store : goal.returns-in_err-store
unfolding replay_grounds
returns-in_err-store c = rw (passed_on _ c.from_residual.ensures.1) (refuse-append _ _ c.in_err-store.ensures.0 (number_some _), tt)

pub returns-then-bytes-ne0 : goal.returns-then-bytes-ne0
unfolding replay_grounds
returns-then-bytes-ne0 c = (refuse-past _ _ refl c.in_ok-store.ensures.0 refl (refuse-first 0 _ (ap not (ne_eqb _ _ c.if-bytes-ne0.true))), tt)

pub returns-then-bytes-gt-MAX_LOG : goal.returns-then-bytes-gt-MAX_LOG
unfolding replay_grounds
returns-then-bytes-gt-MAX_LOG c = (refuse-past _ _ refl c.in_ok-store.ensures.0 refl (refuse-first 1 _ (ap not (eq-eqb _ _ c.if-bytes-ne0.false), search (rules, lt-ltb))), tt)

pub returns : goal.returns
unfolding replay_grounds
returns c = (refuse-past _ _ refl c.in_ok-store.ensures.0 refl (refuse-first 2 _ (ap not (eq-eqb _ _ c.if-bytes-ne0.false), search (rules, le-ltb))), c.in_ok-store.ensures.1)
