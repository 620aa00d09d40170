-- `accept_possible`: the grounds in their order.
use mathlib.Core.Path.{sym, ◌∙◌}
use mathlib.Core.List.{[]}
use borrow.Author.Rules.{rules}
use borrow.Author.Tests.{lt-ltb, le-ltb}
use Rattle.basics.proofs.RefusalLaws.{refuse-first}
use Rattle.model.proofs.StoresAccepted.{Store, accepted_store}
use Rattle.core_refusals.proofs.RefusalsPassed.{passed_on}
use Rattle.call_modal.proofs.ModalGrounds.{short-possible, refuse-shared, behind_shared}
use Rattle.call_modal.proofs.accept_possible.Goals as goal

pub returns-then-possible-lt-POSSIBLE_WORDS : goal.returns-then-possible-lt-POSSIBLE_WORDS
returns-then-possible-lt-POSSIBLE_WORDS c = (short-possible _ _ _ _ _ (search rules), tt)

pub returns-in_err-store : goal.returns-in_err-store
returns-in_err-store c = rw (passed_on _ c.from_residual.ensures.1) (refuse-shared _ _ _ _ _ (search rules) _ c.in_err-store.ensures.0, tt)

pub is_malformed-requires : goal.is_malformed-requires
is_malformed-requires c =
    let store_held : Store c.args.store.now c.args.n c.args.g = (accepted_store _ _ _ [] (sym c.in_ok-store.ensures.0)).0 in
    (store_held.small, search rules)

pub returns-then-is_malformed : goal.returns-then-is_malformed
returns-then-is_malformed c = (behind_shared _ _ _ _ _ (search rules) c.in_ok-store.ensures.0 (refuse-first 0 _ (search (rules, sym, ◌∙◌))), tt)

pub any_impossible-requires : goal.any_impossible-requires
any_impossible-requires c =
    let store_held : Store c.args.store.now c.args.n c.args.g = (accepted_store _ _ _ [] (sym c.in_ok-store.ensures.0)).0 in
    store_held.small

pub returns-then-any_impossible : goal.returns-then-any_impossible
returns-then-any_impossible c =
    let ok = c.in_ok-store.ensures in
    (rw (sym ok.1) (behind_shared _ _ _ _ _ (search rules) (rw (sym ok.1) at ok.0) (refuse-first 1 _ (search (rules, sym, ◌∙◌)))), tt)

pub returns-then-room-lt-MAX_STATES : goal.returns-then-room-lt-MAX_STATES
returns-then-room-lt-MAX_STATES c =
    let ok = c.in_ok-store.ensures in
    (rw (sym ok.1) (behind_shared _ _ _ _ _ (search rules) (rw (sym ok.1) at ok.0) (refuse-first 2 _ (search (rules, sym, ◌∙◌, lt-ltb)))), tt)

pub returns : goal.returns
returns c =
    let ok = c.in_ok-store.ensures in
    (rw (sym ok.1) (behind_shared _ _ _ _ _ (search rules) (rw (sym ok.1) at ok.0) (refuse-first 3 _ (search (rules, sym, ◌∙◌, le-ltb)))), ok.1)
