-- `accept`: the grounds in their order.
use borrow.Author.Rules.{rules}
use borrow.Author.Tests.{lt-ltb, le-ltb}
use mathlib.Core.Path.{refl, sym, ◌∙◌}
use Rattle.basics.proofs.RefusalLaws.{refuse-first}
use Rattle.core_table.proofs.StoresGrounds.{bad_many, bad_alone, not_bad}
use Rattle.core_table.proofs.accept.Goals as goal

pub returns-then-store-lt-STORE_WORDS : goal.returns-then-store-lt-STORE_WORDS
returns-then-store-lt-STORE_WORDS c = (refuse-first 0 _ (search (rules, lt-ltb)), tt)

pub returns-then-n-gt-MAX_STATES : goal.returns-then-n-gt-MAX_STATES
returns-then-n-gt-MAX_STATES c = (refuse-first 1 _ (search (rules, le-ltb, bad_many)), tt)

pub returns-then-is_groups_alone : goal.returns-then-is_groups_alone
returns-then-is_groups_alone c = (refuse-first 1 _ (search (rules, le-ltb, bad_alone)), tt)

pub returns-then-g-gt-MAX_GROUPS : goal.returns-then-g-gt-MAX_GROUPS
returns-then-g-gt-MAX_GROUPS c = (refuse-first 2 _ (search (rules, le-ltb, lt-ltb, not_bad)), tt)

pub returns-then-is_malformed : goal.returns-then-is_malformed
returns-then-is_malformed c = (refuse-first 3 _ (search (rules, le-ltb, not_bad, sym, ◌∙◌)), tt)

pub returns : goal.returns
returns c = (refuse-first 4 _ (search (rules, le-ltb, not_bad, sym, ◌∙◌)), refl)
