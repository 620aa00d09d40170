-- `accept_call`: the grounds in their order.
use mathlib.Core.Path.{sym, ◌∙◌}
use borrow.Author.Rules.{rules}
use borrow.Author.Tests.{lt-ltb, le-ltb}
use Rattle.basics.proofs.RefusalLaws.{refuse-first}
use Rattle.call_release_windows.specs.WindowAnswers.{grounds}
use Rattle.call_release_windows.proofs.accept_call.Goals as goal

pub returns-then-time-gt-MAX_TIME : goal.returns-then-time-gt-MAX_TIME
unfolding grounds
returns-then-time-gt-MAX_TIME c = refuse-first 0 _ (search (rules, lt-ltb))

pub returns-then-windows-closed : goal.returns-then-windows-closed
unfolding grounds
returns-then-windows-closed c = refuse-first 1 _ (search (rules, le-ltb))

pub returns-then-any_outside : goal.returns-then-any_outside
unfolding grounds
returns-then-any_outside c = refuse-first 2 _ (search (rules, le-ltb, sym, ◌∙◌))

pub returns : goal.returns
unfolding grounds
returns c = refuse-first 3 _ (search (rules, le-ltb, sym, ◌∙◌))
