-- `accept_load`: the grounds in their order.
use Rattle.std.proofs.Common.{rules, le-ltb, lt-ltb, eq-eqb, ne_eqb}
use Rattle.basics.proofs.BoundLaws.{or_left, or_right, or_none}
use Rattle.basics.proofs.RefusalLaws.{refuse-first}
use Rattle.call_generate.specs.Load.{generate_grounds}
use Rattle.call_generate.proofs.accept_load.Goals as goal

pub returns-then-room-lt-STORE_WORDS : goal.returns-then-room-lt-STORE_WORDS
unfolding generate_grounds
returns-then-room-lt-STORE_WORDS c = refuse-first 0 _ (search (rules, lt-ltb))

pub returns-then-n-eq0 : goal.returns-then-n-eq0
unfolding generate_grounds
returns-then-n-eq0 c = refuse-first 1 _ (search (rules, le-ltb, eq-eqb, or_left))

pub returns-then-n-gt-MAX_STATES : goal.returns-then-n-gt-MAX_STATES
unfolding generate_grounds
returns-then-n-gt-MAX_STATES c = refuse-first 1 _ (search (rules, lt-ltb, le-ltb, or_right))

pub returns-then-f-gt-MAX_FAN_OUT : goal.returns-then-f-gt-MAX_FAN_OUT
unfolding generate_grounds
returns-then-f-gt-MAX_FAN_OUT c = refuse-first 2 _ (search (rules, lt-ltb, le-ltb, ne_eqb, or_none))

pub returns : goal.returns
unfolding generate_grounds
returns c = refuse-first 3 _ (search (rules, le-ltb, ne_eqb, or_none))
