-- `follow`: each entry before entry i is followed, and `at` is where the set begins that entry i may be in.
use native.Mathlib.Omega.{arith}
use mathlib.Core.Path.{sym, ◌∙◌}
use borrow.Author.Rules.{rules}
use Rattle.call_replay.proofs.Following.{held_state, following_start, following_turn, following_stop, following_end}
use Rattle.call_replay.proofs.follow.Goals as goal

pub loop-i-init : goal.loop-i-init
loop-i-init c = (search rules, following_start _ _)

pub returns-then-not-holds_at : goal.returns-then-not-holds_at
returns-then-not-holds_at c =
    let so = c.loop-i.invariant.1 in (
      following_stop _ _ so (search rules) c.entry_at-s.ensures (sym c.holds_at.ensures ∙ c.if-not-holds_at.true),
      so.seen-is,
    )

pub overflow_shl-words : goal.overflow_shl-words
overflow_shl-words c = omega arith

pub offset_bounds-words-s : goal.offset_bounds-words-s
offset_bounds-words-s c = record { fits = omega (arith, held_state _ c.holds_at.ensures c.if-not-holds_at.false) }

pub bounds-words-s : goal.bounds-words-s
bounds-words-s c = omega (arith, held_state _ c.holds_at.ensures c.if-not-holds_at.false)

pub bounds-words-s-in-loop-i : goal.bounds-words-s-in-loop-i
bounds-words-s-in-loop-i c = omega (arith, held_state _ c.holds_at.ensures c.if-not-holds_at.false)

pub overflow_mul-at : goal.overflow_mul-at
overflow_mul-at c = record { fits = omega (arith, held_state _ c.holds_at.ensures c.if-not-holds_at.false) }

pub overflow_add-at : goal.overflow_add-at
overflow_add-at c = record { fits = omega (arith, held_state _ c.holds_at.ensures c.if-not-holds_at.false) }

pub loop-i-preserved : goal.loop-i-preserved
loop-i-preserved c =
    (search rules, following_turn _ _ c.loop-i.invariant.1 c.entry_at-s.ensures (sym c.holds_at.ensures ∙ c.if-not-holds_at.false))

pub returns : goal.returns
returns c = following_end _ _ c.loop-i.invariant.1 (search rules) (search rules)
