-- `any_content_beyond`: no set passed has a state from n up.
use mathlib.Core.Path.{refl, sym, ◌∙◌}
use borrow.Author.Rules.{rules}
use Rattle.basics.proofs.BoundLaws.{any_start, any_turn, any_intro, any-end}
use Rattle.file_contents_reading.proofs.ContentsWords.{set_inside}
use Rattle.file_contents_reading.proofs.any_content_beyond.Goals as goal

pub loop-k-init : goal.loop-k-init
loop-k-init c = (search rules, any_start _)

pub is_set_beyond-requires : goal.is_set_beyond-requires
is_set_beyond-requires c = (set_inside (search rules) refl (search rules) (search rules), search rules)

pub returns-then-is_set_beyond : goal.returns-then-is_set_beyond
returns-then-is_set_beyond c =
    sym
    (any_intro _ _ c.loop-k.k (search rules)
    (sym c.is_set_beyond.ensures ∙ c.if-is_set_beyond.true))

pub loop-k-preserved : goal.loop-k-preserved
loop-k-preserved c = (
  search rules,
  any_turn _ _ c.loop-k.invariant.1
      (sym c.is_set_beyond.ensures ∙ c.if-is_set_beyond.false),
)

pub returns : goal.returns
returns c = sym (any-end _ _ _ (search rules) (search rules) c.loop-k.invariant.1)
