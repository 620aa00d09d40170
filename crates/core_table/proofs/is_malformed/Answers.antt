-- `is_malformed`: the tests of ground 17, one after the other.
use mathlib.Core.Path.{sym, ap, ◌∙◌}
use Rattle.model.specs.Stores.{beyond, malformed}
use Rattle.basics.proofs.BoundLaws.{or_left, or_right}
use Rattle.core_table.proofs.is_malformed.Goals as goal

pub returns-then-is_beyond : goal.returns-then-is_beyond
unfolding malformed
returns-then-is_beyond c = sym (search (sym (c.is_beyond.ensures ∙ ap (beyond _) c.initial.ensures) ∙ c.if-is_beyond.true, or_left, or_right))

pub returns-then-is_beyond-2 : goal.returns-then-is_beyond-2
unfolding malformed
returns-then-is_beyond-2 c = sym (search (sym (c.is_beyond-2.ensures ∙ ap (beyond _) c.set_at.ensures) ∙ c.if-is_beyond-2.true, or_left, or_right))

pub returns-then-is_beyond-3 : goal.returns-then-is_beyond-3
unfolding malformed
returns-then-is_beyond-3 c = sym (search (sym (c.is_beyond-3.ensures ∙ ap (beyond _) c.set_at-2.ensures) ∙ c.if-is_beyond-3.true, or_left, or_right))

pub returns-then-any_stored_beyond : goal.returns-then-any_stored_beyond
unfolding malformed
returns-then-any_stored_beyond c = sym (search (sym c.any_stored_beyond.ensures ∙ c.if-any_stored_beyond.true, or_left, or_right))

pub returns-then-any_stored_beyond-2 : goal.returns-then-any_stored_beyond-2
unfolding malformed
returns-then-any_stored_beyond-2 c = sym (search (sym c.any_stored_beyond-2.ensures ∙ c.if-any_stored_beyond-2.true, or_left, or_right))

pub returns-then-non_zero_word : goal.returns-then-non_zero_word
unfolding malformed
returns-then-non_zero_word c = sym (search (sym c.non_zero_word.ensures ∙ c.if-non_zero_word.true, or_left, or_right))

pub returns : goal.returns
unfolding malformed
returns c =
    rw (
      sym (c.is_beyond.ensures ∙ ap (beyond _) c.initial.ensures) ∙ c.if-is_beyond.false,
      sym (c.is_beyond-2.ensures ∙ ap (beyond _) c.set_at.ensures) ∙ c.if-is_beyond-2.false,
      sym (c.is_beyond-3.ensures ∙ ap (beyond _) c.set_at-2.ensures) ∙ c.if-is_beyond-3.false,
      sym c.any_stored_beyond.ensures ∙ c.if-any_stored_beyond.false,
      sym c.any_stored_beyond-2.ensures ∙ c.if-any_stored_beyond-2.false,
      sym c.non_zero_word.ensures ∙ c.if-non_zero_word.false,
    ) c.non_zero_word-2.ensures
