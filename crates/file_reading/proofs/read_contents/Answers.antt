-- `read_contents`: the grounds in their order, then the table into the store.
use mathlib.Core.Path.{refl, sym, ◌∙◌}
use borrow.Author.Rules.{rules}
use borrow.Author.Tests.{lt-ltb, le-ltb, eq-eqb, ne_eqb}
use Rattle.basics.proofs.BoundLaws.{or_left, or_right, or_none}
use Rattle.file_reading.specs.Reading.{bytes_grounds}
use Rattle.file_reading.proofs.ReadGrounds.{reads_first, reads_table, second_is, second_low, second_high, header_passes, count_passes, miscounted, filler_said, reads_contents}
use Rattle.file_reading.proofs.read_contents.Goals as goal

pub returns-then-n-eq0 : goal.returns-then-n-eq0
unfolding bytes_grounds
returns-then-n-eq0 c = reads_first 0 _ (search (rules, eq-eqb, or_left)) refl

pub returns-then-n-gt-MAX_STATES : goal.returns-then-n-gt-MAX_STATES
unfolding bytes_grounds
returns-then-n-gt-MAX_STATES c = reads_first 0 _ (search (rules, lt-ltb, or_right)) refl

pub returns-then-second-least : goal.returns-then-second-least
unfolding bytes_grounds
returns-then-second-least c = reads_first 1 _ (search (rules, ne_eqb, le-ltb, or_none), second_low _ c.added-least.ensures.0 (search rules)) refl

pub returns-then-g-gt-MAX_GROUPS : goal.returns-then-g-gt-MAX_GROUPS
unfolding bytes_grounds
returns-then-g-gt-MAX_GROUPS c = reads_first 1 _ (search (rules, ne_eqb, le-ltb, or_none), second_high _ (second_is c.added-least.ensures.0 (search rules)) c.if-g-gt-MAX_GROUPS.true) refl

pub returns-then-blocks-blocks_for : goal.returns-then-blocks-blocks_for
unfolding bytes_grounds
returns-then-blocks-blocks_for c =
    let h = header_passes _ c.args.n (search rules) (search rules) c.added-least.ensures.0 c.if-second-least.false c.if-g-gt-MAX_GROUPS.false in
    reads_contents _ _ _ _ _ c.added-least.ensures.0
    (reads_first 2 _ (h.0, (h.1, miscounted _ _ _ c.content_length-size.ensures.0 c.blocks_for.ensures c.if-blocks-blocks_for.true)) refl)

pub returns-then-any_content_beyond : goal.returns-then-any_content_beyond
unfolding bytes_grounds
returns-then-any_content_beyond c =
    let h = header_passes _ c.args.n (search rules) (search rules) c.added-least.ensures.0 c.if-second-least.false c.if-g-gt-MAX_GROUPS.false in
    let count = count_passes _ _ _ c.content_length-size.ensures.0 c.blocks_for.ensures c.if-blocks-blocks_for.false in
    reads_contents _ _ _ _ _ c.added-least.ensures.0
    (reads_first 3 _ (h.0, (h.1, (count, sym c.any_content_beyond.ensures ∙ c.if-any_content_beyond.true))) refl)

pub returns-then-non_zero_byte : goal.returns-then-non_zero_byte
unfolding bytes_grounds
returns-then-non_zero_byte c =
    let h = header_passes _ c.args.n (search rules) (search rules) c.added-least.ensures.0 c.if-second-least.false c.if-g-gt-MAX_GROUPS.false in
    let count = count_passes _ _ _ c.content_length-size.ensures.0 c.blocks_for.ensures c.if-blocks-blocks_for.false in
    let filler = filler_said _ _ _ _ c.content_length-size.ensures.0 (search rules) (search rules) c.non_zero_byte.ensures in
    reads_contents _ _ _ _ _ c.added-least.ensures.0
    (reads_first 4 _ (h.0, (h.1, (count, (sym c.any_content_beyond.ensures ∙ c.if-any_content_beyond.false, filler ∙ c.if-non_zero_byte.true)))) refl)

pub returns : goal.returns
unfolding bytes_grounds
returns c =
    let h = header_passes _ c.args.n (search rules) (search rules) c.added-least.ensures.0 c.if-second-least.false c.if-g-gt-MAX_GROUPS.false in
    let count = count_passes _ _ _ c.content_length-size.ensures.0 c.blocks_for.ensures c.if-blocks-blocks_for.false in
    let filler = filler_said _ _ _ _ c.content_length-size.ensures.0 (search rules) (search rules) c.non_zero_byte.ensures in
    reads_contents _ _ _ _ _ c.added-least.ensures.0
    (reads_table _ (h.0, (h.1, (count, (sym c.any_content_beyond.ensures ∙ c.if-any_content_beyond.false, (filler ∙ c.if-non_zero_byte.false, tt))))) refl refl c.fill.ensures)
