-- `expand_set`: what is found and recorded, with that of the states that are left, is the whole.
use Prim.Native.Nat.{◌+◌}
use native.Mathlib.Omega.{arith}
use mathlib.Core.Path.{sym, ap, ◌∙◌, subst}
use borrow.Author.Rules.{rules}
use lib.Seq.{sets}
use Rattle.model.specs.Sets.{Set, max_states, union, image, members, size}
use Rattle.model.proofs.SetsMembers.{Proper, empty_proper, in_bound}
use Rattle.model.proofs.SetsImages.{Joining, join_turn, join_end}
use Rattle.core_state_set.proofs.SetsWords.{proper}
use Rattle.core_state_set.proofs.SetsStates.{left_start}
use Rattle.core_rows.specs.Rows.{row_in, successors_by}
use Rattle.core_rows.proofs.SetsJoined.{one_taken, one_less, past_words, next_word, joined_to_none}
use Rattle.core_fixpoints.proofs.Expanding.{Recording, record_start, record_room, record_turn, record_end}
use Rattle.core_fixpoints.proofs.expand_set.Goals as goal

pub loop-w-init : goal.loop-w-init
loop-w-init c =
    let whole = left_start c.args.x.words (proper (search rules) (λ w. search rules)) in (
      record {
        proper = subst Proper (sym c.empty.ensures) empty_proper;
        whole =
            ap (λ (Y : Set). union c.empty.result.words (image max_states (row_in c.args.steps.words.now) Y)) whole
            ∙ joined_to_none _ _ c.empty.ensures;
      },
      record_start c.args.order.now c.args.count whole,
    )

pub loop-i-init : goal.loop-i-init
loop-i-init c =
    let set : Proper c.args.x.words = proper (search rules) (λ w. search rules) in
    rw c.into_iter-i-iterator.ensures.into_iter_gives (set.fits _ c.loop-w-test.true, c.loop-w.invariant.0, c.loop-w.invariant.1)

pub expand-so_far-requires : goal.expand-so_far-requires
expand-so_far-requires c =
    let so = c.loop-i.invariant in
    let taken = one_taken so.0 c.in-Some.ensures.steps c.loop-w.w c.args.x.words (search rules) in
    (in_bound (record { is = taken.0 }), omega (arith, record_room so.2 taken, c.requires))

pub loop-i-preserved : goal.loop-i-preserved
loop-i-preserved c =
    let so = c.loop-i.invariant in
    let taken = one_taken so.0 c.in-Some.ensures.steps c.loop-w.w c.args.x.words (search rules) in (
      one_less so.0 c.in-Some.ensures.steps,
      join_turn _ _ (record { is = taken.0 }) c.expand-so_far.ensures.1 taken.1 so.1,
      record_turn so.2 taken c.expand-so_far.ensures.0 c.expand-so_far.ensures.2,
    )

pub loop-w-preserved : goal.loop-w-preserved
loop-w-preserved c =
    let so = c.loop-i.invariant in
    let x = c.args.x.words in
    let row = row_in c.args.steps.words.now in
    subst
    (λ (Y : Set).
    Joining row (image max_states row x) c.loop-i.so_far.found.words Y
    × Recording (sets c.args.order.now c.args.count (members x)) (c.args.count + size x) Y c.loop-i.order c.loop-i.so_far.count)
    (next_word c.loop-w.w x (proper (search rules) (λ w. search rules)) c.in-None.ensures.steps.0) (so.1, so.2)

pub returns : goal.returns
unfolding successors_by
returns c =
    let so = c.loop-w.invariant in
    let none = past_words c.loop-w.w c.args.x.words (proper (search rules) (λ w. search rules)) (search rules) in
    let recorded = record_end so.1 none in
    (recorded.1, join_end _ _ none so.0, recorded.0)
