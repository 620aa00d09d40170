-- `mark`: with the states that are left marked, all are.
use mathlib.Core.Path.{refl, sym, ap, ◌∙◌}
use borrow.Author.Rules.{rules}
use Rattle.model.specs.Sets.{Set}
use Rattle.model.proofs.SetsMembers.{Proper}
use Rattle.core_state_set.proofs.SetsWords.{proper}
use Rattle.core_state_set.proofs.SetsStates.{left_start}
use Rattle.core_rows.specs.Rows.{map_at}
use Rattle.core_rows.proofs.SetsJoined.{one_taken, one_less, past_words, next_word}
use Rattle.core_rows.proofs.RowsMapped.{mapping_turn, mapping_end}
use Rattle.call_distances.proofs.mark.Goals as goal

pub loop-w-init : goal.loop-w-init
loop-w-init c =
    ap (λ (Y : Set). map_at Y (λ _. c.args.d) 0 c.args.distances.now) (left_start _ (proper (search rules) (λ w. search rules)))

pub loop-i-init : goal.loop-i-init
loop-i-init c =
    let set : Proper c.args.layer.words = proper (search rules) (λ w. search rules) in
    rw c.into_iter-i-iterator.ensures.into_iter_gives (set.fits _ c.loop-w-test.true, c.loop-w.invariant)

pub loop-i-preserved : goal.loop-i-preserved
loop-i-preserved c =
    let fits = c.loop-i.invariant.0 in (
      one_less fits c.in-Some.ensures.steps,
      mapping_turn _ _ _ _ (one_taken fits c.in-Some.ensures.steps c.loop-w.w c.args.layer.words (search rules)) refl c.loop-i.invariant.1,
    )

pub loop-w-preserved : goal.loop-w-preserved
loop-w-preserved c =
    ap (λ (Y : Set). map_at Y (λ _. c.args.d) 0 c.loop-i.distances)
    (sym (next_word c.loop-w.w c.args.layer.words (proper (search rules) (λ w. search rules)) c.in-None.ensures.steps.0))
    ∙ c.loop-i.invariant.1

pub returns : goal.returns
returns c = mapping_end _ _ _ (past_words _ _ (proper (search rules) (λ w. search rules)) (search rules)) c.loop-w.invariant
