-- `join_rows`: what is found, with the image of the states that are left, is the whole.
use mathlib.Core.Path.{sym, ap, ◌∙◌, subst}
use borrow.Author.Rules.{rules}
use Rattle.model.specs.Sets.{Set, max_states, union, image}
use Rattle.model.proofs.SetsMembers.{Proper, empty_proper, in_bound}
use Rattle.model.proofs.SetsImages.{join_turn, join_end}
use Rattle.core_state_set.proofs.SetsWords.{proper}
use Rattle.core_state_set.proofs.SetsStates.{left_start}
use Rattle.core_rows.proofs.SetsJoined.{one_taken, one_less, past_words, next_word, joined_to_none}
use Rattle.core_rows.proofs.join_rows.Goals as goal

pub loop-w-init : goal.loop-w-init
loop-w-init g c =
    record {
      proper = subst Proper (sym c.empty-found.ensures) empty_proper;
      whole =
          ap (λ (Y : Set). union c.empty-found.result.words (image max_states (g.R.Relation.row_in c.args.rows) Y)) (left_start _ (proper (search rules) (λ w. search rules)))
          ∙ joined_to_none _ _ c.empty-found.ensures;
    }

pub row_at-requires : goal.row_at-requires
row_at-requires g c =
    let taken = one_taken c.loop-i.invariant.0 c.in-Some.ensures.steps c.loop-w.w c.args.x.words (search rules) in
    in_bound (record { is = taken.0 })

pub loop-i-init : goal.loop-i-init
loop-i-init g c =
    let set : Proper c.args.x.words = proper (search rules) (λ w. search rules) in
    rw c.into_iter-i-iterator.ensures.into_iter_gives (set.fits _ c.loop-w-test.true, c.loop-w.invariant)

pub loop-i-preserved : goal.loop-i-preserved
loop-i-preserved g c =
    let fits = c.loop-i.invariant.0 in
    let taken = one_taken fits c.in-Some.ensures.steps c.loop-w.w c.args.x.words (search rules) in (
      one_less fits c.in-Some.ensures.steps,
      join_turn (g.R.Relation.row_in c.args.rows) _ (record { is = taken.0 })
          (c.union-found.ensures ∙ ap (union c.loop-i.found.words) c.row_at.ensures) taken.1 c.loop-i.invariant.1,
    )

pub loop-w-preserved : goal.loop-w-preserved
loop-w-preserved g c =
    let so = c.loop-i.invariant.1 in
    record {
      proper = so.proper;
      whole =
          ap (λ (Y : Set). union c.loop-i.found.words (image max_states (g.R.Relation.row_in c.args.rows) Y))
          (sym (next_word c.loop-w.w c.args.x.words (proper (search rules) (λ w. search rules)) c.in-None.ensures.steps.0))
          ∙ so.whole;
    }

pub returns : goal.returns
returns g c = join_end _ _ (past_words _ _ (proper (search rules) (λ w. search rules)) (search rules)) c.loop-w.invariant
