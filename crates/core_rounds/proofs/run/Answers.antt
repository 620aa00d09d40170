-- `run`: each turn adds the Z of a round to the cover of the groups, and what it computes is the model's round.
use mathlib.Core.Path.{ap, ◌∙◌}
use borrow.Author.Rules.{rules}
use Rattle.core_rows.specs.Rows.{groups_in, table_on}
use Rattle.core_rows.proofs.RowsLent.{on_rows}
use Rattle.core_fixpoints.specs.Steps.{steps_by_word}
use Rattle.core_rounds.proofs.Adding.{groups_cover}
use Rattle.core_rounds.proofs.Running.{run_start, is-cover, run-safe, run-unsafe, run-undecided, run_turn}
use Rattle.core_rounds.proofs.run.Goals as goal

pub loop-count-init : goal.loop-count-init
unfolding table_on
loop-count-init c =
    let a = c.args in
    run_start _ _ (on_rows a.n a.initial.words a.forbidden.words (groups_in a.groups.now a.g) a.steps.words.now)
    (groups_cover _ _ c.first_states-all.ensures c.add_groups.ensures) c.not_forbidden-z.ensures

pub conclude-requires : goal.conclude-requires
unfolding table_on
conclude-requires c =
    record {
      is-cover = is-cover c.loop-count.invariant c.narrow.ensures;
      steps_are = c.steps_by_word-by_word.ensures ∙ ap (steps_by_word c.args.steps.words.now) c.first_states-all.ensures;
    }

pub invariant_of-conclude : goal.invariant_of-conclude
unfolding table_on
invariant_of-conclude c = record { is_cover = ∣ is-cover c.loop-count.invariant c.narrow.ensures ∣₁ }

pub returns-in-Safe : goal.returns-in-Safe
unfolding table_on
returns-in-Safe c = run-safe c.loop-count.invariant c.narrow.ensures c.conclude.ensures _ c.in-Safe.is (search rules)

pub returns-in-Unsafe : goal.returns-in-Unsafe
unfolding table_on
returns-in-Unsafe c = run-unsafe c.loop-count.invariant c.narrow.ensures c.conclude.ensures _ c.in-Unsafe.is (search rules)

pub loop-count-preserved : goal.loop-count-preserved
unfolding table_on
loop-count-preserved c = run_turn c.loop-count.invariant c.narrow.ensures c.conclude.ensures c.in-Open.is

pub returns-in-Open : goal.returns-in-Open
unfolding table_on
returns-in-Open c = run-undecided c.loop-count.invariant c.narrow.ensures c.conclude.ensures _ c.in-Open.is (search rules)
