-- The proof of specs/Examples: each figure by computation.
--
--   computes      names what has to unfold: to unfold it is to unfold all of that
use mathlib.Core.Path.{refl}
use Rattle.basics.specs.Bounds.{any, all, first, filter, tabulate, concat}
use Rattle.model.specs.Sets.{bit, member, number, set_of, empty, single, union, meet, difference, subset, meets, states, first_states, members, size, smallest, image}
use Rattle.model.specs.Tables.{is_dead_end, is_hang, hangs, post, hold, cover_of, cover, not_forbidden}
use Rattle.model.specs.Rounds.{iterate, forward_step, forward, backward_step, backward, round_of, first_round, next_round, is_safe, is_unsafe, settle, rounds, run}
use Rattle.model.specs.Paths.{reaching, distance, shortest, walk, smallest_path}
use Rattle.model.specs.Stores.{set_at, dialogue_of, table_of, layout}
use Rattle.model.specs.Calls.{overwrite, decision_of}
use Rattle.model.specs.Resting.{rested}
use Rattle.core_table.specs.Writing.{overwrite_from}
use Rattle.core_reach.specs.Reached.{reach_step, reachable}
use Rattle.call_paths.specs.Within.{can_reach, is_within}
use Rattle.core_fixpoints.specs.Order.{pass_at, order_of, first_pass, later_pass, forward_order}
use Rattle.call_replay.specs.Logs.{entry, may_hold, followed, seen, percent_of, remainder_of, walk_through}
use Rattle.call_edit_session.specs.Edits.{row_after, edited, opened, reachable_after}
use Rattle.call_modal.specs.Modal.{table_with, modal_forbidden, release_check, modal_of}
use Rattle.examples_calls.specs.Examples.{Examples}

computes : Type 0
unfolding any all first filter tabulate concat bit member number set_of empty single union meet difference subset meets states first_states members size smallest image is_dead_end is_hang hangs post hold cover_of cover not_forbidden iterate forward_step forward backward_step backward round_of first_round next_round is_safe is_unsafe settle rounds run reaching distance shortest walk smallest_path set_at dialogue_of table_of layout overwrite decision_of rested overwrite_from reach_step reachable can_reach is_within pass_at order_of first_pass later_pass forward_order entry may_hold followed seen percent_of remainder_of walk_through row_after edited opened reachable_after table_with modal_forbidden release_check modal_of
computes = Unit {0}

pub examples : Examples
unfolding computes
examples =
    record {
      post_E = refl;
      hold_E = refl;
      covers_E = refl;
      order_D = refl;
      held = refl;
      added = (refl, refl);
      distances_B = refl;
      within_B = (refl, refl);
      distances_A = refl;
      within_A = λ k. refl;
      log_B = refl;
      entries = refl;
      session_B = (refl, refl, refl, refl);
      depends = (refl, refl);
      possible = refl;
      certain = (refl, refl);
    }
