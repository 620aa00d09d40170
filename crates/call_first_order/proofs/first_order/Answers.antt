-- `first_order`: the grounds, then the order that `forward` gives with the cover of the first round.
use mathlib.Core.Path.{ap, ◌∙◌}
use Rattle.model.specs.Tables.{not_forbidden}
use Rattle.core_refusals.proofs.RefusalsPassed.{passed_on}
use Rattle.core_rows.proofs.RowsLent.{groups-long}
use Rattle.core_rounds.proofs.Adding.{groups_cover}
use Rattle.call_first_order.proofs.FirstCover.{first_cover, order_refused, accepted, order_listed}
use Rattle.call_first_order.proofs.first_order.Goals as goal

pub returns-in_err-store : goal.returns-in_err-store
returns-in_err-store c = rw (passed_on _ c.from_residual.ensures.1) (order_refused _ _ _ _ c.in_err-store.ensures.0)

pub add_groups-requires : goal.add_groups-requires
add_groups-requires c =
    let ok = c.in_ok-store.ensures in
    let held = accepted _ _ _ ok.0 in
    rw ok.1 (held.few, groups-long c.args.store.now held.long)

pub invariant_of-forward : goal.invariant_of-forward
invariant_of-forward c =
    record { is_cover = ∣ record { n = _; list = _; is = first_cover _ _ _ _ (groups_cover _ _ c.first_states.ensures c.add_groups.ensures) c.narrow.ensures } ∣₁ }

pub returns : goal.returns
returns c =
    let ok = c.in_ok-store.ensures in
    order_listed _ _ _ ok.0 (accepted _ _ _ ok.0).small
    (c.not_forbidden-z.ensures ∙ ap (not_forbidden _) (rw ok.1 at c.forbidden.ensures))
    (rw ok.1 at (first_cover _ _ _ _ (groups_cover _ _ c.first_states.ensures c.add_groups.ensures) c.narrow.ensures))
    (rw ok.1 at c.initial.ensures) (rw (c.of.ensures, ok.1) at c.forward-reached.ensures.1) (rw (c.of.ensures, ok.1) at c.forward-reached.ensures.2)
