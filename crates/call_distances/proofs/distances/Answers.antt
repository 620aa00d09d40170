-- `distances`: the grounds in their order, then the distances of the first n states.
use mathlib.Core.Path.{sym, ◌∙◌}
use lib.Seq.{length-take-le}
use Rattle.model.proofs.SetsMembers.{empty_in}
use Rattle.core_refusals.proofs.RefusalsPassed.{passed_on}
use Rattle.call_paths.proofs.Groups.{holds-states}
use Rattle.call_paths.proofs.PathsAnswered.{accepted}
use Rattle.call_distances.proofs.DistancesAnswered.{all_long, distances-refused, distances-short, distances-written}
use Rattle.call_distances.proofs.distances.Goals as goal

pub returns-in_err-store : goal.returns-in_err-store
returns-in_err-store c = rw (passed_on _ c.from_residual.ensures.1) (distances-refused _ _ _ _ _ c.in_err-store.ensures.0)

pub returns-then-out-n : goal.returns-then-out-n
returns-then-out-n c = distances-short _ _ _ _ (accepted c.in_ok-store.ensures.0) c.if-out-n.true

pub all_distances-known-requires : goal.all_distances-known-requires
all_distances-known-requires c =
    let ok = c.in_ok-store.ensures in
    rw (c.of.ensures, ok.1) (holds-states _ _ _ (rw ok.1 at c.forbidden.ensures) (accepted ok.0) (λ s h. absurd (empty_in h)))

pub slice_bounds-known-end : goal.slice_bounds-known-end
slice_bounds-known-end c = all_long _ c.all_distances-known.ensures (accepted c.in_ok-store.ensures.0).small

pub slice_bounds-copy_from_slice-end-3 : goal.slice_bounds-copy_from_slice-end-3
slice_bounds-copy_from_slice-end-3 c = sym (length-take-le _ _ (all_long _ c.all_distances-known.ensures (accepted c.in_ok-store.ensures.0).small))

pub copy_from_slice-requires : goal.copy_from_slice-requires
copy_from_slice-requires c =
    length-take-le _ _ c.if-out-n.false
    ∙ sym (length-take-le _ _ (all_long _ c.all_distances-known.ensures (accepted c.in_ok-store.ensures.0).small))

pub returns : goal.returns
returns c =
    let ok = c.in_ok-store.ensures in
    distances-written _ _ _ _ (accepted ok.0) c.if-out-n.false (rw ok.1 at c.forbidden.ensures)
    (rw (c.of.ensures, ok.1) at c.all_distances-known.ensures) c.copy_from_slice.ensures.after
