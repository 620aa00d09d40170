-- `within`: the shared grounds, then whether a forbidden state is met.
use Rattle.std.proofs.Common.{ap, ◌∙◌, Option, ℕ}
use Rattle.model.specs.Stores.{table_of}
use Rattle.model.proofs.StoresAccepted.{well_formed}
use Rattle.core_refusals.proofs.RefusalsPassed.{passed_on}
use Rattle.core_rows.proofs.RowsLent.{store_rows}
use Rattle.call_paths.specs.Search.{steps_within}
use Rattle.call_paths.proofs.Duality.{first_found, found_within}
use Rattle.call_paths.proofs.PathsAnswered.{accepted, within-refused, within-answered}
use Rattle.call_paths.proofs.within.Goals as goal

pub returns-in_err-store : goal.returns-in_err-store
returns-in_err-store c = rw (passed_on _ c.from_residual.ensures.1) (within-refused _ _ _ _ _ c.in_err-store.ensures.0)

-- what was found says whether there is a path of at most k steps
pub returns : goal.returns
unfolding table_of
returns c =
    let a = c.args in
    let ok = c.in_ok-store.ensures in
    let held = accepted ok.0 in
    let formed = well_formed _ _ _ held in
    within-answered _ _ _ _ ok.0
    (c.is_within.ensures
    ∙ ap (λ (r : Option ℕ). steps_within r a.k)
    (rw (c.of.ensures, c.initial.ensures, c.forbidden.ensures, ok.1) at c.first_layer-found.ensures.0
    ∙ first_found formed _ (store_rows _ _ 0) held.small)
    ∙ found_within formed _ (store_rows _ _ 0) held.small a.k)
