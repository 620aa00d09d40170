-- `forbidden_by`: the marked states, and the hangs of the rows.
use mathlib.Core.Path.{◌≡◌, ap, ap₂, ◌∙◌}
use Rattle.model.specs.Sets.{union}
use Rattle.model.specs.Tables.{hangs}
use Rattle.model.specs.Stores.{set_at, marked_at, resting_at}
use Rattle.core_rows.proofs.forbidden_by.Goals as goal

pub returns : goal.returns
returns c =
    let store = c.args.store.words.now in
    let marked : c.set_at-2.result.words ≡ set_at store marked_at = c.set_at-2.ensures in
    let resting : c.set_at.result.words ≡ set_at store resting_at = c.set_at.ensures in
    c.union.ensures ∙ ap₂ union marked (c.hangs-hung.ensures ∙ ap (hangs _ _) resting)
