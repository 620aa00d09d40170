-- `Cover::joining`: the calls, one in the other.
use mathlib.Core.Path.{ap, ◌∙◌}
use Rattle.model.specs.Sets.{Set, difference}
use Rattle.core_fixpoints.specs.Steps.{cover_by}
use Rattle.core_fixpoints.proofs.Cover.joining.Goals as goal

pub returns : goal.returns
returns c =
    let a = c.args in
    c.difference-2.ensures
    ∙ ap (λ (X : Set). difference X a.r.words)
    (c.of.ensures
    ∙ ap (cover_by a.self.rows.now) (c.difference.ensures ∙ ap (λ (X : Set). difference X a.r.words) c.meet.ensures))
