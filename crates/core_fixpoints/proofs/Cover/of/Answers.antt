-- `Cover::of`: the row of the least state, and the cover of what that row does not have.
use mathlib.Core.Path.{sym, ap, ◌∙◌}
use mathlib.Core.Logic.{∥∥₁_elim}
use Rattle.std.proofs.Props.{props}
use Rattle.model.specs.Sets.{max_states, union}
use Rattle.model.proofs.SetsMembers.{In, in_bound, empty_in, in_subset, ⊆-of-eq}
use Rattle.model.proofs.SetsImages.{image-none}
use Rattle.core_fixpoints.specs.Steps.{cover_by}
use Rattle.core_fixpoints.proofs.Bridge.{cover_by-rest}
use Rattle.core_fixpoints.proofs.Cover.of.Goals as goal

pub returns-in-None : goal.returns-in-None
unfolding cover_by
returns-in-None c =
    c.empty.ensures
    ∙ sym (image-none max_states _ _ (in_subset (λ t h. absurd (empty_in (⊆-of-eq (sym c.states.ensures ∙ c.in-None.ensures.steps.0) t h)))))

pub row_of-first-requires : goal.row_of-first-requires
row_of-first-requires c = in_bound (record { is = c.in-Some.ensures.steps.0 })

pub returns-in-Some : goal.returns-in-Some
unfolding cover_by
returns-in-Some c =
    let taken : In c.args.x.words _ = ⊆-of-eq c.states.ensures _ (record { is = c.in-Some.ensures.steps.0 }) in
    c.union.ensures
    ∙ ap (union c.row_of-first.result.words) (c.union_of.ensures ∙ ap (cover_by c.args.self.rows.now) c.difference.ensures)
    ∙ ∥∥₁_elim c.args.self.is_cover (search props) (λ k. cover_by-rest _ k _ taken c.row_of-first.ensures)
