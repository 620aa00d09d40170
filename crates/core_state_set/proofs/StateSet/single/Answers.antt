-- `StateSet::single`: what is joined to the empty set.
use mathlib.Core.Path.{◌∙◌, ap}
use Rattle.model.specs.Sets.{Set, empty, single, union}
use Rattle.model.proofs.SetsMembers.{set_of_proper, union_comm, union-empty}
use Rattle.core_state_set.proofs.StateSet.single.Goals as goal

pub returns : goal.returns
unfolding single
returns c =
    c.with.ensures ∙ ap (λ (X : Set). union X (single c.args.s)) c.empty.ensures
    ∙ union_comm empty _ ∙ union-empty _ (set_of_proper _)
