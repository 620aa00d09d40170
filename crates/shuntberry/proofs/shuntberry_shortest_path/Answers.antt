-- `shuntberry_shortest_path`: the answer of `shortest_path`, whose steps are few, laid out.
use Prim.Native.Nat.{◌≤◌}
use Rattle.model.specs.Sets.{max_states}
use Rattle.model.specs.Calls.{Shortest}
use Rattle.model.proofs.RangesOfAnswers.{shortest_range}
use Rattle.shuntberry_fields.proofs.FieldsAnswered.{where_answered}
use Rattle.shuntberry.proofs.shuntberry_shortest_path.Goals as goal

abbrev few : Shortest → Type 0
few a = a.steps ≤ max_states

pub lay_out_shortest-requires : goal.lay_out_shortest-requires
lay_out_shortest-requires c = where_answered few c.shortest_path.ensures.0 (λ a e. shortest_range _ _ _ _ e)
