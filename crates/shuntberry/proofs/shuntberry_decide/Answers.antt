-- `shuntberry_decide`: the answer of `decide`, whose numbers are small, laid out.
use Rattle.model.proofs.RangesOfAnswers.{DecisionRange, decide_range}
use Rattle.shuntberry_fields.proofs.FieldsAnswered.{where_answered}
use Rattle.shuntberry.proofs.shuntberry_decide.Goals as goal

pub lay_out_decision-requires : goal.lay_out_decision-requires
lay_out_decision-requires c = where_answered DecisionRange c.decide.ensures.0 (λ a e. decide_range _ _ _ _ _ e)
