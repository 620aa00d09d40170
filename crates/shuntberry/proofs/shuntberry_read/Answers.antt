-- `shuntberry_read`: the answer of `read`, whose numbers are small, laid out.
use Rattle.model.proofs.RangesOfAnswers.{ReadRange, read_range}
use Rattle.shuntberry_fields.proofs.FieldsAnswered.{where_answered}
use Rattle.shuntberry.proofs.shuntberry_read.Goals as goal

pub lay_out_table-requires : goal.lay_out_table-requires
lay_out_table-requires c = where_answered ReadRange c.read.ensures.0 (λ a e. read_range _ _ _ e)
