-- `shuntberry_decide_modal`: the answer of `decide_modal`, whose numbers are small, laid out.
use Rattle.call_modal.proofs.ModalRanges.{ModalRange, modal_range}
use Rattle.shuntberry_fields.proofs.FieldsAnswered.{where_answered}
use Rattle.shuntberry.proofs.shuntberry_decide_modal.Goals as goal

pub lay_out_modal-requires : goal.lay_out_modal-requires
lay_out_modal-requires c = where_answered ModalRange c.decide_modal.ensures.0 (λ a e. modal_range _ _ _ _ _ e)
