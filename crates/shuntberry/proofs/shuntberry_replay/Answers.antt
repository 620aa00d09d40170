-- `shuntberry_replay`: the answer of `replay`, whose numbers are small, laid out.
use Rattle.call_replay.proofs.ReplayRanges.{ReplayRange, replay_range}
use Rattle.shuntberry_fields.proofs.FieldsAnswered.{where_answered}
use Rattle.shuntberry.proofs.shuntberry_replay.Goals as goal

pub lay_out_replay-requires : goal.lay_out_replay-requires
lay_out_replay-requires c = where_answered ReplayRange c.replay.ensures (λ a e. replay_range _ _ _ _ e)
