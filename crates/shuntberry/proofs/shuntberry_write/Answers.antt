-- `shuntberry_write`: the answer of `write`, whose length is small, laid out.
use Prim.Native.Nat.{ℕ, ◌≤◌}
use Rattle.model.specs.Files.{max_file}
use Rattle.model.proofs.RangesOfAnswers.{write_range}
use Rattle.shuntberry_fields.proofs.FieldsAnswered.{where_answered}
use Rattle.shuntberry.proofs.shuntberry_write.Goals as goal

pub lay_out_file-requires : goal.lay_out_file-requires
lay_out_file-requires c = where_answered (λ (l : ℕ). l ≤ max_file) c.write.ensures.0 (λ a e. write_range _ _ _ _ _ e)
