-- `shuntberry_rewrite`: the answer of `rewrite`, whose length is small, laid out.
use Prim.Native.Nat.{ℕ, ◌≤◌}
use native.Mathlib.Omega.{arith}
use mathlib.Core.Path.{◌≡◌}
use mathlib.Core.List.{List}
use lib.ListN.{replicate}
use Rattle.basics.specs.Refusals.{answered}
use Rattle.model.specs.Stores.{store_words}
use Rattle.model.specs.Contents.{old_form, new_form}
use Rattle.model.specs.Files.{max_file}
use Rattle.model.specs.Calls.{states_in, groups_in}
use Rattle.model.proofs.FileLaws.{file_length-most}
use Rattle.model.proofs.CallLaws.{read_none}
use Rattle.model.proofs.RoundTrips.{taken}
use Rattle.call_rewrite.specs.RewriteAnswers.{rewrite_answer}
use Rattle.call_rewrite.proofs.RewriteAnswered.{new_long, answered_old}
use Rattle.shuntberry_fields.proofs.FieldsAnswered.{where_answered}
use Rattle.shuntberry.proofs.shuntberry_rewrite.Goals as goal

rewrite_range : (input : List ℕ) (room : ℕ) {l : ℕ} → rewrite_answer input room ≡ answered l → l ≤ max_file
rewrite_range input room e =
    let told = answered_old input room e in
    let old = (read_none old_form input 0 store_words told.0).0 in
    let facts = taken old_form input 0 store_words old in
    omega (
      arith,
      told.1,
      new_long input old (replicate store_words 0) (omega arith),
      file_length-most new_form (states_in input) (groups_in old_form input) facts.small facts.few,
    )

pub lay_out_file-requires : goal.lay_out_file-requires
lay_out_file-requires c = where_answered (λ (l : ℕ). l ≤ max_file) c.rewrite.ensures.0 (λ a e. rewrite_range _ _ e)
