-- What the program writes for a file (the specification, "Rewriting an old file").
--
--   rewrite_text input    the new file of an old one, or the refusal of the old form, both of site 0
use Rattle.std.specs.Prelude.{ℕ, List}
use Rattle.model.specs.Stores.{store_words}
use Rattle.model.specs.Contents.{old_form}
use Rattle.model.specs.Calls.{read_answer_as}
use Rattle.core_report.specs.Text.{text_of}
use Rattle.theorems_rewriting.specs.Rewriting.{new_file}

unfoldable pub rewrite_text : List ℕ → List ℕ
rewrite_text input = text_of (λ a. new_file input) (read_answer_as old_form input 0 store_words)
