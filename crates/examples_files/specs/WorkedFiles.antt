-- What is printed for the files of tables E, B and G, as the specification shows it ("The program"). `WorkedFilesKept.worked_files` proves it.
--
--   WorkedFiles     each text, of the file of site 0
use Rattle.std.specs.Prelude.{◌≡◌}
use Rattle.model.specs.Contents.{new_form}
use Rattle.model.specs.Files.{file_of}
use Rattle.examples_tables.specs.Tables as table
use Rattle.examples_tables.specs.Worked.{held}
use Rattle.core_report.specs.Text.{ascii}
use Rattle.call_check.specs.CheckText.{check_text}

pub record WorkedFiles : Type 0 where
  pub E : check_text (file_of new_form 0 (held table.E)) 0 ≡ ascii "states 3 groups 0\nsafe refinements 1\ninvariant 1: 0\n"
  pub B : check_text (file_of new_form 0 (held table.B)) 0 ≡ ascii "states 5 groups 0\nunsafe refinements 3\npath 0 1 2 3\n"
  pub G : check_text (file_of new_form 0 (held table.G)) 0 ≡ ascii "states 1 groups 0\nsafe refinements 0\ninvariant 0: none\n"
