-- The file that write leaves (file-is), in a file of its own, so that an edit of what write leaves can bring it along.
use Prim.Native.Nat.{ℕ}
use mathlib.Core.Path.{◌≡◌, ap, ◌∙◌}
use mathlib.Core.List.{List}
use lib.ListN.{length, take}
use Rattle.basics.proofs.BoundLaws.{length-tabulate}
use Rattle.model.specs.Stores.{dialogue_of}
use Rattle.model.specs.Contents.{new_form}
use Rattle.model.specs.Files.{file_of, file_length}
use Rattle.model.specs.Calls.{write_buffer}
use Rattle.model.proofs.ListsInParts.{take-overwrite}
use Rattle.model.proofs.FileLaws.{length-file_of}
use Rattle.model.proofs.CallLaws.{Writable, write-buffer}

-- the file that write leaves at the front of its output
pub file-is : (store : List ℕ) (n g site : ℕ) (out : List ℕ) → Writable store n g site (length out)
    → take (file_length new_form n g) (write_buffer store n g site out) ≡ file_of new_form site (dialogue_of store n g)
unfolding dialogue_of
file-is store n g site out w =
    ap (take (file_length new_form n g)) (write-buffer store n g site out w)
    ∙ take-overwrite (file_of new_form site (dialogue_of store n g)) out (file_length new_form n g) (length-file_of new_form site (dialogue_of store n g) (length-tabulate _ g))
