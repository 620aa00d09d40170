-- `non_zero_byte`: the bytes joined are 0 just where each of them is.
use mathlib.Core.Path.{◌≡◌, ap, ◌∙◌}
use mathlib.Core.Bool.{not}
use borrow.Author.Rules.{rules}
use lib.Bits.{bit_or}
use lib.Dec.{eqb}
use Rattle.std.specs.List.{fold}
use Rattle.std.proofs.iter.runs.Made.{chains}
use Rattle.file_contents_reading.proofs.BytesJoined.{non_zero_joined}
use Rattle.file_contents_reading.proofs.non_zero_byte.Goals as goal

pub returns : goal.returns
returns c =
    let ran : c.fold.result ≡ fold bit_or 0 c.args.bytes.now = search (rules, chains) in
    ap (λ x. not (eqb x 0)) ran ∙ non_zero_joined _
