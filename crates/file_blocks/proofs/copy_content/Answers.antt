-- `copy_content`: the front of what is lent, which is copied over.
use native.Mathlib.Omega.{arith}
use mathlib.Core.Path.{◌≡◌, sym, ap, ap₂, ◌∙◌}
use mathlib.Core.List.{◌++◌}
use Prim.Native.Nat.{ℕ, ◌+◌, ◌-◌}
use lib.ListN.{take, drop, length-take, length-drop}
use lib.Seq.{length-take-le}
use Rattle.model.specs.Blocks.{content_bytes}
use Rattle.model.specs.Calls.{overwrite}
use Rattle.file_blocks.proofs.copy_content.Goals as goal

pub copy_from_slice-requires : goal.copy_from_slice-requires
copy_from_slice-requires c = simp (length-take, length-drop) (omega arith)

pub returns : goal.returns
unfolding overwrite
returns c =
    let args = c.args in
    let rest = drop args.from args.bytes.now in
    let all : args.from + content_bytes - args.from ≡ content_bytes = omega arith in
    let long = length-take-le content_bytes rest (omega (arith, length-drop args.from args.bytes.now)) in
    ap₂ (λ xs (m : ℕ). xs ++ drop m args.out.now) (c.copy_from_slice.ensures.after ∙ ap (λ (m : ℕ). take m rest) all) (sym long)
