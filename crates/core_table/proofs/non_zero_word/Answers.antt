-- `non_zero_word`: the words joined are 0 just where each of them is.
use borrow.Author.Rules.{rules}
use mathlib.Core.Path.{◌≡◌, ap, ◌∙◌}
use Prim.Native.Nat.{ℕ, ◌-◌}
use mathlib.Core.Bool.{not}
use lib.Bits.{bit_or}
use lib.Dec.{eqb}
use lib.ListN.{take, drop}
use Rattle.std.specs.List.{fold}
use Rattle.std.proofs.iter.runs.Made.{chains}
use Rattle.core_table.proofs.StoresGrounds.{non_zero_joined}
use Rattle.core_table.proofs.non_zero_word.Goals as goal

pub returns : goal.returns
returns c =
    let ran : c.fold.result ≡ fold bit_or 0 (take (c.args.to - c.args.from) (drop c.args.from c.args.store.now)) = search (rules, chains) in
    ap (λ (x : ℕ). not (eqb x 0)) ran ∙ non_zero_joined _ _ _ (search rules) (search rules)
