-- Laws of blocks that reading and writing share.
--
--   get_or-joined                             contents joined in a buffer of zeros
--   sets_fit, contents_fit, contents_le     the length of the contents fits a word, and is at most that of the largest table
use Prim.Native.Nat.{ℕ, ◌+◌, ◌*◌, ◌^◌, ◌≤◌, ◌<◌}
use native.Mathlib.Nat.{mul-le-mul}
use native.Mathlib.Omega.{arith}
use mathlib.Core.Path.{◌≡◌, sym, ◌∙◌}
use mathlib.Core.Logic.{⊎_elim}
use mathlib.Core.List.{List, []}
use lib.ListN.{length, get_or, replicate}
use Rattle.model.specs.Sets.{WORDS, max_states}
use Rattle.model.specs.Stores.{head_sets, max_groups}
use Rattle.model.specs.Contents.{new_form, header_bytes, content_length}
use Rattle.model.specs.Calls.{overwrite}
use Rattle.basics.proofs.BoundLaws.{lt_or_ge}
use Rattle.model.proofs.ListsInParts.{overwrite_front, overwrite_behind, get_or_past}
use Rattle.model.proofs.BlockLaws.{get_or_filled}

-- the room is a variable, since its zeros would be written out
pub get_or-joined : (contents : List ℕ) (m i : ℕ) → get_or (overwrite contents (replicate m 0)) i 0 ≡ get_or contents i 0
get_or-joined contents m i =
    ⊎_elim
    (λ l. overwrite_front contents (replicate m 0) i 0 l)
    (λ l. overwrite_behind contents (replicate m 0) i 0 l ∙ get_or_filled [] m i ∙ sym (get_or_past contents i 0 l))
    (lt_or_ge i (length contents))

-- w bytes for each of so many sets
module _ {w count : ℕ} (width : w ≤ 8 * WORDS) (many : count ≤ head_sets + max_groups + max_states) where
  sets_le : w * count ≤ 8 * WORDS * (head_sets + max_groups + max_states)
  sets_le = mul-le-mul width many

  pub sets_fit : w * count < 2 ^ 64
  sets_fit = omega (arith, sets_le)

  pub contents_fit : header_bytes + w * count < 2 ^ 64
  contents_fit = omega (arith, sets_le)

  pub contents_le : header_bytes + w * count ≤ content_length new_form max_states max_groups
  contents_le = omega (arith, sets_le)
