-- Contents joined in a buffer of zeros, and their blocks.
--
--   contents-room, length-joined         the buffer has room for the contents of every table, and stays as long
--   blocks-joined                        the blocks of contents in it are those of the contents
use Prim.Native.Nat.{ℕ, ◌+◌, ◌*◌, ◌≤◌}
use native.Mathlib.Omega.{arith}
use mathlib.Core.Path.{◌≡◌, sym, ap, ◌∙◌}
use mathlib.Core.List.{List}
use lib.ListN.{length, replicate, length-replicate}
use Rattle.model.specs.Sets.{WORDS, max_states}
use Rattle.basics.specs.Bounds.{concat}
use Rattle.model.specs.Stores.{head_sets, max_groups, dialogue_of}
use Rattle.model.specs.Blocks.{content_bytes, block_of}
use Rattle.model.specs.Contents.{new_form, set_width, contents, content_length}
use Rattle.model.specs.Calls.{overwrite}
use Rattle.basics.proofs.BoundLaws.{length-tabulate}
use Rattle.model.proofs.ListsInParts.{concat_cong, length-overwrite}
use Rattle.model.proofs.BlockLaws.{block_unique, block_of-is}
use Rattle.model.proofs.ContentLaws.{length-contents}
use Rattle.file_blocks.proofs.ContentsLength.{contents_le, get_or-joined}

abbrev none : ℕ → List ℕ
none m = replicate m 0

-- over a variable, since the zeros would be written out
module _ {n g : ℕ} (small : n ≤ max_states) (few : g ≤ max_groups) (m : ℕ) (most : content_length new_form max_states max_groups ≤ m) where
  pub contents-room : content_length new_form n g ≤ length (none m)
  contents-room =
      let wide : set_width n ≤ 8 * WORDS = omega (arith, small) in
      let many : head_sets + g + n ≤ head_sets + max_groups + max_states = omega (arith, small, few) in
      omega (arith, contents_le wide many, length-replicate {A = ℕ} m 0)

  pub length-joined : (store : List ℕ) {joined : List ℕ} → joined ≡ overwrite (contents new_form (dialogue_of store n g)) (none m) → length joined ≡ m
  unfolding dialogue_of
  length-joined store e =
      let bytes = contents new_form (dialogue_of store n g) in
      ap (λ (xs : List ℕ). length xs) e
      ∙ length-overwrite bytes (none m) (omega (arith, length-contents new_form (dialogue_of store n g) (length-tabulate _ g), contents-room))
      ∙ length-replicate {A = ℕ} m 0

-- contents in a buffer of zeros
module _ (bytes : List ℕ) (m : ℕ) where
  block-joined : (site k : ℕ) → block_of site (overwrite bytes (none m)) k ≡ block_of site bytes k
  block-joined site k =
      let block = block_of-is site bytes k in
      block_unique (block_of-is site (overwrite bytes (none m)) k)
      (record {
        long = block.long;
        holds-number = block.holds-number;
        holds-content = λ i h. block.holds-content i h ∙ sym (get_or-joined bytes m (content_bytes * k + i));
        holds-check = block.holds-check;
      })

  pub blocks-joined : (site blocks : ℕ) {joined : List ℕ} (old out : List ℕ) → joined ≡ overwrite bytes (none m) → out ≡ overwrite (concat blocks (block_of site joined)) old
      → out ≡ overwrite (concat blocks (block_of site bytes)) old
  blocks-joined site blocks old out e f =
      f
      ∙ ap (λ xs. overwrite xs old)
      (ap (λ ys. concat blocks (block_of site ys)) e ∙ concat_cong _ (block_of site bytes) blocks (λ k h. block-joined site k))
