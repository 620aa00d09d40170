-- Laws of files: the file of a table, and the contents form that are read from it.
--
--   length-block_file, part-block_file          the contents of a table in blocks: the length, and the blocks
--   contents_of-block_file                      what is read from them are those contents, with zeros behind
--   file-draft, file-blocks                   the file of a table, without states and with some; length-draft, length-blocks
--   length-file_of                             how long it is
--   file_length-most                           no file is longer than the largest
use Prim.Native.Nat.{ℕ, ◌+◌, ◌*◌, ◌/◌, ◌%◌, ◌≤◌, ◌<◌}
use native.Mathlib.Nat.{mul-le-mul, div-add-mod}
use native.Mathlib.Omega.{arith}
use mathlib.Core.Path.{◌≡◌, refl, sym, ap, ◌∙◌, subst}
use mathlib.Core.Logic.{⊎_elim}
use mathlib.Core.List.{[]}
use borrow.Author.Tests.{eq-eqb, ne_eqb}
use lib.Dec.{eqb}
use lib.ListN.{length, get_or}
use Rattle.model.specs.Sets.{max_states}
use Rattle.model.specs.Tables.{Dialogue}
use Rattle.model.specs.Stores.{head_sets, max_groups}
use Rattle.model.specs.Blocks.{block_bytes, content_bytes, content_at, blocks_for, block_of, part, contents_of}
use Rattle.model.specs.Contents.{Form, heads, set_width, contents, content_length}
use Rattle.model.specs.Files.{block_file, block_file_length, file_of, file_length, max_file}
use Rattle.basics.proofs.BoundLaws.{by_cond, decided, lt_or_ge}
use Rattle.model.proofs.ListsInParts.{get_or_past, Wide, length-concat, part-concat}
use Rattle.model.proofs.BlockLaws.{block_of-is, length-contents_of, get_or-contents_of}
use Rattle.model.proofs.ContentLaws.{heads-most, length-contents}

-- ---- the file of a table with g groups

module _ (form : Form) (site : ℕ) (t : Dialogue) {g : ℕ} (many : length t.groups ≡ g) where
  blocks_are : blocks_for (length (contents form t)) ≡ blocks_for (content_length form t.n g)
  blocks_are = ap (λ (l : ℕ). blocks_for l) (length-contents form t many)

  blocks_wide : Wide (blocks_for (length (contents form t))) block_bytes (block_of site (contents form t))
  blocks_wide k h = (block_of-is site (contents form t) k).long

  pub length-block_file : length (block_file form site t) ≡ block_file_length form t.n g
  unfolding block_file
  length-block_file = length-concat _ block_bytes (blocks_for (length (contents form t))) blocks_wide ∙ ap (λ (m : ℕ). block_bytes * m) blocks_are

  pub part-block_file : (k : ℕ) → k < blocks_for (content_length form t.n g) → part (block_file form site t) k ≡ block_of site (contents form t) k
  unfolding block_file part
  part-block_file k h =
      part-concat (block_of site (contents form t)) block_bytes (blocks_for (length (contents form t))) k blocks_wide (subst (λ (m : ℕ). k < m) (sym blocks_are) h)

-- the contents of a table's file are those of the table, with zeros behind, whatever the site
module _ (form : Form) (site : ℕ) (t : Dialogue) where
  in_blocks : (k r : ℕ) → k < blocks_for (content_length form t.n (length t.groups)) → r < content_bytes
      → get_or (contents_of (block_file form site t)) (content_bytes * k + r) 0 ≡ get_or (contents form t) (content_bytes * k + r) 0
  in_blocks k r h l =
      get_or-contents_of (block_file form site t) k r (omega (arith, length-block_file form site t refl)) l
      ∙ ap (λ xs. get_or xs (content_at + r) 0) (part-block_file form site t refl k h)
      ∙ (block_of-is site (contents form t) k).holds-content r l

  pub contents_of-block_file : (i : ℕ) → get_or (contents_of (block_file form site t)) i 0 ≡ get_or (contents form t) i 0
  contents_of-block_file i =
      ⊎_elim
      (λ h.
      subst (λ (j : ℕ). get_or (contents_of (block_file form site t)) j 0 ≡ get_or (contents form t) j 0) (div-add-mod i content_bytes)
      (in_blocks (i / content_bytes) (i % content_bytes) (omega arith) (omega arith)))
      (λ h.
      get_or_past (contents_of (block_file form site t)) i 0 (omega (arith, length-contents_of (block_file form site t), length-block_file form site t refl))
      ∙ sym (get_or_past (contents form t) i 0 (omega (arith, length-contents form t refl))))
      (lt_or_ge i (content_bytes * blocks_for (content_length form t.n (length t.groups))))

-- ---- the file of a table: the draft, or blocks

module _ (form : Form) (site : ℕ) (t : Dialogue) where
  pub file-draft : t.n ≡ 0 → file_of form site t ≡ []
  unfolding file_of
  file-draft e = rw (eq-eqb t.n 0 e)

  pub file-blocks : (t.n ≡ 0 → ⊥) → file_of form site t ≡ block_file form site t
  unfolding file_of
  file-blocks f = rw (ne_eqb t.n 0 f)

module _ (form : Form) (n g : ℕ) where
  pub length-draft : n ≡ 0 → file_length form n g ≡ 0
  unfolding file_length
  length-draft e = rw (eq-eqb n 0 e)

  pub length-blocks : (n ≡ 0 → ⊥) → file_length form n g ≡ block_file_length form n g
  unfolding file_length
  length-blocks f = rw (ne_eqb n 0 f)

pub length-file_of : (form : Form) (site : ℕ) (t : Dialogue) {g : ℕ} → length t.groups ≡ g → length (file_of form site t) ≡ file_length form t.n g
unfolding file_of file_length
length-file_of form site t many = ⊎_elim (λ q. rw q) (λ q. rw q (length-block_file form site t many)) (decided (eqb t.n 0))

-- the largest file is that of the most states and groups
pub file_length-most : (form : Form) (n g : ℕ) → n ≤ max_states → g ≤ max_groups → file_length form n g ≤ max_file
unfolding file_length
file_length-most form n g h k =
    let width : set_width n ≤ set_width max_states = omega arith in
    let count : heads form + g + n ≤ head_sets + max_groups + max_states = omega (arith, heads-most form) in
    by_cond (λ (l : ℕ). l ≤ max_file) (eqb n 0) 0 (block_file_length form n g) (λ q. omega arith) (λ q. omega (arith, mul-le-mul width count))
