-- What a block's check is good for: the error detection of a weighted checksum (the specification, "Files").
--
--   Intact site block                the stored check of a block is its check for the site
--   Block block                      512 bytes
--   DifferInOne a b                  a and b differ in exactly one byte
--   Exchanged a b                    a and b differ only by the exchange of two unequal bytes
--   Detects                          no two blocks that differ so are both intact; and intact is what ground 13 tests
--
-- Byte i of a block is `get_or block i 0`; the check's own two bytes are bytes like the others.
use Rattle.std.specs.Prelude.{ℕ, ◌<◌, ◌≡◌, ◌↔◌, List, length, get_or}
use Rattle.basics.specs.Refusals.{refuse}
use Rattle.model.specs.Blocks.{block_bytes, check_at, le16_at, check_of, block_grounds}

pub record Intact (site : ℕ) (block : List ℕ) : Type 0 where
  pub stored : le16_at block check_at ≡ check_of site block

pub record Block (block : List ℕ) : Type 0 where
  pub long : length block ≡ block_bytes
  pub bytes : (i : ℕ) → get_or block i 0 < 256

pub record DifferInOne (a b : List ℕ) : Type 0 where
  pub place : ℕ
  pub there : get_or a place 0 ≡ get_or b place 0 → ⊥
  pub elsewhere : (i : ℕ) → (i ≡ place → ⊥) → get_or a i 0 ≡ get_or b i 0

pub record Exchanged (a b : List ℕ) : Type 0 where
  pub place : ℕ
  pub other : ℕ
  pub unequal : get_or a place 0 ≡ get_or a other 0 → ⊥
  pub to_place : get_or b place 0 ≡ get_or a other 0
  pub to_other : get_or b other 0 ≡ get_or a place 0
  pub elsewhere : (i : ℕ) → (i ≡ place → ⊥) → (i ≡ other → ⊥) → get_or a i 0 ≡ get_or b i 0

-- At every site, the number left general. The first two are about the check itself, at all 512 places together.
pub record Detects : Type 0 where
  pub one_byte : (site : ℕ) (a b : List ℕ) → Block a → Block b → DifferInOne a b → Intact site a → Intact site b → ⊥
  pub exchange : (site : ℕ) (a b : List ℕ) → Block a → Block b → Exchanged a b → Intact site a → Intact site b → ⊥
  -- a block that should have the number that it holds: read finds nothing wrong with it, or gives 13
  pub intact_read : (site : ℕ) (block : List ℕ) → Intact site block ↔ (refuse (block_grounds site block (le16_at block 0)) ≡ 0)
  pub damaged_read : (site : ℕ) (block : List ℕ) → (Intact site block → ⊥) ↔ (refuse (block_grounds site block (le16_at block 0)) ≡ 13)
