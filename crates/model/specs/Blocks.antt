-- Blocks (the specification, "Files").
--
--   block_bytes, content_bytes     the bytes of a block, and those of its content, which begin at content_at; its check stands at check_at
--   modulus                      the prime of the check
--   max_site                      the greatest site number; site_ground site: ground 24
--   le16 x                       x as two bytes, low byte first; le16_at bytes i: the number whose two bytes stand at i
--   check_of site bytes           the check of a block for a site (a weighted checksum)
--   blocks_for l                  how many blocks hold l bytes of content
--   block_of site bytes k         block k of a file with these contents
--   part input k                 the bytes of block k; contents_of input: the contents of a file's blocks, joined
--   block_grounds site block k    the grounds 12 and 13 of a block that should be block k
use Rattle.std.specs.Prelude.{ℕ, zero, suc, ◌+◌, ◌*◌, ◌-◌, ◌/◌, ◌%◌, not, List, [], ◌∷◌, ◌++◌, eqb, ltb, length, get_or, take, drop, replicate}
use Rattle.basics.specs.Bounds.{concat}
use Rattle.basics.specs.Refusals.{Ground}

abbrev pub block_bytes : ℕ
block_bytes = 512

abbrev pub content_bytes : ℕ
content_bytes = 508

abbrev pub content_at : ℕ
content_at = 2

abbrev pub check_at : ℕ
check_at = content_at + content_bytes

abbrev pub modulus : ℕ
modulus = 65521

-- Each site starts the sum from a number of its own modulo the prime.
abbrev pub max_site : ℕ
max_site = modulus - 1

abbrev pub site_ground : ℕ → Ground
site_ground site = (ltb max_site site, 24)

abbrev pub le16 : ℕ → List ℕ
le16 x = x % 256 ∷ x / 256 % 256 ∷ []

abbrev pub le16_at : List ℕ → ℕ → ℕ
le16_at bytes i = get_or bytes i 0 + 256 * get_or bytes (i + 1) 0

-- ---- the check

unfoldable pub weighted : List ℕ → ℕ → ℕ
weighted bytes zero = 0
weighted bytes (suc i) = weighted bytes i + (i + 1) * get_or bytes i 0

-- The site, and the sum of (i + 1) times byte i for each byte before the check, modulo the prime.
unfoldable pub check_of : ℕ → List ℕ → ℕ
check_of site bytes = (site + weighted bytes check_at) % modulus

-- ---- writing

abbrev pub blocks_for : ℕ → ℕ
blocks_for l = (l + (content_bytes - 1)) / content_bytes

-- The number k, so many bytes of content with 0 for filler (padding), and the check.
unfoldable pub block_of : ℕ → List ℕ → ℕ → List ℕ
block_of site bytes k =
    let front = le16 k ++ take content_bytes (drop (content_bytes * k) bytes ++ replicate content_bytes 0) in
    front ++ le16 (check_of site front)

-- ---- reading

unfoldable pub part : List ℕ → ℕ → List ℕ
part input k = take block_bytes (drop (block_bytes * k) input)

unfoldable pub contents_of : List ℕ → List ℕ
contents_of input = concat (length input / block_bytes) (λ k. take content_bytes (drop content_at (part input k)))

-- It does not hold the number k, or not its own check for the site.
unfoldable pub block_grounds : ℕ → List ℕ → ℕ → List Ground
block_grounds site block k = (not (eqb (le16_at block 0) k), 12) ∷ (not (eqb (le16_at block check_at) (check_of site block)), 13) ∷ []
