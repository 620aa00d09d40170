-- The sizes and places that the specification gives in figures ("Tables and sets", "The store", "Rounds", "Files"), beside the definitions
-- that are made of WORDS and max_groups; the words and the bytes of a set, worked out; and how many blocks are just enough.
use Rattle.std.specs.Prelude.{ℕ, ◌+◌, ◌*◌, ◌≤◌, ◌≡◌, ◌↔◌, [], ◌∷◌}
use Rattle.model.specs.Sets.{WORDS, max_states, single, union}
use Rattle.model.specs.Stores.{max_groups, store_words, marked_at, resting_at, group_at, row_at}
use Rattle.model.specs.Blocks.{block_bytes, content_bytes, content_at, check_at, modulus, blocks_for}
use Rattle.model.specs.Contents.{old_form, new_form, heads, added, set_bytes, header_bytes, content_length}
use Rattle.model.specs.Files.{max_file}
use Rattle.model.specs.Calls.{max_allowance, release}

pub record Sizes : Type 0 where
  pub words_of_a_set : WORDS ≡ 8
  -- {0, 2, 70}: state s is a bit of word s/64
  pub words_of_states : union (single 0) (union (single 2) (single 70)) ≡ 5 ∷ 64 ∷ 0 ∷ 0 ∷ 0 ∷ 0 ∷ 0 ∷ 0 ∷ []
  pub most-states : max_states ≡ 512
  pub most-groups : max_groups ≡ 64
  pub words_of_a_store : store_words ≡ 4632
  pub marked_at_lem : marked_at ≡ 8
  pub resting_at_lem : resting_at ≡ 16
  pub group_at_lem : (j : ℕ) → group_at j ≡ 24 + 8 * j
  pub row_at_lem : (s : ℕ) → row_at s ≡ 536 + 8 * s
  pub greatest_allowance : max_allowance ≡ 512
  pub release_allowance : release ≡ 512
  pub block : block_bytes ≡ 512
  pub content_at_lem : content_at ≡ 2
  pub content : content_bytes ≡ 508
  pub check_at_lem : check_at ≡ 510
  pub prime : modulus ≡ 65521
  pub header : header_bytes ≡ 4
  pub heads_of_a_file : (heads old_form ≡ 2) × (heads new_form ≡ 3)
  pub added_to_g : (added old_form ≡ 0) × (added new_form ≡ 32768)
  -- {9} in two bytes: state s is a bit of byte s/8
  pub bytes_of_states : set_bytes 2 (single 9) ≡ 0 ∷ 2 ∷ []
  -- so many blocks hold l bytes of content, and no fewer do
  pub just_enough : (l blocks : ℕ) → (blocks_for l ≤ blocks) ↔ (l ≤ 508 * blocks)
  pub one_byte_more : (blocks_for 508 ≡ 1) × (blocks_for 509 ≡ 2)
  pub longest-contents : content_length new_form max_states max_groups ≡ 37060
  pub most-blocks : blocks_for (content_length new_form max_states max_groups) ≡ 73
  pub most-blocks_old : blocks_for (content_length old_form max_states max_groups) ≡ 73
  pub largest-file : max_file ≡ 37376
  -- and one byte, by which a longer file is seen to be too long
  pub most-read : max_file + 1 ≡ 37377
