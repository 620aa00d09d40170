-- Files that know their site (the specification, "Files"). The proof stands in proofs/.
--
--   plain_block, plain_grounds         a block and its grounds without a site: the check is the plain weighted sum
--   plain_file, plain_file_grounds      the file of a dialogue in such blocks; the grounds of a file of them
--   plain_read, plain_write            what read and write answer without a site, and so without ground 24
--   Sites                            what the site number of a file is good for, and that site 0 changes nothing
use Rattle.std.specs.Prelude.{ℕ, ◌*◌, ◌%◌, ◌/◌, ◌≤◌, ◌<◌, ◌≡◌, cond, false, not, List, [], ◌∷◌, ◌++◌, eqb, length, take, drop, replicate}
use Rattle.basics.specs.Bounds.{concat}
use Rattle.basics.specs.Refusals.{Ground, Answered, refuse, refused, answered, answer, unless_refused}
use Rattle.model.specs.Tables.{Dialogue}
use Rattle.model.specs.Stores.{store_words, dialogue_of, layout, store_ground, shared_grounds}
use Rattle.model.specs.Blocks.{block_bytes, content_bytes, check_at, modulus, max_site, le16, le16_at, weighted, check_of, blocks_for, block_of, part, contents_of, block_grounds}
use Rattle.model.specs.Contents.{Form, new_form, contents, dialogue_in}
use Rattle.model.specs.Files.{file_of, file_length}
use Rattle.model.specs.Calls.{overwrite, TableRead, states_in, second_in, groups_in, bad_length, content_grounds, read_answer_as, read_answer, read_buffer_as, output_ground, write_answer, write_buffer}

-- ---- without a site

abbrev pub plain_block : List ℕ → ℕ → List ℕ
plain_block bytes k =
    let front = le16 k ++ take content_bytes (drop (content_bytes * k) bytes ++ replicate content_bytes 0) in
    front ++ le16 (weighted front check_at % modulus)

abbrev pub plain_file : Form → Dialogue → List ℕ
plain_file form d = let bytes = contents form d in cond (eqb d.n 0) [] (concat (blocks_for (length bytes)) (plain_block bytes))

abbrev pub plain_grounds : List ℕ → ℕ → List Ground
plain_grounds block k = (not (eqb (le16_at block 0) k), 12) ∷ (not (eqb (le16_at block check_at) (weighted block check_at % modulus)), 13) ∷ []

abbrev pub plain_file_grounds : Form → List ℕ → List Ground
plain_file_grounds form input =
    (bad_length input, 11)
    ∷ (concat (length input / block_bytes) (λ k. plain_grounds (part input k) k) ++ content_grounds form input (states_in input) (second_in input))

abbrev pub plain_read : Form → List ℕ → ℕ → Answered TableRead
plain_read form input room =
    answer (store_ground room ∷ cond (eqb (length input) 0) [] (plain_file_grounds form input)) (record { n = states_in input; g = groups_in form input })

abbrev pub plain_write : List ℕ → ℕ → ℕ → ℕ → Answered ℕ
plain_write store n g room = answer (shared_grounds store n g ++ (output_ground n g room ∷ [])) (file_length new_form n g)

-- ---- the statements

pub record Sites : Type 0 where
  -- at site 0 the check is the plain weighted sum, in a block that is made and in a block that is looked at
  pub check_zero : (block : List ℕ) → check_of 0 block ≡ weighted block check_at % modulus
  pub block_zero : (bytes : List ℕ) (k : ℕ) → block_of 0 bytes k ≡ plain_block bytes k
  pub grounds_zero : (block : List ℕ) (k : ℕ) → block_grounds 0 block k ≡ plain_grounds block k
  -- so the file of a table is that without a site, and read and write answer and leave what they do without one
  pub file_zero : (form : Form) (d : Dialogue) → file_of form 0 d ≡ plain_file form d
  pub read_zero : (form : Form) (input : List ℕ) (room : ℕ) → read_answer_as form input 0 room ≡ plain_read form input room
  pub store_zero : (form : Form) (input store : List ℕ)
      → read_buffer_as form input 0 store
      ≡ unless_refused store (λ a. overwrite (layout (dialogue_in form (contents_of input) a.n a.g)) store) (plain_read form input (length store))
  pub write_zero : (store : List ℕ) (n g room : ℕ) → write_answer store n g 0 room ≡ plain_write store n g room
  pub output_zero : (store : List ℕ) (n g : ℕ) (output : List ℕ)
      → write_buffer store n g 0 output
      ≡ unless_refused output (λ l. overwrite (plain_file new_form (dialogue_of store n g)) output) (plain_write store n g (length output))
  -- each block of a file that write made passes at the site that it was made for
  pub own_block : (store : List ℕ) (n g site : ℕ) (out : List ℕ) (l k : ℕ)
      → write_answer store n g site (length out) ≡ answered l
      → k < l / block_bytes
      → refuse (block_grounds site (part (take l (write_buffer store n g site out)) k) k) ≡ 0
  -- a block that passes at one site as block k gets 13 at every other, once what is looked at before it passes there
  pub foreign_block : (a b : ℕ) → a ≤ max_site → b ≤ max_site → (a ≡ b → ⊥) → (input : List ℕ) (room k : ℕ)
      → store_words ≤ room
      → bad_length input ≡ false
      → k < length input / block_bytes
      → refuse (concat k (λ j. block_grounds b (part input j) j)) ≡ 0
      → refuse (block_grounds a (part input k) k) ≡ 0
      → read_answer input b room ≡ refused 13
  -- over the greatest: 24, straight after 10
  pub read_over : (input : List ℕ) (site room : ℕ) → store_words ≤ room → max_site < site → read_answer input site room ≡ refused 24
  pub write_over : (store : List ℕ) (n g site room : ℕ) → store_words ≤ length store → max_site < site → write_answer store n g site room ≡ refused 24
