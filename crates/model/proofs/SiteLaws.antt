-- The proof of specs/Sites.
--
--   framed_zero       a block for site 0 has the plain sum for its check; grounds_zero: and is held to that
--   file_zero         so the file of site 0 is the plain one; read_zero, write_zero and their buffers: and is read and written as without a site
--   checks_apart      the checks of one block for two sites are different
--   foreign_fault     so a block that passes at one site gets 13 at the other, and foreign_block: read gives it
--   own_block         what write wrote for a site passes there
--   sites             specs/Sites
use Prim.Native.Nat.{ℕ, ◌+◌, ◌*◌, ◌/◌, ◌%◌, ◌≤◌, ◌<◌}
use native.Mathlib.Nat.{zero-add}
use native.Mathlib.Omega.{arith}
use mathlib.Core.Path.{◌≡◌, refl, sym, ap, ap₂, ◌∙◌, subst, fun_ext}
use mathlib.Core.Bool.{cond, false, not}
use mathlib.Core.List.{List, [], ◌∷◌, ◌++◌, append-nil}
use borrow.Author.Tests.{eq-eqb, ne_eqb}
use lib.Dec.{eqb}
use lib.ListN.{length, take, drop, replicate}
use Rattle.basics.specs.Bounds.{concat}
use Rattle.basics.specs.Refusals.{Ground, Answered, refuse, refused, answered, answer, unless_refused}
use Rattle.model.specs.Tables.{Dialogue}
use Rattle.model.specs.Stores.{store_words, dialogue_of, layout, store_ground}
use Rattle.model.specs.Blocks.{block_bytes, content_bytes, check_at, modulus, max_site, le16, le16_at, weighted, check_of, blocks_for, block_of, part, contents_of, block_grounds}
use Rattle.model.specs.Contents.{Form, new_form, contents, dialogue_in}
use Rattle.model.specs.Files.{block_file, file_of, file_length}
use Rattle.model.specs.Calls.{overwrite, states_in, second_in, groups_in, bad_length, blocks_grounds, content_grounds, file_grounds, read_grounds_as, read_answer_as, read_answer, read_buffer_as, write_grounds, write_answer, write_buffer}
use Rattle.model.specs.Sites.{plain_block, plain_file, plain_grounds, plain_read, plain_write, Sites}
use Rattle.basics.proofs.BoundLaws.{length-tabulate}
use Rattle.basics.proofs.RefusalLaws.{refuse-first, refuse-append, clear_refuse, refuse_clear, numbered-concat, refuse_stop}
use Rattle.model.proofs.BlockLaws.{block-number, block-check, block_of-is}
use Rattle.model.proofs.FileLaws.{part-block_file, file-blocks, length-draft, length-blocks, file_length-most}
use Rattle.model.proofs.CallLaws.{Writable, write_over, write-refused, written, clear_block, right_block, read-refused, read_over, behind_length}
use Rattle.model.proofs.FilesWritten.{file-is}

-- ---- site 0

-- over a variable, since the zeros of `block_of` would be written out
framed_zero : (front : List ℕ) → front ++ le16 (check_of 0 front) ≡ front ++ le16 (weighted front check_at % modulus)
unfolding check_of
framed_zero front = ap (λ (x : ℕ). front ++ le16 (x % modulus)) (zero-add (weighted front check_at))

block_zero : (bytes : List ℕ) (k : ℕ) → block_of 0 bytes k ≡ plain_block bytes k
unfolding block_of
block_zero bytes k = framed_zero (le16 k ++ take content_bytes (drop (content_bytes * k) bytes ++ replicate content_bytes 0))

grounds_zero : (block : List ℕ) (k : ℕ) → block_grounds 0 block k ≡ plain_grounds block k
unfolding block_grounds check_of
grounds_zero block k =
    ap (λ (x : ℕ). (not (eqb (le16_at block 0) k), 12) ∷ (not (eqb (le16_at block check_at) (x % modulus)), 13) ∷ []) (zero-add (weighted block check_at))

-- block k is of a site that is 0: which one, the definition says
file_zero : (form : Form) (d : Dialogue) → file_of form 0 d ≡ plain_file form d
unfolding file_of block_file
file_zero form d =
    ap (λ (f : ℕ → List ℕ). cond (eqb d.n 0) [] (concat (blocks_for (length (contents form d))) f))
    (fun_ext (λ k. ap (λ (s : ℕ). block_of s (contents form d) k) (omega arith) ∙ block_zero (contents form d) k))

blocks_zero : (input : List ℕ) → blocks_grounds input 0 ≡ concat (length input / block_bytes) (λ k. plain_grounds (part input k) k)
unfolding blocks_grounds
blocks_zero input = ap (concat (length input / block_bytes)) (fun_ext (λ k. ap (λ (s : ℕ). block_grounds s (part input k) k) (omega arith) ∙ grounds_zero (part input k) k))

read_zero : (form : Form) (input : List ℕ) (room : ℕ) → read_answer_as form input 0 room ≡ plain_read form input room
unfolding read_answer_as read_grounds_as file_grounds answer
read_zero form input room =
    ap
    (λ (blocks : List Ground).
    answer
    (store_ground room ∷ cond (eqb (length input) 0) [] ((bad_length input, 11) ∷ (blocks ++ content_grounds form input (states_in input) (second_in input))))
    (record { n = states_in input; g = groups_in form input }))
    (blocks_zero input)

store_zero : (form : Form) (input store : List ℕ)
    → read_buffer_as form input 0 store
    ≡ unless_refused store (λ a. overwrite (layout (dialogue_in form (contents_of input) a.n a.g)) store) (plain_read form input (length store))
unfolding read_buffer_as
store_zero form input store = ap (unless_refused store _) (read_zero form input (length store))

write_zero : (store : List ℕ) (n g room : ℕ) → write_answer store n g 0 room ≡ plain_write store n g room
unfolding write_answer write_grounds answer
write_zero store n g room = refl

output_zero : (store : List ℕ) (n g : ℕ) (output : List ℕ)
    → write_buffer store n g 0 output
    ≡ unless_refused output (λ l. overwrite (plain_file new_form (dialogue_of store n g)) output) (plain_write store n g (length output))
unfolding write_buffer
output_zero store n g output =
    ap₂ (λ (file : List ℕ) (a : Answered ℕ). unless_refused output (λ l. overwrite file output) a)
    (file_zero new_form (dialogue_of store n g)) (write_zero store n g (length output))

-- ---- a block of another site

residues_apart : (a b w : ℕ) → a ≤ max_site → b ≤ max_site → (a + w) % modulus ≡ (b + w) % modulus → a ≡ b
residues_apart a b w h l e = omega arith

checks_apart : (a b : ℕ) (block : List ℕ) → a ≤ max_site → b ≤ max_site → check_of a block ≡ check_of b block → a ≡ b
unfolding check_of
checks_apart a b block = residues_apart a b (weighted block check_at)

module _ (a b : ℕ) (h : a ≤ max_site) (l : b ≤ max_site) (apart : a ≡ b → ⊥) where
  foreign_fault : (block : List ℕ) (k : ℕ) → refuse (block_grounds a block k) ≡ 0 → refuse (block_grounds b block k) ≡ 13
  unfolding block_grounds
  foreign_fault block k e =
      let right = clear_block a block k (refuse_clear (block_grounds a block k) [] refl e).0 in
      sym (refuse-first 1 _ (
        ap not (eq-eqb (le16_at block 0) k right.0),
        ap not (ne_eqb (le16_at block check_at) (check_of b block) (λ q. apart (checks_apart a b block h l (sym right.1 ∙ q)))),
      ))

  foreign_block : (input : List ℕ) (room k : ℕ) → store_words ≤ room → bad_length input ≡ false → k < length input / block_bytes
      → refuse (concat k (λ j. block_grounds b (part input j) j)) ≡ 0 → refuse (block_grounds a (part input k) k) ≡ 0
      → read_answer input b room ≡ refused 13
  unfolding blocks_grounds block_grounds
  foreign_block input room k fits whole inside before own =
      let grounds : ℕ → List Ground = λ j. block_grounds b (part input j) j in
      let passed = (refuse_clear (concat k grounds) [] (numbered-concat grounds (λ j. refl) k) (ap refuse (append-nil (concat k grounds)) ∙ before)).0 in
      let first : 13 ≡ refuse (blocks_grounds input b) =
      refuse_stop grounds (length input / block_bytes) k inside passed (sym (foreign_fault (part input k) k own)) (λ z. omega arith) in
      read-refused new_form input b room
      (behind_length new_form input b room fits l (λ z. omega arith) whole ∙ sym (refuse-append (blocks_grounds input b) _ first (λ z. omega arith)))
      (λ z. omega arith)

-- ---- a block of the same site

module _ (store : List ℕ) (n g site : ℕ) (out : List ℕ) (k : ℕ) (w : Writable store n g site (length out)) where
  written-block : k < file_length new_form n g / block_bytes → refuse (block_grounds site (part (take (file_length new_form n g) (write_buffer store n g site out)) k) k) ≡ 0
  unfolding dialogue_of
  written-block h =
      let t = dialogue_of store n g in
      let some : n ≡ 0 → ⊥ = λ z. omega (arith, length-draft new_form n g z) in
      let block = block_of-is site (contents new_form t) k in
      let most = file_length-most new_form n g w.held.small w.held.few in
      ap (λ (file : List ℕ). refuse (block_grounds site (part file k) k)) (file-is store n g site out w ∙ file-blocks new_form site t some)
      ∙ ap (λ (b : List ℕ). refuse (block_grounds site b k)) (part-block_file new_form site t (length-tabulate _ g) k (omega (arith, length-blocks new_form n g some)))
      ∙ clear_refuse _ (right_block site _ k (block-number block (omega arith)) (block-check block))

own_block : (store : List ℕ) (n g site : ℕ) (out : List ℕ) (l k : ℕ)
    → write_answer store n g site (length out) ≡ answered l
    → k < l / block_bytes
    → refuse (block_grounds site (part (take l (write_buffer store n g site out)) k) k) ≡ 0
own_block store n g site out l k e =
    let w = written store n g site (length out) e in
    subst (λ (m : ℕ). k < m / block_bytes → refuse (block_grounds site (part (take m (write_buffer store n g site out)) k) k) ≡ 0) (sym w.1)
    (written-block store n g site out k w.0)

-- ---- all of them

pub sites : Sites
unfolding check_of
sites =
    record {
      check_zero = λ block. ap (λ (x : ℕ). x % modulus) (zero-add (weighted block check_at));
      block_zero = block_zero;
      grounds_zero = grounds_zero;
      file_zero = file_zero;
      read_zero = read_zero;
      store_zero = store_zero;
      write_zero = write_zero;
      output_zero = output_zero;
      own_block = own_block;
      foreign_block = foreign_block;
      read_over = λ input site room h l. read-refused new_form input site room (read_over new_form input site room h l) (λ z. omega arith);
      write_over = λ store n g site room h l. write-refused store n g site room (write_over store n g site room h l) (λ z. omega arith);
    }
