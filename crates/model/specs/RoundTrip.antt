-- The round trips of read and write, as statements about what the calls return and leave in their buffers. The proofs stand in proofs/.
--
--   Bounded b xs     each number of xs is below b: a buffer of bytes is Bounded 256, a store Bounded (2 ^ 64) (past its end a list reads 0)
--   WriteRead        the file of a store, read into another one, gives back n, g and the words of the table
--   ReadWrite        the table of an input, written, gives back the length and every byte
--   RoundTrips       both, of every call that is answered, for every site: the same one at both ends
--   FileSizes        how long the contents and the file of a table are, and that no file is longer than the largest
--
-- The table without states is among those of the round trips: its file has no bytes.
use Rattle.std.specs.Prelude.{ℕ, ◌^◌, ◌≤◌, ◌<◌, ◌≡◌, List, length, get_or, take}
use Rattle.basics.specs.Refusals.{answered}
use Rattle.model.specs.Sets.{max_states}
use Rattle.model.specs.Tables.{Dialogue}
use Rattle.model.specs.Stores.{max_groups, store_words}
use Rattle.model.specs.Contents.{Form, contents, content_length}
use Rattle.model.specs.Files.{file_of, file_length, max_file}
use Rattle.model.specs.Calls.{overwrite, TableRead, read_answer, read_buffer, write_answer, write_buffer}

abbrev pub Bounded : ℕ → List ℕ → Type 0
Bounded b xs = (i : ℕ) → get_or xs i 0 < b

-- A file that write made of a store, n and g, read into another store.
pub record WriteRead (store : List ℕ) (n g site : ℕ) (file other : List ℕ) : Type 0 where
  pub answer : read_answer file site (length other) ≡ answered (record { n = n; g = g })
  pub buffer : read_buffer file site other ≡ overwrite (take store_words store) other

-- A store, n and g that read made of an input, written to an output.
pub record ReadWrite (store : List ℕ) (n g site : ℕ) (input out : List ℕ) : Type 0 where
  pub answer : write_answer store n g site (length out) ≡ answered (length input)
  pub buffer : write_buffer store n g site out ≡ overwrite input out

pub record RoundTrips : Type 0 where
  pub write_read : (store : List ℕ) (n g site : ℕ) (out other : List ℕ) (l : ℕ)
      → Bounded (2 ^ 64) store
      → store_words ≤ length other
      → write_answer store n g site (length out) ≡ answered l
      → WriteRead store n g site (take l (write_buffer store n g site out)) other
  pub read-write : (input : List ℕ) (site : ℕ) (store out : List ℕ) (a : TableRead)
      → Bounded 256 input
      → length input ≤ length out
      → read_answer input site (length store) ≡ answered a
      → ReadWrite (read_buffer input site store) a.n a.g site input out

pub record FileSizes : Type 0 where
  pub contents-long : (form : Form) (d : Dialogue) → length (contents form d) ≡ content_length form d.n (length d.groups)
  pub file-long : (form : Form) (site : ℕ) (d : Dialogue) → length (file_of form site d) ≡ file_length form d.n (length d.groups)
  pub largest : (form : Form) (n g : ℕ) → n ≤ max_states → g ≤ max_groups → file_length form n g ≤ max_file
