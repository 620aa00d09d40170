-- What read and write put into their buffers, and that they touch no other place: of their results, and of the buffers before and after. What a
-- call gave is said by its own contract. (That a refused call leaves its buffer as it was is RoundTripCalls.CallsRefused.)
--
--   CallsFill      read fills the words of a table and no word past them, in either form; write the file's bytes and no byte past them
use Rattle.std.specs.Prelude.{ℕ, ◌≡◌, List, Result, length, take, drop}
use Rattle.basics.specs.Refusals.{answered}
use Rattle.model.specs.Stores.{store_words, dialogue_of, layout}
use Rattle.model.specs.Blocks.{contents_of}
use Rattle.model.specs.Contents.{Form, new_form, dialogue_in}
use Rattle.model.specs.Files.{file_of}
use Rattle.model.specs.Calls.{TableRead as ReadAnswer}
use Rattle.core_refusals.specs.declared.Refusal.{Refusal}
use Rattle.file_reading.specs.declared.TableSize.{TableSize}
use Rattle.file_writing.specs.WriteAnswers.{written_of, CalledWrite}
use Rattle.file_reading.specs.ReadAnswers.{read_of, CalledReadAs}

pub record CallsFill : Type 0 where
  -- the words of the table that an accepted file holds, as many as a table takes
  pub read : (form : Form) (input : List ℕ) (site : ℕ) (store : List ℕ) (r : Result TableSize Refusal) (store' : List ℕ) (a : ReadAnswer)
      → CalledReadAs form input site store r store' → read_of r ≡ answered a
      → let words = layout (dialogue_in form (contents_of input) a.n a.g) in
      (length words ≡ store_words) × (take store_words store' ≡ words)
  -- whatever the bytes are: no word past them, and as many words as there were
  pub read_past : (form : Form) (input : List ℕ) (site : ℕ) (store : List ℕ) (r : Result TableSize Refusal) (store' : List ℕ)
      → CalledReadAs form input site store r store'
      → (drop store_words store' ≡ drop store_words store) × (length store' ≡ length store)
  -- the file of the table in the store, as many bytes as the answer says
  pub write : (store : List ℕ) (n g site : ℕ) (out : List ℕ) (w : Result ℕ Refusal) (out' : List ℕ) (l : ℕ)
      → CalledWrite store n g site out w out' → written_of w ≡ answered l
      → let file = file_of new_form site (dialogue_of store n g) in
      (length file ≡ l) × (take l out' ≡ file)
  pub write-past : (store : List ℕ) (n g site : ℕ) (out : List ℕ) (w : Result ℕ Refusal) (out' : List ℕ) (l : ℕ)
      → CalledWrite store n g site out w out' → written_of w ≡ answered l
      → (drop l out' ≡ drop l out) × (length out' ≡ length out)
