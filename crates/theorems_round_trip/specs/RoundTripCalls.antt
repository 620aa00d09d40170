-- The round trips of the calls read and write themselves: of their results, and of their buffers before and
-- after. What a call gave is said by its own contract, CalledWrite or CalledRead.
--
--   CallsRoundTrip              what write wrote for a site, read gives back; what read accepted, write gives back
--   CallsForeign                a block that write wrote for one site, standing at its own number, is refused by read at every other
--   CallsRefused                a refused call leaves its buffer as it was, and its number is that of the first ground that holds
use Rattle.std.specs.Prelude.{ℕ, ◌^◌, ◌/◌, ◌≤◌, ◌<◌, ◌≡◌, false, List, Result, length, take}
use Rattle.basics.specs.Bounds.{concat}
use Rattle.basics.specs.Refusals.{refuse, refused, answered}
use Rattle.model.specs.Stores.{store_words}
use Rattle.model.specs.Blocks.{block_bytes, max_site, part, block_grounds}
use Rattle.model.specs.Contents.{Form}
use Rattle.model.specs.Calls.{overwrite, bad_length, TableRead as ReadAnswer, read_grounds_as, write_grounds}
use Rattle.model.specs.RoundTrip.{Bounded}
use Rattle.core_refusals.specs.declared.Refusal.{Refusal}
use Rattle.file_reading.specs.declared.TableSize.{TableSize}
use Rattle.file_writing.specs.WriteAnswers.{written_of, CalledWrite}
use Rattle.file_reading.specs.ReadAnswers.{read_of, CalledReadAs, CalledRead}

pub record CallsRoundTrip : Type 0 where
  -- the file that write left at the front of the output, read into any store that is long enough
  pub write_read : (store : List ℕ) (n g site : ℕ) (out : List ℕ) (w : Result ℕ Refusal) (out' : List ℕ) (l : ℕ) (other : List ℕ) (r : Result TableSize Refusal) (other' : List ℕ)
      → CalledWrite store n g site out w out' → written_of w ≡ answered l → Bounded (2 ^ 64) store
      → CalledRead (take l out') site other r other' → store_words ≤ length other
      → (read_of r ≡ answered (record { n = n; g = g })) × (other' ≡ overwrite (take store_words store) other)
  -- the table that read put into a store, written to any output that is long enough
  pub read-write : (input : List ℕ) (site : ℕ) (store : List ℕ) (r : Result TableSize Refusal) (store' : List ℕ) (a : ReadAnswer) (out : List ℕ) (w : Result ℕ Refusal) (out' : List ℕ)
      → CalledRead input site store r store' → read_of r ≡ answered a → Bounded 256 input
      → CalledWrite store' a.n a.g site out w out' → length input ≤ length out
      → (written_of w ≡ answered (length input)) × (out' ≡ overwrite input out)

-- Block k of the input is block k of the file that write left for site a; what read looks at before it passes at site b.
pub record CallsForeign : Type 0 where
  pub write_read : (store : List ℕ) (n g a : ℕ) (out : List ℕ) (w : Result ℕ Refusal) (out' : List ℕ) (l : ℕ)
      → (input : List ℕ) (b : ℕ) (other : List ℕ) (r : Result TableSize Refusal) (other' : List ℕ) (k : ℕ)
      → CalledWrite store n g a out w out' → written_of w ≡ answered l → CalledRead input b other r other'
      → k < length input / block_bytes → part input k ≡ part (take l out') k
      → store_words ≤ length other → b ≤ max_site → (a ≡ b → ⊥) → bad_length input ≡ false → refuse (concat k (λ j. block_grounds b (part input j) j)) ≡ 0
      → (read_of r ≡ refused 13) × (other' ≡ other)

pub record CallsRefused : Type 0 where
  -- in either form
  pub read : (form : Form) (input : List ℕ) (site : ℕ) (store : List ℕ) (r : Result TableSize Refusal) (store' : List ℕ) (k : ℕ)
      → CalledReadAs form input site store r store' → read_of r ≡ refused k
      → (k ≡ refuse (read_grounds_as form input site (length store))) × (store' ≡ store)
  pub write : (store : List ℕ) (n g site : ℕ) (out : List ℕ) (w : Result ℕ Refusal) (out' : List ℕ) (k : ℕ)
      → CalledWrite store n g site out w out' → written_of w ≡ refused k
      → (k ≡ refuse (write_grounds store n g site (length out))) × (out' ≡ out)
