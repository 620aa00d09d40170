-- An untouched draft: the table without states. The proof stands in proofs/.
--
--   Draft      what each call makes of it, and what it makes of groups or a block without states
use Rattle.std.specs.Prelude.{ℕ, ◌≤◌, ◌≡◌, false, List, [], ◌++◌, length}
use Rattle.basics.specs.Bounds.{tabulate}
use Rattle.model.specs.Sets.{empty}
use Rattle.model.specs.Tables.{Table}
use Rattle.model.specs.Rounds.{backward_number}
use Rattle.basics.specs.Refusals.{Ground, refuse, refused, answered}
use Rattle.model.specs.Stores.{store_words, shared_grounds}
use Rattle.model.specs.Blocks.{max_site}
use Rattle.model.specs.Calls.{overwrite, Decision, decide_answer, decide_buffer, Shortest, shortest_answer, shortest_buffer, states_in, bad_length, blocks_grounds, read_answer, read_buffer, write_answer, write_buffer}

pub record Draft : Type 0 where
  -- an input of no bytes, at every site: all words of a table become 0
  pub read : (site : ℕ) (store : List ℕ) → site ≤ max_site → store_words ≤ length store
      → (read_answer [] site (length store) ≡ answered (record { n = 0; g = 0 }))
      × (read_buffer [] site store ≡ overwrite (tabulate store_words (λ i. 0)) store)
  -- that store passes the grounds which decide, shortest path and write share
  pub read-accepted : (site : ℕ) (store : List ℕ) → site ≤ max_site → store_words ≤ length store → refuse (shared_grounds (read_buffer [] site store) 0 0) ≡ 0
  -- safe with count 0 and an empty invariant, at every allowance
  pub decide : (store : List ℕ) (allowance : ℕ) (path : List ℕ) (a : Decision) → decide_answer store 0 0 allowance (length path) ≡ answered a
      → (a ≡ record { verdict = 0; count = 0; invariant = empty; size = 0; steps = 0 })
      × (decide_buffer store 0 0 allowance path ≡ path)
  pub backward-number : (t : Table) → t.n ≡ 0 → backward_number t ≡ 0
  pub shortest-path : (store path : List ℕ) (a : Shortest) → shortest_answer store 0 0 (length path) ≡ answered a
      → (a ≡ record { found = 0; steps = 0 })
      × (shortest_buffer store 0 0 path ≡ path)
  -- a file of no bytes, at every site, for which no output is too short
  pub write : (store : List ℕ) (site : ℕ) (output : List ℕ) → site ≤ max_site → refuse (shared_grounds store 0 0) ≡ 0
      → (write_answer store 0 0 site (length output) ≡ answered 0)
      × (write_buffer store 0 0 site output ≡ output)
  -- groups without states get 14, whatever else is wrong; of write, after 24
  pub groups_alone : (store : List ℕ) (g : ℕ) (later : List Ground) → store_words ≤ length store → (g ≡ 0 → ⊥) → refuse (shared_grounds store 0 g ++ later) ≡ 14
  pub groups-written : (store : List ℕ) (g site room : ℕ) → store_words ≤ length store → site ≤ max_site → (g ≡ 0 → ⊥)
      → write_answer store 0 g site room ≡ refused 14
  -- so does a file with a block that says n = 0, where nothing that is looked at before holds
  pub block-without-states : (input : List ℕ) (site room : ℕ) → store_words ≤ room → site ≤ max_site → (length input ≡ 0 → ⊥)
      → bad_length input ≡ false → refuse (blocks_grounds input site) ≡ 0 → states_in input ≡ 0 → read_answer input site room ≡ refused 14
