-- Of the functions below `read`, their parts of what `read` does.
--
--   bytes_grounds form bytes blocks n second g
--                                   the grounds of contents that so many blocks hold and that say n and a second number; g is that number less what the form adds
--   Reads gs d n g before r after   what is given by a call that looks at the grounds gs: n and g, and d n g in the store
--   ReadsFile, ReadsContents        those of a file, and of contents
--   Joined input site r before after
--                                   the grounds of the blocks; and where none holds, the contents are joined
use Rattle.std.specs.Prelude.{ℕ, ◌+◌, ◌*◌, ◌-◌, ◌≡◌, not, ◌||◌, List, [], ◌∷◌, eqb, ltb, Result}
use Rattle.basics.specs.Bounds.{any}
use Rattle.basics.specs.Refusals.{Ground, refuse, answer, unless_refused}
use Rattle.model.specs.Sets.{max_states}
use Rattle.model.specs.Tables.{Dialogue}
use Rattle.model.specs.Stores.{layout, beyond, non_zero}
use Rattle.model.specs.Blocks.{content_bytes, blocks_for, contents_of}
use Rattle.model.specs.Contents.{Form, heads, added, content_length, set_number, dialogue_in}
use Rattle.model.specs.Calls.{TableRead as ReadAnswer, overwrite, states_in, groups_in, bad_second, blocks_grounds, file_grounds}
use Rattle.core_refusals.specs.declared.Refusal.{Refusal}
use Rattle.core_refusals.specs.Refusals.{number_of}
use Rattle.file_reading.specs.declared.TableSize.{TableSize}
use Rattle.file_reading.specs.ReadAnswers.{read_of}

-- The model's `content_grounds`, of bytes and a number of blocks in place of the input that has them.
unfoldable pub bytes_grounds : Form → List ℕ → ℕ → ℕ → ℕ → ℕ → List Ground
bytes_grounds form bytes blocks n second g =
    (eqb n 0 || ltb max_states n, 14)
    ∷ (bad_second form second, 15)
    ∷ (not (eqb blocks (blocks_for (content_length form n g))), 16)
    ∷ (any (heads form + g + n) (λ k. beyond n (set_number bytes n k)), 17)
    ∷ (non_zero bytes (content_length form n g) (content_bytes * blocks), 18)
    ∷ []

-- The store before the call and after it.
pub record Reads (gs : List Ground) (d : ℕ → ℕ → Dialogue) (n g : ℕ) (before : List ℕ) (r : Result TableSize Refusal) (after : List ℕ) : Type 0 where
  pub says : read_of r ≡ answer gs (record { n = n; g = g })
  pub leaves : after ≡ unless_refused before (λ (a : ReadAnswer). overwrite (layout (d a.n a.g)) before) (answer gs (record { n = n; g = g }))

abbrev pub ReadsFile : Form → List ℕ → ℕ → List ℕ → Result TableSize Refusal → List ℕ → Type 0
ReadsFile form input site = Reads (file_grounds form input site) (dialogue_in form (contents_of input)) (states_in input) (groups_in form input)

abbrev pub ReadsContents : Form → List ℕ → ℕ → ℕ → ℕ → List ℕ → Result TableSize Refusal → List ℕ → Type 0
ReadsContents form bytes blocks n second = let g = second - added form in Reads (bytes_grounds form bytes blocks n second g) (dialogue_in form bytes) n g

pub record Joined (input : List ℕ) (site : ℕ) (r : Result (Unit {0}) Refusal) (before after : List ℕ) : Type 0 where
  pub first_ground : number_of r ≡ refuse (blocks_grounds input site)
  pub joined : number_of r ≡ 0 → after ≡ overwrite (contents_of input) before
