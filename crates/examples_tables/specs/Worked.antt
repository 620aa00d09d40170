-- What the specification says of the worked tables A to H, as one fact about the definitions that the calls' contracts cite.
--
--   held t, stored t                      the dialogue that the store of t holds, and its table, which is what the calls speak of
--   Decides t allowance answer states     decide, lent the store of t and any path buffer of at least max_states places, answers so, leaves
--                                         these states at the front of the buffer and the rest of it untouched
--   Safe t allowance count invariant      safe, with the states of the invariant
--   Unsafe t allowance count path         unsafe, with the path
--   Undecided t allowance count           undecided
--   LineA, .., LineH                      the specification's lines, with every figure that they give
--   Worked                                all eight
use Rattle.std.specs.Prelude.{ℕ, ◌-◌, ◌≤◌, ◌≡◌, List, [], ◌∷◌, length}
use Rattle.basics.specs.Refusals.{answered}
use Rattle.model.specs.Sets.{max_states}
use Rattle.model.specs.Tables.{Table, Dialogue}
use Rattle.model.specs.Rounds.{backward_number}
use Rattle.model.specs.Stores.{dialogue_of, table_of, layout}
use Rattle.model.specs.Blocks.{blocks_for, check_of, block_of}
use Rattle.model.specs.Contents.{old_form, new_form, contents, content_length}
use Rattle.model.specs.Calls.{release, overwrite, Decision, decide_answer, decide_buffer}
use Rattle.examples_tables.specs.Tables.{set, A, B, D, E, F, G, restingG}

abbrev pub held : Dialogue → Dialogue
held t = dialogue_of (layout t) t.n (length t.groups)

abbrev pub stored : Dialogue → Table
stored t = table_of (layout t) t.n (length t.groups)

pub record Decides (t : Dialogue) (allowance : ℕ) (answer : Decision) (states : List ℕ) : Type 0 where
  pub answers : (path : List ℕ) → max_states ≤ length path
      → decide_answer (layout t) t.n (length t.groups) allowance (length path) ≡ answered answer
  pub writes : (path : List ℕ) → max_states ≤ length path
      → decide_buffer (layout t) t.n (length t.groups) allowance path ≡ overwrite states path

abbrev pub Safe : Dialogue → ℕ → ℕ → List ℕ → Type 0
Safe t allowance count invariant =
    Decides t allowance
    (record { verdict = 0; count = count; invariant = set invariant; size = length invariant; steps = 0 }) []

abbrev pub Unsafe : Dialogue → ℕ → ℕ → List ℕ → Type 0
Unsafe t allowance count path =
    Decides t allowance
    (record { verdict = 1; count = count; invariant = set []; size = 0; steps = length path - 1 }) path

abbrev pub Undecided : Dialogue → ℕ → ℕ → Type 0
Undecided t allowance count =
    Decides t allowance (record { verdict = 2; count = count; invariant = set []; size = 0; steps = 0 }) []

-- ---- the eight lines

abbrev pub LineA : Type 0
LineA = Safe A release 0 (0 ∷ 1 ∷ [])

abbrev pub LineB : Type 0
LineB = Unsafe B release 3 (0 ∷ 1 ∷ 2 ∷ 3 ∷ []) × (backward_number (stored B) ≡ 3)

-- B with allowance 2, and with allowance 3.
abbrev pub LineC : Type 0
LineC = Undecided B 2 2 × Unsafe B 3 3 (0 ∷ 1 ∷ 2 ∷ 3 ∷ [])

-- With the contents of its file: the groups stand before the rows, each from the first to the last.
abbrev pub LineD : Type 0
LineD =
    Unsafe D release 0 (0 ∷ 1 ∷ 2 ∷ 3 ∷ [])
    × (contents new_form (held D)
    ≡ 0x05 ∷ 0x00 ∷ 0x03 ∷ 0x80 ∷ 0x01 ∷ 0x08 ∷ 0x00 ∷ 0x01 ∷ 0x02 ∷ 0x04 ∷ 0x02 ∷ 0x04 ∷ 0x08 ∷ 0x00 ∷ 0x10 ∷ [])

-- The specification's bytes and check are of the old form; those of the new one stand beside them.
abbrev pub LineE : Type 0
LineE =
    Safe E release 1 (0 ∷ [])
    × (contents old_form (held E) ≡ 0x03 ∷ 0x00 ∷ 0x00 ∷ 0x00 ∷ 0x01 ∷ 0x04 ∷ 0x01 ∷ 0x04 ∷ 0x00 ∷ [])
    × (check_of 0 (block_of 0 (contents old_form (held E)) 0) ≡ 97)
    × (contents new_form (held E) ≡ 0x03 ∷ 0x00 ∷ 0x00 ∷ 0x80 ∷ 0x01 ∷ 0x04 ∷ 0x00 ∷ 0x01 ∷ 0x04 ∷ 0x00 ∷ [])
    × (check_of 0 (block_of 0 (contents new_form (held E)) 0) ≡ 870)

abbrev pub LineF : Type 0
LineF = Unsafe F release 0 (0 ∷ [])

abbrev pub LineG : Type 0
LineG = Safe G release 0 [] × Safe restingG release 0 [] × ((stored restingG).forbidden ≡ set [])

-- The new form, and the old one, in which the contents just fill a block.
abbrev pub LineH : Type 0
LineH =
    (content_length new_form 61 0 ≡ 516)
    × (blocks_for (content_length new_form 61 0) ≡ 2)
    × (content_length new_form 61 1 ≡ 524)
    × (blocks_for (content_length new_form 61 1) ≡ 2)
    × (content_length old_form 61 0 ≡ 508)
    × (blocks_for (content_length old_form 61 0) ≡ 1)
    × (content_length old_form 61 1 ≡ 516)
    × (blocks_for (content_length old_form 61 1) ≡ 2)

pub record Worked : Type 0 where
  pub line_A : LineA
  pub line_B : LineB
  pub line_C : LineC
  pub line_D : LineD
  pub line_E : LineE
  pub line_F : LineF
  pub line_G : LineG
  pub line_H : LineH
