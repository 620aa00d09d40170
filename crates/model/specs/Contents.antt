-- Contents, a dialogue as bytes (the specification, "Files").
--
--   Form                      the form of a file: the new one, and the old one, which has no resting states
--   heads form, added form    the sets that stand before the groups, how many; what is added to g
--   set_width n                w, the bytes that a set takes; set_bytes w X: its bytes
--   sets form d               the sets of a dialogue in the file's order: initial, marked, resting (in the new form), the groups, the rows
--   header_bytes               the bytes of n and of the second number, which is g with what is added, before the sets
--   contents form d           the contents joined; content_length form n g: L, how many bytes they are
--   set_in bytes w at          the set whose w bytes begin at `at`; set_number bytes n k: set k of the contents of a table with n states
--   dialogue_in form bytes n g the dialogue that contents hold
use Rattle.std.specs.Prelude.{ℕ, ◌+◌, ◌*◌, ◌/◌, ◌%◌, cond, ◌&&◌, List, [], ◌∷◌, ◌++◌, ltb, length, get_or}
use Rattle.basics.specs.Bounds.{tabulate, concat}
use Rattle.model.specs.Sets.{Set, bit, member, number, set_of, empty}
use Rattle.model.specs.Tables.{Dialogue}
use Rattle.model.specs.Stores.{head_sets}
use Rattle.model.specs.Blocks.{le16}

pub data Form : Type 0 where
  old_form : Form
  new_form : Form

abbrev pub heads : Form → ℕ
heads old_form = 2
heads new_form = head_sets

abbrev pub added : Form → ℕ
added old_form = 0
added new_form = 32768

abbrev pub set_width : ℕ → ℕ
set_width n = (n + 7) / 8

-- State s is the bit of value 2^(s mod 8) in byte s/8.
unfoldable pub set_bytes : ℕ → Set → List ℕ
set_bytes w X = tabulate w (λ j. number (member X) (8 * j) 8)

abbrev pub heads_of : Form → Dialogue → List Set
heads_of old_form d = d.initial ∷ d.marked ∷ []
heads_of new_form d = d.initial ∷ d.marked ∷ d.resting ∷ []

unfoldable pub sets : Form → Dialogue → List Set
sets form d = heads_of form d ++ (d.groups ++ tabulate d.n d.row)

unfoldable pub contents : Form → Dialogue → List ℕ
contents form d =
    let xs = sets form d in
    le16 d.n ++ (le16 (added form + length d.groups) ++ concat (length xs) (λ k. set_bytes (set_width d.n) (get_or xs k [])))

abbrev pub header_bytes : ℕ
header_bytes = 4

abbrev pub content_length : Form → ℕ → ℕ → ℕ
content_length form n g = header_bytes + set_width n * (heads form + g + n)

-- ---- reading

-- The set whose w bytes begin at `at`.
unfoldable pub set_in : List ℕ → ℕ → ℕ → Set
set_in bytes w at = set_of (λ s. ltb s (8 * w) && bit (get_or bytes (at + s / 8) 0) (s % 8))

-- Set k of the contents of a table with n states.
unfoldable pub set_number : List ℕ → ℕ → ℕ → Set
set_number bytes n k = set_in bytes (set_width n) (header_bytes + set_width n * k)

abbrev pub resting_in : Form → List ℕ → ℕ → Set
resting_in old_form bytes n = empty
resting_in new_form bytes n = set_number bytes n 2

unfoldable pub dialogue_in : Form → List ℕ → ℕ → ℕ → Dialogue
dialogue_in form bytes n g =
    record {
      n = n;
      initial = set_number bytes n 0;
      marked = set_number bytes n 1;
      resting = resting_in form bytes n;
      groups = tabulate g (λ j. set_number bytes n (heads form + j));
      row = λ s. cond (ltb s n) (set_number bytes n (heads form + g + s)) empty;
    }
