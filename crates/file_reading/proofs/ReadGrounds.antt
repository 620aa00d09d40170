-- Laws of what the functions of `read` give, each of its own grounds.
--
--   reads_refused, reads_first        a ground holds: that of a callee, or the one with number i in the list
--   reads_table                       none does, and the table is in the store
--   reads_behind, reads_past          the grounds before those that a callee looks at do not hold; by what another callee said of them
--   part-block, long_input,           ground 11 holds, or does not
--   whole_blocks
--   second_is, second_low,            the second number, from g as code works it out; ground 15 holds
--   second_high
--   header_passes                     grounds 14 and 15 do not hold
--   count_passes, miscounted          ground 16 does not hold, or does
--   filler_said                       ground 18, as it is said of the bytes behind the contents
--   reads_contents                    the contents, with g as code works it out
--   Same, zeros_same                  bytes that are those of contents, with 0 behind them; so are contents joined in a buffer of zeros
--   joined-room                       they have room there
--   reads_joined                      contents that were joined are read as the contents of the input
--   reads_call, draft-read, file-read the contract of `read_as`; of a draft, and of a file
use Rattle.std.specs.Prelude.{Result, Ok, Err}
use Prim.Native.Nat.{ℕ, ◌+◌, ◌*◌, ◌-◌, ◌/◌, ◌%◌, ◌≤◌, ◌<◌}
use native.Mathlib.Omega.{arith}
use mathlib.Core.Path.{◌≡◌, refl, sym, ap, ap₂, ◌∙◌, subst, transport}
use mathlib.Core.Bool.{Bool, true, false, cond, not, ◌&&◌, ◌||◌}
use mathlib.Core.List.{List, [], ◌∷◌, ◌++◌, append-nil}
use borrow.Author.Tests.{lt-ltb, le-ltb, eq-eqb, ne_eqb}
use lib.Dec.{eqb, leb, ltb}
use lib.ListN.{length, get_or, take, drop, replicate, length-replicate}
use Rattle.basics.specs.Bounds.{any, tabulate}
use Rattle.basics.specs.Refusals.{Ground, refuse, answered}
use Rattle.model.specs.Sets.{max_states, bit, set_of, empty}
use Rattle.model.specs.Tables.{Dialogue}
use Rattle.model.specs.Stores.{max_groups, store_words, layout, beyond, non_zero, store_ground}
use Rattle.model.specs.Blocks.{block_bytes, content_bytes, max_site, site_ground, le16_at, blocks_for, contents_of}
use Rattle.model.specs.Contents.{Form, old_form, new_form, heads, added, set_width, header_bytes, content_length, set_in, set_number, resting_in, dialogue_in}
use Rattle.model.specs.Files.{max_file}
use Rattle.model.specs.Calls.{overwrite, states_in, second_in, groups_in, bad_length, bad_second, content_grounds, file_grounds, read_grounds_as, read_answer_as, read_buffer_as}
use Rattle.basics.proofs.BoundLaws.{or_left, or_right, or_none}
use Rattle.basics.proofs.RefusalLaws.{First, number_at, refuse-first, Clear, numbered, refuse_clear, answer-refused, answer_clear, answer_behind}
use Rattle.model.proofs.CallLaws.{draft-says, second_pass}
use Rattle.model.proofs.Drafts.{draft-layout}
use Rattle.file_blocks.specs.Forms.{joined_room}
use Rattle.file_blocks.proofs.ContentsLength.{get_or-joined}
use Rattle.file_contents_reading.proofs.BytesJoined.{non_zero_part}
use Rattle.core_table.specs.Writing.{cleared}
use Rattle.core_refusals.specs.declared.Refusal.{Refusal}
use Rattle.core_refusals.specs.Refusals.{number}
use Rattle.core_refusals.proofs.RefusalNumbers.{number_some}
use Rattle.file_reading.specs.declared.TableSize.{TableSize}
use Rattle.file_reading.specs.ReadAnswers.{CalledReadAs}
use Rattle.file_reading.specs.Reading.{bytes_grounds, Reads, ReadsFile, ReadsContents}

-- ---- what a call gives

module _ {d : ℕ → ℕ → Dialogue} {n g : ℕ} {before : List ℕ} where
  pub reads_refused : (gs : List Ground) {r : Refusal} → number r ≡ refuse gs → Reads gs d n g before (Err r) before
  reads_refused gs {r} e = let no = answer-refused gs _ e (number_some r) in record { says = sym no; leaves = sym (rw no) }

  pub reads_first : (i : ℕ) (gs : List Ground) → First i gs → {r : Refusal} → number r ≡ number_at i gs → Reads gs d n g before (Err r) before
  reads_first i gs f {r} e = reads_refused gs {r = r} (e ∙ refuse-first i gs f)

  pub reads_table : (gs : List Ground) → Clear gs → {m h : ℕ} {after : List ℕ} → m ≡ n → h ≡ g → after ≡ overwrite (layout (d m h)) before
      → Reads gs d n g before (Ok (record { n = m; g = h })) after
  reads_table gs c p q f =
      let yes = answer_clear gs _ c in
      record {
        says = ap₂ (λ (a b : ℕ). answered (record { n = a; g = b })) p q ∙ sym yes;
        leaves = f ∙ ap₂ (λ (a b : ℕ). overwrite (layout (d a b)) before) p q ∙ sym (rw yes);
      }

  module _ (xs ys : List Ground) {r : Result TableSize Refusal} {after : List ℕ} where
    pub reads_behind : Clear xs → Reads ys d n g before r after → Reads (xs ++ ys) d n g before r after
    reads_behind c so = record { says = rw (answer_behind xs ys _ c) so.says; leaves = rw (answer_behind xs ys _ c) so.leaves }

    pub reads_past : numbered xs ≡ true → {k : ℕ} → k ≡ refuse xs → k ≡ 0 → Reads ys d n g before r after → Reads (xs ++ ys) d n g before r after
    reads_past m e z = reads_behind (refuse_clear xs [] m (ap refuse (append-nil xs) ∙ sym e ∙ z)).0

-- ---- ground 11

module _ (input : List ℕ) where
  pub part-block : (length input % block_bytes ≡ 0 → ⊥) → bad_length input ≡ true
  unfolding bad_length
  part-block x = or_left _ _ (ap not (ne_eqb (length input % block_bytes) 0 x))

  pub long_input : max_file < length input → bad_length input ≡ true
  unfolding bad_length
  long_input h = or_right (not (eqb (length input % block_bytes) 0)) _ (lt-ltb max_file (length input) h)

  pub whole_blocks : length input % block_bytes ≡ 0 → length input ≤ max_file → bad_length input ≡ false
  unfolding bad_length
  whole_blocks e h = or_none _ _ (ap not (eq-eqb (length input % block_bytes) 0 e)) (le-ltb max_file (length input) h)

-- ---- the contents

-- the second number, from g as code works it out with what the form adds
pub second_is : {second least adds : ℕ} → least ≡ adds → least ≤ second → second ≡ adds + (second - least)
second_is e l = omega arith

-- ground 15 holds
module _ (form : Form) {second : ℕ} where
  pub second_low : {least : ℕ} → least ≡ added form → second < least → bad_second form second ≡ true
  unfolding bad_second
  second_low e h = or_left _ _ (lt-ltb second (added form) (omega arith))

  pub second_high : {g : ℕ} → second ≡ added form + g → max_groups < g → bad_second form second ≡ true
  unfolding bad_second
  second_high e h = or_right (ltb second (added form)) _ (lt-ltb (added form + max_groups) second (omega arith))

-- grounds 14 and 15 do not hold
pub header_passes : (form : Form) (n : ℕ) {second least : ℕ} → (n ≡ 0 → ⊥) → n ≤ max_states → least ≡ added form → least ≤ second → second - least ≤ max_groups
    → ((eqb n 0 || ltb max_states n) ≡ false) × (bad_second form second ≡ false)
header_passes form n some small e l few = (or_none _ _ (ne_eqb n 0 some) (le-ltb max_states n small), second_pass form _ _ (second_is e l) few)

-- ground 16 does not hold, or does
module _ (form : Form) (n g : ℕ) {needed size : ℕ} (e : size ≡ content_length form n g) (f : needed ≡ blocks_for size) where
  needs : needed ≡ blocks_for (content_length form n g)
  needs = f ∙ ap (λ (l : ℕ). blocks_for l) e

  pub count_passes : {blocks : ℕ} → blocks ≡ needed → not (eqb blocks (blocks_for (content_length form n g))) ≡ false
  count_passes same = ap not (eq-eqb _ _ (same ∙ needs))

  pub miscounted : {blocks : ℕ} → (blocks ≡ needed → ⊥) → not (eqb blocks (blocks_for (content_length form n g))) ≡ true
  miscounted other = ap not (ne_eqb _ _ (λ s. other (s ∙ sym needs)))

-- ground 18, of the bytes behind the contents
pub filler_said : (form : Form) (bytes : List ℕ) (n g : ℕ) {size end : ℕ} {b : Bool} → size ≡ content_length form n g → size ≤ end → end ≤ length bytes
    → let part = take (end - size) (drop size bytes) in b ≡ non_zero part 0 (length part) → non_zero bytes (content_length form n g) end ≡ b
filler_said form bytes n g {end = end} e l h f = sym (f ∙ non_zero_part bytes l h ∙ ap (λ (m : ℕ). non_zero bytes m end) e)

pub reads_contents : (form : Form) (bytes : List ℕ) (blocks n second : ℕ) {least : ℕ} {before : List ℕ} {r : Result TableSize Refusal} {after : List ℕ} → least ≡ added form
    → Reads (bytes_grounds form bytes blocks n second (second - least)) (dialogue_in form bytes) n (second - least) before r after
    → ReadsContents form bytes blocks n second before r after
reads_contents form bytes blocks n second {before = before} {r} {after} e =
    subst (λ (l : ℕ). Reads (bytes_grounds form bytes blocks n second (second - l)) (dialogue_in form bytes) n (second - l) before r after) e

-- ---- contents that were joined

pub record Same (bytes contents : List ℕ) : Type 0 where
  pub at : (i : ℕ) → get_or bytes i 0 ≡ get_or contents i 0

pub zeros_same : (contents : List ℕ) (m : ℕ) {bytes : List ℕ} → bytes ≡ overwrite contents (replicate m 0) → Same bytes contents
zeros_same contents m e = record { at = λ i. ap (λ xs. get_or xs i 0) e ∙ get_or-joined contents m i }

pub joined-room : (m : ℕ) {l : ℕ} → joined_room ≤ m → l ≤ max_file → content_bytes * (l / block_bytes) ≤ length {A = ℕ} (replicate m 0)
joined-room m e h = omega (arith, length-replicate {A = ℕ} m 0)

module _ {bytes contents : List ℕ} (s : Same bytes contents) where
  set_same : (n k : ℕ) → set_number bytes n k ≡ set_number contents n k
  unfolding set_number set_in
  set_same n k = λ i. set_of (λ t. ltb t (8 * set_width n) && bit (s.at (header_bytes + set_width n * k + t / 8) i) (t % 8))

  grounds-same : (form : Form) (blocks n second g : ℕ) → bytes_grounds form bytes blocks n second g ≡ bytes_grounds form contents blocks n second g
  unfolding bytes_grounds non_zero
  grounds-same form blocks n second g = λ i.
      (eqb n 0 || ltb max_states n, 14)
      ∷ (bad_second form second, 15)
      ∷ (not (eqb blocks (blocks_for (content_length form n g))), 16)
      ∷ (any (heads form + g + n) (λ k. beyond n (set_same n k i)), 17)
      ∷ (any (content_bytes * blocks) (λ j. leb (content_length form n g) j && not (eqb (s.at j i) 0)), 18)
      ∷ []

  resting-same : (form : Form) (n : ℕ) → resting_in form bytes n ≡ resting_in form contents n
  resting-same old_form n = refl
  resting-same new_form n = set_same n 2

  dialogue_same : (form : Form) (n g : ℕ) → dialogue_in form bytes n g ≡ dialogue_in form contents n g
  unfolding dialogue_in
  dialogue_same form n g = λ i.
      record {
        n = n;
        initial = set_same n 0 i;
        marked = set_same n 1 i;
        resting = resting-same form n i;
        groups = tabulate g (λ j. set_same n (heads form + j) i);
        row = λ t. cond (ltb t n) (set_same n (heads form + g + t) i) empty;
      }

pub reads_joined : (form : Form) (input : List ℕ) {bytes : List ℕ} → Same bytes (contents_of input) → {n second : ℕ} → n ≡ le16_at bytes 0 → second ≡ le16_at bytes 2
    → {before : List ℕ} {r : Result TableSize Refusal} {after : List ℕ} → ReadsContents form bytes (length input / block_bytes) n second before r after
    → Reads (content_grounds form input (states_in input) (second_in input)) (dialogue_in form (contents_of input)) (states_in input) (groups_in form input) before r after
unfolding content_grounds bytes_grounds
reads_joined form input s e f {before} {r} {after} =
    let p : _ ≡ states_in input = e ∙ ap₂ (λ (a b : ℕ). a + 256 * b) (s.at 0) (s.at 1) in
    let q : _ ≡ second_in input = f ∙ ap₂ (λ (a b : ℕ). a + 256 * b) (s.at 2) (s.at 3) in
    transport
    (λ i. Reads (grounds-same s form (length input / block_bytes) (p i) (q i) (q i - added form) i) (λ m h. dialogue_same s form m h i) (p i) (q i - added form) before r after)

-- ---- the call

module _ (form : Form) (input : List ℕ) (site : ℕ) (store : List ℕ) where
  pub reads_call : {r : Result TableSize Refusal} {after : List ℕ}
      → Reads (read_grounds_as form input site (length store)) (dialogue_in form (contents_of input)) (states_in input) (groups_in form input) store r after
      → CalledReadAs form input site store r after
  unfolding read_answer_as read_buffer_as
  reads_call so = (so.says, so.leaves)

  module _ (fits : store_words ≤ length store) (known : site ≤ max_site) where
    clear : Clear (store_ground (length store) ∷ site_ground site ∷ [])
    clear = (le-ltb (length store) store_words fits, (le-ltb max_site site known, tt))

    pub draft-read : length input ≡ 0 → {after : List ℕ} → after ≡ cleared store → CalledReadAs form input site store (Ok (record { n = 0; g = 0 })) after
    unfolding read_grounds_as cleared
    draft-read empty f =
        let none = draft-says form input empty in
        reads_call {r = Ok (record { n = 0; g = 0 })}
        (rw (eq-eqb (length input) 0 empty)
        (reads_table _ clear (sym none.0) (sym none.1) (f ∙ ap (λ xs. overwrite xs store) (sym (draft-layout form (contents_of input))))))

    pub file-read : 0 < length input → {r : Result TableSize Refusal} {after : List ℕ} → ReadsFile form input site store r after → CalledReadAs form input site store r after
    unfolding read_grounds_as
    file-read some {r} so = reads_call {r = r} (rw (ne_eqb (length input) 0 (λ z. omega arith)) (reads_behind (store_ground (length store) ∷ site_ground site ∷ []) (file_grounds form input site) clear so))
