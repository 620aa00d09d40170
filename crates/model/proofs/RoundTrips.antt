-- The proof of the round trips (specs/RoundTrip.antt).
--
--   Storable t g, readable_file     a table that a file can hold; read takes its blocks, and finds its n, g and sets (read-n, read-g, read_set)
--   storable, read-holds            an accepted store holds such a table, and also holds the table that is read from its file (ReadsBack, file-read;
--                                   new_read: of the new form, with no more asked)
--   write_read                      so a table that is written is read again
--   contents-table, file-table      a table that was read has the contents and the file that it was read from
--   Taken, taken                    what is known of an input that read takes, in either form
--   laid, filled_held               laid out in a store it is accepted by write, and file_filled: has that file
--   write-draft, write-blocks       an input of no bytes, or of blocks, that is read, is written again; read-write: either
--   file_sizes                      the lengths of contents and files
--   round_trips                     both
use Prim.Native.Nat.{ℕ, ◌+◌, ◌*◌, ◌/◌, ◌^◌, ◌≤◌, ◌<◌}
use native.Mathlib.Nat.{eq-zero-or-pos}
use native.Mathlib.Omega.{arith}
use mathlib.Core.Path.{◌≡◌, refl, sym, ap, ap₂, ◌∙◌, subst}
use mathlib.Core.Logic.{⊎_elim}
use mathlib.Core.Bool.{false}
use mathlib.Core.List.{List, [], ◌++◌}
use borrow.Author.Tests.{ltb-true, ltb-false}
use lib.Dec.{ltb}
use lib.ListN.{length, get_or, take}
use Rattle.basics.specs.Bounds.{tabulate, concat}
use Rattle.model.specs.Sets.{WORDS, max_states, Set, member, number, empty}
use Rattle.model.specs.Tables.{Dialogue}
use Rattle.basics.specs.Refusals.{refuse, answered}
use Rattle.model.specs.Stores.{max_groups, marked_at, resting_at, group_at, row_at, store_words, set_at, dialogue_of, layout, beyond}
use Rattle.model.specs.Blocks.{block_bytes, content_bytes, check_at, max_site, le16, le16_at, check_of, blocks_for, block_of, part, contents_of}
use Rattle.model.specs.Contents.{Form, old_form, new_form, heads, added, set_width, sets, header_bytes, contents, content_length, set_number, dialogue_in}
use Rattle.model.specs.Files.{block_file, block_file_length, file_of, file_length, max_file}
use Rattle.model.specs.Calls.{overwrite, TableRead, states_in, second_in, groups_in, read_grounds_as, read_grounds, read_answer_as, read_buffer_as, read_buffer, write_buffer}
use Rattle.model.specs.RoundTrip.{Bounded, WriteRead, ReadWrite, RoundTrips, FileSizes}
use Rattle.basics.proofs.BoundLaws.{by_cond, lt_or_ge, length-tabulate, get_or-tabulate}
use Rattle.model.proofs.SetsMembers.{In, empty_in, empty_proper}
use Rattle.model.proofs.ListsInParts.{get_or_past, concat_cong, length-overwrite}
use Rattle.model.proofs.BlockLaws.{le16_at-le16, IsBlock, block_unique, block-number, block-check, is_block, block_of-is, length_part, part-bounded, concat-part, length-contents_of, get_or-contents_of, contents_of-bounded}
use Rattle.model.proofs.SetsBytes.{set_in_proper, set_in_below, number-set_in, set_in-is}
use Rattle.model.proofs.ContentLaws.{dialogue_in-row, added-most, heads-least, heads-each, sets_group, sets-row, sets-each, by_resting, length-contents, contents-header, contents-set, contents_cong, header_pairs, by_content}
use Rattle.model.proofs.FileLaws.{length-block_file, part-block_file, contents_of-block_file, file-draft, file-blocks, length-draft, length-blocks, length-file_of, file_length-most}
use Rattle.model.proofs.StoresTables.{set_at_proper, dialogue_of-row, set_at-empty, Holds, holds-layout, Laid, length-layout, overwrite-holds, holds-sets, Within, beyond_below, below_beyond, malformed_clean, clean_malformed, holds_clean}
use Rattle.model.proofs.StoresAccepted.{Store}
use Rattle.model.proofs.FilesWritten.{file-is}
use Rattle.model.proofs.CallLaws.{Writable, written, write-answer, write-buffer, Readable, read_none, readable, draft-refusal, readable_refusal, read_answer_lem, read-buffer, no_bytes, draft-says}

-- ---- the file of a table, read

pub record Storable (form : Form) (t : Dialogue) (g : ℕ) : Type 0 where
  pub many : length t.groups ≡ g
  pub small : t.n ≤ max_states
  pub few : g ≤ max_groups
  pub within : (k : ℕ) → k < heads form + g + t.n → Within t.n (get_or (sets form t) k [])

module _ (form : Form) (site : ℕ) (t : Dialogue) (g : ℕ) (ok : Storable form t g) (some : t.n ≡ 0 → ⊥) where
  read-n : le16_at (contents_of (block_file form site t)) 0 ≡ t.n
  read-n =
      le16_at-le16 (contents_of (block_file form site t)) 0 t.n (omega (arith, ok.small))
      (contents_of-block_file form site t 0 ∙ contents-header form t ok.many 0 (omega arith))
      (contents_of-block_file form site t 1 ∙ contents-header form t ok.many 1 (omega arith))

  read_second : second_in (block_file form site t) ≡ added form + g
  read_second =
      le16_at-le16 (contents_of (block_file form site t)) 2 (added form + g) (omega (arith, ok.few, added-most form))
      (contents_of-block_file form site t 2 ∙ contents-header form t ok.many 2 (omega arith))
      (contents_of-block_file form site t 3 ∙ contents-header form t ok.many 3 (omega arith))

  read-g : groups_in form (block_file form site t) ≡ g
  read-g = omega (arith, read_second)

  read_set : (k : ℕ) → k < heads form + g + t.n → set_number (contents_of (block_file form site t)) t.n k ≡ get_or (sets form t) k []
  unfolding set_number
  read_set k h =
      let w = set_width t.n in
      set_in-is (contents_of (block_file form site t)) w (header_bytes + w * k) (get_or (sets form t) k []) (ok.within k h).proper
      (λ s l. omega (arith, (ok.within k h).below s l))
      (λ j l. contents_of-block_file form site t (header_bytes + w * k + j) ∙ contents-set form t ok.many k j h l)

  readable_file : (room : ℕ) → store_words ≤ room → site ≤ max_site → Readable form (block_file form site t) site room t.n g
  readable_file room h known =
      let long = length-block_file form site t ok.many in
      let short = subst (λ (l : ℕ). l ≤ max_file) (length-blocks form t.n g some) (file_length-most form t.n g ok.small ok.few) in
      let block : (k : ℕ) → k < length (block_file form site t) / block_bytes → part (block_file form site t) k ≡ block_of site (contents form t) k = λ k l. part-block_file form site t ok.many k (omega arith) in
      record {
        fits = h;
        known = known;
        present = λ e. omega arith;
        whole = omega arith;
        short = omega arith;
        number = λ k l. ap (λ b. le16_at b 0) (block k l) ∙ block-number (block_of-is site (contents form t) k) (omega arith);
        check = λ k l. ap (λ b. le16_at b check_at) (block k l) ∙ block-check (block_of-is site (contents form t) k) ∙ ap (check_of site) (sym (block k l));
        n-is = read-n;
        g-is = read-g;
        second = read_second;
        some = some;
        small = ok.small;
        few = ok.few;
        blocks = omega arith;
        within = λ k l. below_beyond t.n _ (λ s i. (ok.within k l).below s (subst (λ (X : Set). In X s) (read_set k l) i));
        filler = λ i a b. contents_of-block_file form site t i ∙ get_or_past (contents form t) i 0 (omega (arith, length-contents form t ok.many));
      }

-- ---- write, then read

module _ (form : Form) (store : List ℕ) (n g : ℕ) (words : Bounded (2 ^ 64) store) (held : Store store n g) where
  pub storable : Storable form (dialogue_of store n g) g
  unfolding dialogue_of
  storable =
      let clean = malformed_clean store n g held.clean in
      let small = held.small in
      let set : (at : ℕ) → at + WORDS ≤ store_words → beyond n (set_at store at) ≡ false → Within n (set_at store at) =
      λ at h e. record { proper = set_at_proper store at (omega (arith, held.long)) words; below = beyond_below n (set_at store at) e } in
      record {
        many = length-tabulate _ g;
        small = small;
        few = held.few;
        within =
            sets-each form (dialogue_of store n g) (length-tabulate _ g) (λ k X. Within n X)
            (heads-each form (dialogue_of store n g) (λ k X. Within n X) (set 0 (omega arith) clean.initial) (set marked_at (omega arith) clean.marked)
            (λ l. set resting_at (omega arith) clean.resting))
            (λ j h. rw (get_or-tabulate (λ i. set_at store (group_at i)) g j [] h) (set (group_at j) (omega (arith, held.few)) (clean.group j h)))
            (λ s h. subst (Within n) (sym (dialogue_of-row store n g s h)) (set (row_at s) (omega arith) (clean.row s h)));
      }

-- ---- the first sets of a dialogue, and the resting set that contents hold, in either form

sets_front : (form : Form) (t : Dialogue) → (get_or (sets form t) 0 [] ≡ t.initial) × (get_or (sets form t) 1 [] ≡ t.marked)
unfolding sets
sets_front old_form t = (refl, refl)
sets_front new_form t = (refl, refl)

sets-resting : (form : Form) (t : Dialogue) → 2 < heads form → get_or (sets form t) 2 [] ≡ t.resting
unfolding sets
sets-resting old_form t h = absurd (omega arith)
sets-resting new_form t h = refl

-- contents that have the sets of the store are those of a table that the store holds; in the old form its resting set must be empty
module _ (form : Form) (store : List ℕ) (n g : ℕ) (held : Store store n g) (bare : heads form ≤ 2 → set_at store resting_at ≡ empty) where
  read-holds : (bytes : List ℕ) → ((k : ℕ) → k < heads form + g + n → set_number bytes n k ≡ get_or (sets form (dialogue_of store n g)) k [])
      → Holds store (dialogue_in form bytes n g)
  unfolding dialogue_of dialogue_in
  read-holds bytes e =
      let clean = malformed_clean store n g held.clean in
      let small = held.small in
      let t = dialogue_of store n g in
      let group : ℕ → Set = λ i. set_number bytes n (heads form + i) in
      let front = sets_front form t in
      record {
        initial = sym (e 0 (omega (arith, heads-least form)) ∙ front.0);
        marked = sym (e 1 (omega (arith, heads-least form)) ∙ front.1);
        resting = by_resting form bytes n (λ (X : Set). set_at store resting_at ≡ X) (λ l. sym (e 2 (omega arith) ∙ sets-resting form t l)) bare;
        group = λ j h. ⊎_elim
            (λ l. sym (get_or-tabulate group g j empty l ∙ e (heads form + j) (omega arith) ∙ sets_group form t (length-tabulate _ g) j l ∙ get_or-tabulate _ g j [] l))
            (λ l.
            set_at-empty store (group_at j) (omega (arith, held.long)) (λ v x. clean.no_group (group_at j + v) (omega arith) (omega arith))
            ∙ sym (get_or_past (tabulate g group) j empty (omega (arith, length-tabulate group g))))
            (lt_or_ge j g);
        row = λ s h. by_cond (λ (X : Set). set_at store (row_at s) ≡ X) (ltb s n) _ empty
            (λ q.
            let l = ltb-true s n q in
            sym (dialogue_in-row form bytes n g s l ∙ e (heads form + g + s) (omega arith) ∙ sets-row form t (length-tabulate _ g) s l ∙ dialogue_of-row store n g s l))
            (λ q.
            let l = ltb-false s n q in
            set_at-empty store (row_at s) (omega (arith, held.long)) (λ v x. clean.no_row (row_at s + v) (omega arith) (omega arith)));
      }

-- the file of a store in a form, read in that form into another store, gives back n, g and the words of the table
pub record ReadsBack (form : Form) (store : List ℕ) (n g site : ℕ) (file other : List ℕ) : Type 0 where
  pub answer : read_answer_as form file site (length other) ≡ answered (record { n = n; g = g })
  pub buffer : read_buffer_as form file site other ≡ overwrite (take store_words store) other

module _ (form : Form) (store : List ℕ) (n g site : ℕ) (other : List ℕ) (held : Store store n g) (known : site ≤ max_site) (ok : Storable form (dialogue_of store n g) g) (bare : heads form ≤ 2 → set_at store resting_at ≡ empty) where
  -- a file that read takes, and that has n, g and the sets of the store
  reads_back : (file : List ℕ) → refuse (read_grounds_as form file site (length other)) ≡ 0 → states_in file ≡ n → groups_in form file ≡ g
      → ((k : ℕ) → k < heads form + g + n → set_number (contents_of file) n k ≡ get_or (sets form (dialogue_of store n g)) k []) → ReadsBack form store n g site file other
  reads_back file e p q sets-are =
      record {
        answer = read_answer_lem form file site (length other) e ∙ ap₂ (λ (a b : ℕ). answered (record { n = a; g = b })) p q;
        buffer =
            read-buffer form file site other e
            ∙ ap₂ (λ (a b : ℕ). overwrite (layout (dialogue_in form (contents_of file) a b)) other) p q
            ∙ ap (λ xs. overwrite xs other) (holds-layout store _ (read-holds form store n g held bare (contents_of file) sets-are));
      }

  pub file-read : store_words ≤ length other → ReadsBack form store n g site (file_of form site (dialogue_of store n g)) other
  unfolding dialogue_of set_number
  file-read h =
      let t = dialogue_of store n g in
      ⊎_elim
      (λ (e : n ≡ 0).
      subst (λ (file : List ℕ). ReadsBack form store n g site file other) (sym (file-draft form site t e))
      (reads_back [] (draft-refusal form [] site (length other) h known refl) ((draft-says form [] refl).0 ∙ sym e) ((draft-says form [] refl).1 ∙ sym (held.draft e))
      (λ k l. set_in-is (contents_of []) (set_width n) (header_bytes + set_width n * k) (get_or (sets form t) k []) (ok.within k l).proper
      (λ s m. omega (arith, (ok.within k l).below s m)) (λ j m. absurd (omega arith)))))
      (λ (l : 0 < n).
      let some : n ≡ 0 → ⊥ = λ e. omega arith in
      let r = readable_file form site t g ok some (length other) h known in
      subst (λ (file : List ℕ). ReadsBack form store n g site file other) (sym (file-blocks form site t some))
      (reads_back (block_file form site t) (readable_refusal form (block_file form site t) site (length other) n g r) (read-n form site t g ok some) (read-g form site t g ok some) (read_set form site t g ok some)))
      (eq-zero-or-pos n)

-- every set of a file of the new form is read, the resting ones too
pub new_read : (store : List ℕ) (n g site : ℕ) (other : List ℕ) → Store store n g → site ≤ max_site → Storable new_form (dialogue_of store n g) g → store_words ≤ length other
    → WriteRead store n g site (file_of new_form site (dialogue_of store n g)) other
new_read store n g site other held known ok h =
    let r = file-read new_form store n g site other held known ok (λ l. absurd (omega arith)) h in
    record { answer = r.answer; buffer = r.buffer }

write_read : (store : List ℕ) (n g site : ℕ) (out other : List ℕ) → Bounded (2 ^ 64) store → Writable store n g site (length out) → store_words ≤ length other
    → WriteRead store n g site (take (file_length new_form n g) (write_buffer store n g site out)) other
write_read store n g site out other words w h =
    subst (λ (file : List ℕ). WriteRead store n g site file other) (sym (file-is store n g site out w))
    (new_read store n g site other w.held w.known (storable new_form store n g words w.held) h)

-- ---- read, then write

module _ (form : Form) (input : List ℕ) (n g : ℕ) where
  abbrev pub table : Dialogue
  table = dialogue_in form (contents_of input) n g

  pub many-groups : length table.groups ≡ g
  unfolding dialogue_in
  many-groups = length-tabulate _ g

  sets-table : (k : ℕ) → k < heads form + g + n → get_or (sets form table) k [] ≡ set_number (contents_of input) n k
  unfolding dialogue_in
  sets-table =
      sets-each form table many-groups (λ k X. X ≡ set_number (contents_of input) n k)
      (heads-each form table (λ k X. X ≡ set_number (contents_of input) n k) refl refl (λ l. by_resting form (contents_of input) n (λ (X : Set). X ≡ set_number (contents_of input) n 2) (λ m. refl) (λ m. absurd (omega arith))))
      (λ j h. get_or-tabulate (λ i. set_number (contents_of input) n (heads form + i)) g j [] h) (λ s h. dialogue_in-row form (contents_of input) n g s h)

  pub laid : Laid table
  unfolding dialogue_in set_number
  laid =
      let w = set_width n in
      let bytes = contents_of input in
      record {
        initial = (set_in_proper bytes w (header_bytes + w * 0)).long;
        marked = (set_in_proper bytes w (header_bytes + w * 1)).long;
        resting = by_resting form bytes n (λ (X : Set). length X ≡ WORDS) (λ l. (set_in_proper bytes w (header_bytes + w * 2)).long) (λ l. empty_proper.long);
        group = λ j. ⊎_elim
            (λ h. ap length (get_or-tabulate (λ i. set_number bytes n (heads form + i)) g j empty h) ∙ (set_in_proper bytes w (header_bytes + w * (heads form + j))).long)
            (λ h. ap length (get_or_past table.groups j empty (omega (arith, many-groups))) ∙ empty_proper.long)
            (lt_or_ge j g);
        row = λ s.
            by_cond (λ (X : Set). length X ≡ WORDS) (ltb s n) _ empty (λ q. (set_in_proper bytes w (header_bytes + w * (heads form + g + s))).long) (λ q. empty_proper.long);
      }

module _ (form : Form) (input : List ℕ) (site room n g : ℕ) (u : Bounded 256 input) (r : Readable form input site room n g) where
  contents-table : (i : ℕ) → get_or (contents form (table form input n g)) i 0 ≡ get_or (contents_of input) i 0
  unfolding dialogue_in set_number
  contents-table i =
      let bytes = contents_of input in
      let w = set_width n in
      let small = contents_of-bounded input u in
      let fits : 8 * w ≤ max_states = omega (arith, r.small) in
      ⊎_elim
      (by_content (λ j. get_or (contents form (table form input n g)) j 0 ≡ get_or bytes j 0) w (heads form + g + n)
      (λ j h.
      contents-header form (table form input n g) (many-groups form input n g) j h
      ∙ ap₂ (λ (a b : ℕ). get_or (le16 a ++ le16 b) j 0) (sym r.n-is) (sym r.second)
      ∙ header_pairs bytes small j h)
      (λ k j h l.
      contents-set form (table form input n g) (many-groups form input n g) k j h l
      ∙ ap (λ (X : Set). number (member X) (8 * j) 8) (sets-table form input n g k h)
      ∙ number-set_in bytes w (header_bytes + w * k) fits small j l)
      i)
      (λ h.
      get_or_past (contents form (table form input n g)) i 0 (omega (arith, length-contents form (table form input n g) (many-groups form input n g)))
      ∙ sym (⊎_elim (r.filler i h) (λ l. get_or_past bytes i 0 (omega (arith, length-contents_of input))) (lt_or_ge i (content_bytes * (length input / block_bytes)))))
      (lt_or_ge i (content_length form n g))

  part-is : (k : ℕ) → k < length input / block_bytes → IsBlock site (contents form (table form input n g)) k (part input k)
  part-is k h =
      is_block site (contents form (table form input n g)) k (part input k) (length_part input k h) (part-bounded input k u) (r.number k h) (r.check k h)
      (λ i l. sym (get_or-contents_of input k i h l) ∙ sym (contents-table (content_bytes * k + i)))

  file-table : block_file form site (table form input n g) ≡ input
  unfolding block_file dialogue_in
  file-table =
      ap (λ (m : ℕ). concat m (block_of site (contents form (table form input n g)))) (ap (λ (l : ℕ). blocks_for l) (length-contents form (table form input n g) (many-groups form input n g)) ∙ sym r.blocks)
      ∙ concat_cong _ _ (length input / block_bytes) (λ k h. block_unique (block_of-is site (contents form (table form input n g)) k) (part-is k h))
      ∙ concat-part input r.whole

-- what is known of an input that read takes
pub record Taken (form : Form) (input : List ℕ) (n g : ℕ) : Type 0 where
  pub small : n ≤ max_states
  pub few : g ≤ max_groups
  pub draft : n ≡ 0 → g ≡ 0
  pub within : (k : ℕ) → k < heads form + g + n → beyond n (set_number (contents_of input) n k) ≡ false

pub taken : (form : Form) (input : List ℕ) (site room : ℕ) → refuse (read_grounds_as form input site room) ≡ 0 → Taken form input (states_in input) (groups_in form input)
unfolding set_number
taken form input site room e =
    let n = states_in input in
    ⊎_elim
    (λ none.
    let says = draft-says form input none in
    record {
      small = omega (arith, says.0);
      few = omega (arith, says.1);
      draft = λ z. says.1;
      within = λ k l. below_beyond n _ (λ s m. omega (arith, says.0, set_in_below (contents_of input) (set_width n) (header_bytes + set_width n * k) s m));
    })
    (λ r. record { small = r.small; few = r.few; draft = λ z. absurd (r.some z); within = r.within })
    (readable form input site room e).2

-- the store that read leaves
module _ (form : Form) (input store : List ℕ) (n g : ℕ) where
  abbrev pub filled : List ℕ
  filled = overwrite (layout (dialogue_in form (contents_of input) n g)) store

  pub filled_holds : Holds filled (dialogue_in form (contents_of input) n g)
  filled_holds = overwrite-holds (dialogue_in form (contents_of input) n g) (laid form input n g) store

  pub filled_held : store_words ≤ length store → Taken form input n g → Store filled n g
  unfolding dialogue_in
  filled_held fits t =
      let d = dialogue_in form (contents_of input) n g in
      let size = length-layout d (laid form input n g) in
      record {
        long = omega (arith, length-overwrite (layout d) store (omega arith));
        draft = t.draft;
        small = t.small;
        few = t.few;
        clean =
            clean_malformed filled n g
            (holds_clean filled d filled_holds (length-tabulate _ g) t.few t.small (t.within 0 (omega (arith, heads-least form))) (t.within 1 (omega (arith, heads-least form)))
            (by_resting form (contents_of input) n (λ (X : Set). beyond n X ≡ false) (λ l. t.within 2 (omega arith)) (λ l. below_beyond n empty (λ s h. absurd (empty_in h))))
            (λ j l. ap (beyond n) (get_or-tabulate (λ i. set_number (contents_of input) n (heads form + i)) g j empty l) ∙ t.within (heads form + j) (omega arith))
            (λ s l. ap (beyond n) (dialogue_in-row form (contents_of input) n g s l) ∙ t.within (heads form + g + s) (omega arith)));
      }

-- and, of the new form, its file
module _ (input store : List ℕ) (n g : ℕ) (small : n ≤ max_states) (few : g ≤ max_groups) where
  abbrev left : List ℕ
  left = filled new_form input store n g

  file_filled : (site : ℕ) → (n ≡ 0 → ⊥) → file_of new_form site (dialogue_of left n g) ≡ block_file new_form site (dialogue_in new_form (contents_of input) n g)
  unfolding dialogue_of dialogue_in block_file
  file_filled site some =
      let t = dialogue_in new_form (contents_of input) n g in
      file-blocks new_form site (dialogue_of left n g) some
      ∙ ap (λ bytes. concat (blocks_for (length bytes)) (block_of site bytes))
      (contents_cong new_form (dialogue_of left n g) t refl (length-tabulate _ g ∙ sym (length-tabulate _ g)) (holds-sets left t (filled_holds new_form input store n g) (length-tabulate _ g) few small))

  -- a store that write takes, and whose file is the input
  writes_back : (site : ℕ) (out : List ℕ) → site ≤ max_site → length input ≤ length out → Store left n g → file_length new_form n g ≡ length input → file_of new_form site (dialogue_of left n g) ≡ input
      → ReadWrite left n g site input out
  writes_back site out known h held size file =
      let w : Writable left n g site (length out) = record { held = held; known = known; fits = omega arith } in
      record {
        answer = write-answer left n g site (length out) w ∙ ap answered size;
        buffer = write-buffer left n g site out w ∙ ap (λ xs. overwrite xs out) file;
      }

module _ (input : List ℕ) (site : ℕ) (store out : List ℕ) (u : Bounded 256 input) (h : length input ≤ length out) (e : refuse (read_grounds input site (length store)) ≡ 0) where
  abbrev n : ℕ
  n = states_in input

  abbrev g : ℕ
  g = groups_in new_form input

  abbrev t : Taken new_form input n g
  t = taken new_form input site (length store) e

  held : Store (filled new_form input store n g) n g
  held = filled_held new_form input store n g (readable new_form input site (length store) e).0 t

  write-draft : site ≤ max_site → length input ≡ 0 → ReadWrite (filled new_form input store n g) n g site input out
  unfolding dialogue_of
  write-draft known none =
      let says = draft-says new_form input none in
      writes_back input store n g t.small t.few site out known h held (length-draft new_form n g says.0 ∙ sym none)
      (file-draft new_form site (dialogue_of (filled new_form input store n g) n g) says.0 ∙ sym (no_bytes input none))

  write-blocks : Readable new_form input site (length store) n g → ReadWrite (filled new_form input store n g) n g site input out
  write-blocks r =
      let size : block_file_length new_form n g ≡ length input = omega (arith, r.blocks, r.whole) in
      writes_back input store n g t.small t.few site out r.known h held (length-blocks new_form n g r.some ∙ size)
      (file_filled input store n g t.small t.few site r.some ∙ file-table new_form input site (length store) n g u r)

  read-write : ReadWrite (read_buffer input site store) n g site input out
  read-write =
      let r = readable new_form input site (length store) e in
      subst (λ (xs : List ℕ). ReadWrite xs n g site input out) (sym (read-buffer new_form input site store e)) (⊎_elim (write-draft r.1) write-blocks r.2)

-- ---- both

pub round_trips : RoundTrips
round_trips =
    record {
      write_read = λ store n g site out other l words h e.
          let w = written store n g site (length out) e in
          subst (λ (m : ℕ). WriteRead store n g site (take m (write_buffer store n g site out)) other) (sym w.1)
          (write_read store n g site out other words w.0 h);
      read-write = λ input site store out a u h e.
          let r = read_none new_form input site (length store) e in
          subst (λ (b : TableRead). ReadWrite (read_buffer input site store) b.n b.g site input out) (sym r.1)
          (read-write input site store out u h r.0);
    }

pub file_sizes : FileSizes
file_sizes =
    record {
      contents-long = λ form t. length-contents form t refl;
      file-long = λ form site t. length-file_of form site t refl;
      largest = file_length-most;
    }
