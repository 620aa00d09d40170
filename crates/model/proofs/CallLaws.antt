-- Read and write where no ground holds: the grounds as facts, what is returned, and what is left in the buffer.
--
--   Writable, writable                          no ground of write holds
--   write_over, write_behind                    a site over the greatest; else the grounds behind it
--   write-refused, written                      a ground holds; the facts from an answer
--   write-answer, write-buffer                  the answer and the output where nothing is refused
--   second_pass, second_passes                  ground 15 of a file: the test and the facts
--   Readable                                    no ground of read holds of a file with a block, and n and g are those of the input
--   blocks-numbered                             the grounds of the blocks have numbers
--   blocks_clear                                no ground of the blocks holds, if nothing is refused
--   clear_block, right_block                    no ground of a block holds exactly if its number and its check are right
--   read_over                                   a site over the greatest; behind_length: the grounds of a file behind 11
--   readable                                    where nothing is refused the input has no bytes or is readable
--   draft-refusal, readable_refusal             and back
--   read-refused, read_none                     a ground holds; what an answer says
--   read_answer_lem, read-buffer                    the answer and the store where nothing is refused
--   no_bytes, draft-says                        what an input of no bytes says
use Prim.Native.Nat.{ℕ, ◌+◌, ◌*◌, ◌-◌, ◌/◌, ◌%◌, ◌≤◌, ◌<◌}
use native.Mathlib.Omega.{arith}
use mathlib.Core.Path.{◌≡◌, refl, sym, ap, ap₂, ◌∙◌, subst}
use mathlib.Core.Logic.{◌⊎◌, inl, inr, ⊎_elim}
use mathlib.Core.Bool.{Bool, true, false, not, ◌||◌}
use mathlib.Core.List.{List, [], ◌∷◌, ◌++◌}
use borrow.Author.Tests.{ltb-false, lt-ltb, le-ltb, eqb-true, eqb-false, eq-eqb, ne_eqb, not-false}
use lib.Dec.{eqb, ltb}
use lib.ListN.{length, get_or}
use Rattle.model.specs.Sets.{max_states}
use Rattle.basics.specs.Bounds.{concat}
use Rattle.basics.specs.Refusals.{Ground, refuse, refused, answered, unless_refused}
use Rattle.model.specs.Stores.{max_groups, store_words, dialogue_of, layout, beyond, store_ground, shared_grounds}
use Rattle.model.specs.Blocks.{block_bytes, content_bytes, check_at, max_site, site_ground, le16_at, check_of, blocks_for, part, contents_of, block_grounds}
use Rattle.model.specs.Contents.{Form, new_form, heads, added, content_length, set_number, dialogue_in}
use Rattle.model.specs.Files.{file_of, file_length, max_file}
use Rattle.model.specs.Calls.{overwrite, TableRead, states_in, second_in, groups_in, bad_length, bad_second, blocks_grounds, content_grounds, file_grounds, read_grounds_as, read_answer_as, read_buffer_as, output_ground, write_grounds, write_answer, write_buffer}
use Rattle.basics.proofs.BoundLaws.{by_cond, decided, any_none, or_false, no_any}
use Rattle.basics.proofs.RefusalLaws.{refuse-first, Clear, refuse_behind, clear_refuse, numbered, refuse_clear, clear_append, clear_concat, concat_clear, numbered-append, numbered-concat, answer-refused, answer-none, answered_clear, answered_value}
use Rattle.model.proofs.StoresTables.{non_zero_zero, zero_non_zero}
use Rattle.model.proofs.StoresAccepted.{Store, accepted_store, store_accepted}

-- ---- write

pub record Writable (store : List ℕ) (n g site room : ℕ) : Type 0 where
  pub held : Store store n g
  pub known : site ≤ max_site
  pub fits : file_length new_form n g ≤ room

module _ (store : List ℕ) (n g site room : ℕ) where
  -- the grounds of write behind 10, and those behind 24
  module _ (long : store_words ≤ length store) where
    pub write_over : max_site < site → refuse (write_grounds store n g site room) ≡ 24
    unfolding write_grounds
    write_over h = sym (refuse-first 1 _ (le-ltb (length store) store_words long, lt-ltb max_site site h))

    pub write_behind : site ≤ max_site → refuse (write_grounds store n g site room) ≡ refuse (shared_grounds store n g ++ (output_ground n g room ∷ []))
    unfolding write_grounds
    write_behind h =
        let fits = le-ltb (length store) store_words long in
        refuse_behind (store_ground (length store) ∷ site_ground site ∷ []) _ (fits, (le-ltb max_site site h, tt))
        ∙ sym (refuse_behind (store_ground (length store) ∷ []) _ (fits, tt))

  pub write-refused : {k : ℕ} → refuse (write_grounds store n g site room) ≡ k → (k ≡ 0 → ⊥) → write_answer store n g site room ≡ refused k
  unfolding write_answer
  write-refused e = answer-refused (write_grounds store n g site room) _ (sym e)

  pub writable : refuse (write_grounds store n g site room) ≡ 0 → Writable store n g site room
  unfolding write_grounds
  writable e =
      let early = (refuse_clear (store_ground (length store) ∷ site_ground site ∷ []) _ refl e).0 in
      let long = ltb-false (length store) store_words early.0 in
      let known = ltb-false max_site site early.1.0 in
      let parts = accepted_store store n g (output_ground n g room ∷ []) (sym (write_behind long known) ∙ e) in
      record { held = parts.0; known = known; fits = ltb-false room (file_length new_form n g) (refuse_clear (output_ground n g room ∷ []) [] refl parts.1).0.0 }

  -- the same from an answer, whose length is that of the file
  pub written : {l : ℕ} → write_answer store n g site room ≡ answered l → Writable store n g site room × (l ≡ file_length new_form n g)
  unfolding write_answer
  written e =
      let grounds = write_grounds store n g site room in
      (writable (clear_refuse grounds (answered_clear grounds _ e)), answered_value grounds _ e)

  pub write-answer : Writable store n g site room → write_answer store n g site room ≡ answered (file_length new_form n g)
  unfolding write_answer write_grounds
  write-answer w =
      answer-none (write_grounds store n g site room) _ refl
      (write_behind w.held.long w.known
      ∙ store_accepted store n g (output_ground n g room ∷ []) w.held
      ∙ clear_refuse _ (le-ltb room (file_length new_form n g) w.fits, tt))

pub write-buffer : (store : List ℕ) (n g site : ℕ) (out : List ℕ) → Writable store n g site (length out) → write_buffer store n g site out ≡ overwrite (file_of new_form site (dialogue_of store n g)) out
unfolding write_buffer
write-buffer store n g site out w =
    ap (unless_refused out (λ (l : ℕ). overwrite (file_of new_form site (dialogue_of store n g)) out)) (write-answer store n g site (length out) w)

-- ---- read

pub record Readable (form : Form) (input : List ℕ) (site room n g : ℕ) : Type 0 where
  pub fits : store_words ≤ room
  pub known : site ≤ max_site
  pub present : length input ≡ 0 → ⊥
  pub whole : length input % block_bytes ≡ 0
  pub short : length input ≤ max_file
  pub number : (k : ℕ) → k < length input / block_bytes → le16_at (part input k) 0 ≡ k
  pub check : (k : ℕ) → k < length input / block_bytes → le16_at (part input k) check_at ≡ check_of site (part input k)
  pub n-is : states_in input ≡ n
  pub g-is : groups_in form input ≡ g
  pub second : second_in input ≡ added form + g
  pub some : n ≡ 0 → ⊥
  pub small : n ≤ max_states
  pub few : g ≤ max_groups
  pub blocks : length input / block_bytes ≡ blocks_for (content_length form n g)
  pub within : (k : ℕ) → k < heads form + g + n → beyond n (set_number (contents_of input) n k) ≡ false
  pub filler : (i : ℕ) → content_length form n g ≤ i → i < content_bytes * (length input / block_bytes) → get_or (contents_of input) i 0 ≡ 0

-- ground 15: the second number is g with what the form adds
module _ (form : Form) (second : ℕ) where
  pub second_pass : (g : ℕ) → second ≡ added form + g → g ≤ max_groups → bad_second form second ≡ false
  unfolding bad_second
  second_pass g e h = ap₂ (λ (x y : Bool). x || y) (le-ltb second _ (omega arith)) (le-ltb _ second (omega arith))

  pub second_passes : bad_second form second ≡ false → (second ≡ added form + (second - added form)) × (second - added form ≤ max_groups)
  unfolding bad_second
  second_passes e =
      let bounds = or_false (ltb second (added form)) (ltb (added form + max_groups) second) e in
      let least = ltb-false second (added form) bounds.0 in
      let most = ltb-false (added form + max_groups) second bounds.1 in
      (omega arith, omega arith)

module _ (site : ℕ) (block : List ℕ) (k : ℕ) where
  pub clear_block : Clear (block_grounds site block k) → (le16_at block 0 ≡ k) × (le16_at block check_at ≡ check_of site block)
  unfolding block_grounds
  clear_block c = (eqb-true (le16_at block 0) k (not-false _ c.0), eqb-true (le16_at block check_at) (check_of site block) (not-false _ c.1.0))

  pub right_block : le16_at block 0 ≡ k → le16_at block check_at ≡ check_of site block → Clear (block_grounds site block k)
  unfolding block_grounds
  right_block p q = (ap not (eq-eqb (le16_at block 0) k p), (ap not (eq-eqb (le16_at block check_at) (check_of site block) q), tt))

pub blocks-numbered : (input : List ℕ) (site : ℕ) → numbered (blocks_grounds input site) ≡ true
unfolding blocks_grounds block_grounds
blocks-numbered input site = numbered-concat (λ k. block_grounds site (part input k) k) (λ k. refl) (length input / block_bytes)

pub blocks_clear : (input : List ℕ) (site : ℕ) (later : List Ground) → refuse (blocks_grounds input site ++ later) ≡ 0 → Clear (blocks_grounds input site) × (refuse later ≡ 0)
blocks_clear input site later = refuse_clear (blocks_grounds input site) later (blocks-numbered input site)

module _ (form : Form) (input : List ℕ) (site room : ℕ) where
  pub read-refused : {k : ℕ} → refuse (read_grounds_as form input site room) ≡ k → (k ≡ 0 → ⊥) → read_answer_as form input site room ≡ refused k
  unfolding read_answer_as
  read-refused e = answer-refused (read_grounds_as form input site room) _ (sym e)

  pub read-numbered : numbered (read_grounds_as form input site room) ≡ true
  unfolding read_grounds_as file_grounds content_grounds
  read-numbered =
      by_cond (λ gs. numbered gs ≡ true) (eqb (length input) 0) [] (file_grounds form input site) (λ q. refl)
      (λ q. numbered-append (blocks_grounds input site) (content_grounds form input (states_in input) (second_in input)) (blocks-numbered input site) refl)

  pub read_over : store_words ≤ room → max_site < site → refuse (read_grounds_as form input site room) ≡ 24
  unfolding read_grounds_as
  read_over fits h = sym (refuse-first 1 _ (le-ltb room store_words fits, lt-ltb max_site site h))

  -- a file with any block: the grounds behind 24, and those behind 11
  module _ (fits : store_words ≤ room) (known : site ≤ max_site) (present : length input ≡ 0 → ⊥) where
    behind_site : refuse (read_grounds_as form input site room) ≡ refuse (file_grounds form input site)
    unfolding read_grounds_as
    behind_site =
        refuse_behind (store_ground room ∷ site_ground site ∷ []) _ (le-ltb room store_words fits, (le-ltb max_site site known, tt)) ∙ rw (ne_eqb (length input) 0 present)

    pub behind_length : bad_length input ≡ false
        → refuse (read_grounds_as form input site room) ≡ refuse (blocks_grounds input site ++ content_grounds form input (states_in input) (second_in input))
    unfolding file_grounds
    behind_length whole = behind_site ∙ refuse_behind ((bad_length input, 11) ∷ []) _ (whole, tt)

  file_readable : store_words ≤ room → site ≤ max_site → (length input ≡ 0 → ⊥) → refuse (file_grounds form input site) ≡ 0 → Readable form input site room (states_in input) (groups_in form input)
  unfolding file_grounds bad_length blocks_grounds content_grounds
  file_readable fits known present e =
      let bytes = contents_of input in
      let n = states_in input in
      let g = groups_in form input in
      let m = length input / block_bytes in
      let early = refuse_clear ((bad_length input, 11) ∷ []) _ refl e in
      let blocks = blocks_clear input site (content_grounds form input n (second_in input)) early.1 in
      let late = (refuse_clear (content_grounds form input n (second_in input)) [] refl blocks.1).0 in
      let size = or_false (not (eqb (length input % block_bytes) 0)) (ltb max_file (length input)) early.0.0 in
      let states = or_false (eqb n 0) (ltb max_states n) late.0 in
      let second = second_passes form (second_in input) late.1.0 in
      let right : (k : ℕ) → k < m → (le16_at (part input k) 0 ≡ k) × (le16_at (part input k) check_at ≡ check_of site (part input k)) =
      λ k h. clear_block site (part input k) k (concat_clear (λ j. block_grounds site (part input j) j) m blocks.0 k h) in
      record {
        fits = fits;
        known = known;
        present = present;
        whole = eqb-true (length input % block_bytes) 0 (not-false _ size.0);
        short = ltb-false max_file (length input) size.1;
        number = λ k h. (right k h).0;
        check = λ k h. (right k h).1;
        n-is = refl;
        g-is = refl;
        second = second.0;
        some = eqb-false n 0 states.0;
        small = ltb-false max_states n states.1;
        few = second.1;
        blocks = eqb-true m _ (not-false _ late.1.1.0);
        within = any_none (λ k. beyond n (set_number bytes n k)) (heads form + g + n) late.1.1.1.0;
        filler = non_zero_zero bytes (content_length form n g) (content_bytes * m) late.1.1.1.1.0;
      }

  pub readable : refuse (read_grounds_as form input site room) ≡ 0 → (store_words ≤ room) × (site ≤ max_site) × ((length input ≡ 0) ⊎ Readable form input site room (states_in input) (groups_in form input))
  unfolding read_grounds_as
  readable e =
      let first = refuse_clear (store_ground room ∷ site_ground site ∷ []) _ refl e in
      let fits = ltb-false room store_words first.0.0 in
      let known = ltb-false max_site site first.0.1.0 in (
        fits,
        known,
        ⊎_elim (λ (q : eqb (length input) 0 ≡ true). inl (eqb-true (length input) 0 q))
            (λ (q : eqb (length input) 0 ≡ false). inr (file_readable fits known (eqb-false (length input) 0 q) (rw q at first.1)))
            (decided (eqb (length input) 0)),
      )

  pub draft-refusal : store_words ≤ room → site ≤ max_site → length input ≡ 0 → refuse (read_grounds_as form input site room) ≡ 0
  unfolding read_grounds_as
  draft-refusal h known e = clear_refuse (read_grounds_as form input site room) (le-ltb room store_words h, (le-ltb max_site site known, rw (eq-eqb (length input) 0 e) tt))

  pub readable_refusal : (n g : ℕ) → Readable form input site room n g → refuse (read_grounds_as form input site room) ≡ 0
  unfolding read_grounds_as file_grounds bad_length blocks_grounds content_grounds
  readable_refusal n g says =
      let r : Readable form input site room (states_in input) (groups_in form input) =
      subst (λ (b : ℕ). Readable form input site room (states_in input) b) (sym says.g-is) (subst (λ (a : ℕ). Readable form input site room a g) (sym says.n-is) says) in
      let bytes = contents_of input in
      let m = length input / block_bytes in
      clear_refuse (read_grounds_as form input site room) (
        le-ltb room store_words r.fits,
        (
          le-ltb max_site site r.known,
          rw (ne_eqb (length input) 0 r.present) (
            rw (eq-eqb (length input % block_bytes) 0 r.whole) (le-ltb max_file (length input) r.short),
            clear_append (blocks_grounds input site) (content_grounds form input (states_in input) (second_in input))
                (clear_concat (λ j. block_grounds site (part input j) j) m (λ k h. right_block site (part input k) k (r.number k h) (r.check k h))) (
                  rw (ne_eqb (states_in input) 0 r.some) (le-ltb max_states (states_in input) r.small),
                  (
                    second_pass form (second_in input) (groups_in form input) r.second r.few,
                    (
                      ap not (eq-eqb m (blocks_for (content_length form (states_in input) (groups_in form input))) r.blocks),
                      (
                        no_any (λ k. beyond (states_in input) (set_number bytes (states_in input) k)) (heads form + groups_in form input + states_in input) r.within,
                        (zero_non_zero bytes (content_length form (states_in input) (groups_in form input)) (content_bytes * m) r.filler, tt),
                      ),
                    ),
                  ),
                ),
          ),
        ),
      )

  pub read_answer_lem : refuse (read_grounds_as form input site room) ≡ 0
      → read_answer_as form input site room ≡ answered (record { n = states_in input; g = groups_in form input })
  unfolding read_answer_as
  read_answer_lem e = answer-none (read_grounds_as form input site room) _ read-numbered e

  -- and from an answer: nothing is refused, and n and g are those of the input
  pub read_none : {a : TableRead} → read_answer_as form input site room ≡ answered a
      → (refuse (read_grounds_as form input site room) ≡ 0) × (a ≡ record { n = states_in input; g = groups_in form input })
  unfolding read_answer_as
  read_none e =
      let grounds = read_grounds_as form input site room in
      (clear_refuse grounds (answered_clear grounds _ e), answered_value grounds _ e)

pub read-buffer : (form : Form) (input : List ℕ) (site : ℕ) (store : List ℕ) → refuse (read_grounds_as form input site (length store)) ≡ 0
    → read_buffer_as form input site store ≡ overwrite (layout (dialogue_in form (contents_of input) (states_in input) (groups_in form input))) store
unfolding read_buffer_as
read-buffer form input site store e =
    ap (unless_refused store (λ (a : TableRead). overwrite (layout (dialogue_in form (contents_of input) a.n a.g)) store))
    (read_answer_lem form input site (length store) e)

-- ---- an input of no bytes

pub no_bytes : (input : List ℕ) → length input ≡ 0 → input ≡ []
no_bytes [] e = refl
no_bytes (x ∷ xs) e = absurd (omega arith)

pub draft-says : (form : Form) (input : List ℕ) → length input ≡ 0 → (states_in input ≡ 0) × (groups_in form input ≡ 0)
unfolding contents_of concat
draft-says form input e =
    let none = no_bytes input e in
    let second : second_in input ≡ 0 = ap (λ (xs : List ℕ). second_in xs) none in
    (ap (λ (xs : List ℕ). states_in xs) none, omega arith)
