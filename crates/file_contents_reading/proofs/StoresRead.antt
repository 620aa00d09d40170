-- A store that is filled with the sets of a table, part by part.
--
--   part-set, part_unused       a turn of a loop that fills a part of the store: a set of the contents, or an unused one
--   filled                      the three parts filled in turn: then the store holds the table
use Prim.Native.Nat.{ℕ, ◌+◌, ◌*◌, ◌≤◌, ◌<◌}
use native.Mathlib.Omega.{arith}
use mathlib.Core.Path.{◌≡◌, refl, sym, ap, ap₂, ◌∙◌}
use mathlib.Core.Bool.{Bool, true, false, cond}
use mathlib.Core.List.{List, ◌++◌, append_assoc}
use borrow.Author.Tests.{ltb-true, ltb-false, lt-ltb, le-ltb}
use lib.Dec.{ltb}
use lib.ListN.{length, get_or, length-append}
use Rattle.basics.specs.Bounds.{tabulate, concat}
use Rattle.model.specs.Sets.{WORDS, max_states, Set, empty, first_states, meet}
use Rattle.model.specs.Stores.{head_sets, max_groups, group_at, row_at, layout}
use Rattle.model.specs.Calls.{overwrite}
use Rattle.model.specs.Contents.{Form, old_form, new_form, heads, set_width, header_bytes, set_in, set_number, dialogue_in}
use Rattle.basics.proofs.BoundLaws.{by_cond, length-tabulate, get_or-tabulate}
use Rattle.model.proofs.ListsInParts.{length-concat, concat_cong, get_or_past}
use Rattle.model.proofs.SetsMembers.{set_of_proper}
use Rattle.model.proofs.SetsBytes.{set_in_proper}
use Rattle.core_table.specs.Writing.{overwrite_from}
use Rattle.core_table.proofs.ListsOverwritten.{Over, lent, back, lent_back, overwrite_lent, parts_put}
use Rattle.core_table.proofs.StoresPut.{put_long}
use Rattle.file_contents_reading.specs.Parts.{part_set}
use Rattle.file_contents_reading.proofs.ContentsWords.{set_cut}

-- ---- the sets of a part

module _ (bytes : List ℕ) (n first count : ℕ) where
  part_wide : (k : ℕ) → length (part_set bytes n first count k) ≡ WORDS
  unfolding part_set set_number empty
  part_wide k = by_cond (λ (X : Set). length X ≡ WORDS) (ltb k count) _ _ (λ q. (set_in_proper bytes _ _).long) (λ q. (set_of_proper _).long)

  module _ (k : ℕ) {old out next : List ℕ} (so : Over (concat k (part_set bytes n first count)) old out) (room : WORDS * k + WORDS ≤ length out) where
    put_next : next ≡ overwrite_from (WORDS * k) (part_set bytes n first count k) out → Over (concat (k + 1) (part_set bytes n first count)) old next
    put_next e = parts_put _ old (λ j l. part_wide j) so e (ap length e ∙ put_long (WORDS * k) _ out (omega (arith, part_wide k)))

    -- from the bytes of the contents, where its words were lent
    pub part-set : {width : ℕ} {own : Set} {rest : List ℕ} → k < count → width ≡ set_width n → own ≡ first_states (8 * width)
        → rest ≡ overwrite (meet (set_in bytes (8 * WORDS) (header_bytes + width * (first + k))) own) (lent (WORDS * k) out)
        → next ≡ back (WORDS * k) out rest → Over (concat (k + 1) (part_set bytes n first count)) old next
    unfolding part_set set_number
    part-set {width} {own} {rest} h e a f is =
        let at = header_bytes + width * (first + k) in
        put_next
        (is
        ∙ lent_back (WORDS * k) out rest _ f
        ∙ ap (λ X. overwrite_from (WORDS * k) X out)
        (ap (meet (set_in bytes (8 * WORDS) at)) a
        ∙ set_cut bytes width at
        ∙ ap (λ (w : ℕ). set_in bytes w (header_bytes + w * (first + k))) e
        ∙ sym (rw (lt-ltb k count h))))

    pub part_unused : {X : Set} → count ≤ k → X ≡ empty → next ≡ overwrite_from (WORDS * k) X out → Over (concat (k + 1) (part_set bytes n first count)) old next
    unfolding part_set
    part_unused h e is = put_next (is ∙ ap (λ Y. overwrite_from (WORDS * k) Y out) (e ∙ sym (rw (le-ltb k count h))))

  part-long : (room : ℕ) → length (concat room (part_set bytes n first count)) ≡ WORDS * room
  part-long room = length-concat _ WORDS room (λ k l. part_wide k)

-- ---- the three parts

module _ (form : Form) (bytes : List ℕ) (n g : ℕ) where
  abbrev head_part : List ℕ
  head_part = concat head_sets (part_set bytes n 0 (heads form))

  abbrev group_part : List ℕ
  group_part = concat max_groups (part_set bytes n (heads form) g)

  abbrev row_part : List ℕ
  row_part = concat max_states (part_set bytes n (heads form + g) n)

  groups_are : (j : ℕ) → part_set bytes n (heads form) g j ≡ get_or (tabulate g (λ i. set_number bytes n (heads form + i))) j empty
  unfolding part_set
  groups_are j =
      let group : ℕ → Set = λ i. set_number bytes n (heads form + i) in
      by_cond (λ X. X ≡ get_or (tabulate g group) j empty) (ltb j g) (group j) empty
      (λ q. sym (get_or-tabulate group g j empty (ltb-true j g q)))
      (λ q. sym (get_or_past (tabulate g group) j empty (omega (arith, length-tabulate group g, ltb-false j g q))))

  rows_are : (s : ℕ) → part_set bytes n (heads form + g) n s ≡ cond (ltb s n) (cond (ltb s n) (set_number bytes n (heads form + g + s)) empty) empty
  unfolding part_set
  rows_are s = twice (ltb s n) (set_number bytes n (heads form + g + s))
    where
      twice : (b : Bool) (X : Set) → cond b X empty ≡ cond b (cond b X empty) empty
      twice true X = refl
      twice false X = refl

heads_are : (form : Form) (bytes : List ℕ) (n g : ℕ) (rest : List ℕ) → let d = dialogue_in form bytes n g in
    head_part form bytes n g ++ rest ≡ d.initial ++ (d.marked ++ (d.resting ++ rest))
unfolding concat part_set dialogue_in
heads_are old_form bytes n g rest = simp append_assoc
heads_are new_form bytes n g rest = simp append_assoc

layout_is : (form : Form) (bytes : List ℕ) (n g : ℕ) → (head_part form bytes n g ++ group_part form bytes n g) ++ row_part form bytes n g ≡ layout (dialogue_in form bytes n g)
unfolding layout dialogue_in
layout_is form bytes n g =
    append_assoc (head_part form bytes n g) (group_part form bytes n g) (row_part form bytes n g)
    ∙ heads_are form bytes n g _
    ∙ ap₂ (λ xs ys. set_number bytes n 0 ++ (set_number bytes n 1 ++ ((dialogue_in form bytes n g).resting ++ (xs ++ ys))))
    (concat_cong _ _ max_groups (λ j h. groups_are form bytes n g j)) (concat_cong _ _ max_states (λ s h. rows_are form bytes n g s))

-- each part lent and filled in turn
pub filled : (form : Form) {h : ℕ} → h ≡ heads form → (bytes : List ℕ) (n g : ℕ) (old : List ℕ) {out groups rows : List ℕ}
    → out ≡ overwrite (concat head_sets (part_set bytes n 0 h)) old
    → groups ≡ overwrite (concat max_groups (part_set bytes n h g)) (lent (group_at 0) out)
    → rows ≡ overwrite (concat max_states (part_set bytes n (h + g) n)) (lent (row_at 0) (back (group_at 0) out groups))
    → back (row_at 0) (back (group_at 0) out groups) rows ≡ overwrite (layout (dialogue_in form bytes n g)) old
filled form {h} e bytes n g old {out} {groups} {rows} f i j =
    let heads-long = part-long bytes n 0 h head_sets in
    let groups-long = part-long bytes n h g max_groups in
    overwrite_lent _ _ old (back (group_at 0) out groups) rows (row_at 0) (length-append (concat head_sets (part_set bytes n 0 h)) _ ∙ omega (arith, heads-long, groups-long))
    (overwrite_lent _ _ old out groups (group_at 0) heads-long f i) j
    ∙ ap (λ (m : ℕ). overwrite ((concat head_sets (part_set bytes n 0 m) ++ concat max_groups (part_set bytes n m g)) ++ concat max_states (part_set bytes n (m + g) n)) old) e
    ∙ ap (λ xs. overwrite xs old) (layout_is form bytes n g)
