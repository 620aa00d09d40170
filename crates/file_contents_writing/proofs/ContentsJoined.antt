-- The contents of a table joined.
--
--   set-place                            set k of the file stands at its place in the store
--   sets_more, sets-all, set_room        a loop that joins the sets from their places; each has room behind those before it
--   contents-written                     the contents written: the header, then the sets from their places
use Prim.Native.Nat.{ℕ, ◌+◌, ◌*◌, ◌-◌, ◌≤◌, ◌<◌}
use native.Mathlib.Nat.{mul-le-mul_left, mul-suc}
use native.Mathlib.Omega.{arith}
use mathlib.Core.Path.{◌≡◌, refl, sym, ap, ap₂, ◌∙◌}
use mathlib.Core.List.{List, [], ◌++◌}
use lib.ListN.{length, get_or, take, drop}
use Rattle.model.specs.Sets.{WORDS, Set}
use Rattle.basics.specs.Bounds.{concat}
use Rattle.model.specs.Stores.{head_sets, marked_at, resting_at, set_at, dialogue_of}
use Rattle.model.specs.Blocks.{le16}
use Rattle.model.specs.Contents.{new_form, added, set_width, set_bytes, sets, contents}
use Rattle.model.specs.Calls.{overwrite}
use Rattle.basics.proofs.BoundLaws.{length-tabulate, get_or-tabulate}
use Rattle.model.proofs.ListsInParts.{concat_cong}
use Rattle.model.proofs.SetsBytes.{length-set_bytes}
use Rattle.model.proofs.ContentLaws.{heads-each, length-sets, sets-each}
use Rattle.model.proofs.StoresTables.{dialogue_of-row}
use Rattle.file_contents_writing.specs.Placed.{place_of, placed_set}
use Rattle.file_contents_writing.proofs.StoresPlaces.{head_place, group_place, row-place}
use Rattle.core_table.proofs.ListsOverwritten.{Over, lent, back, parts_more, parts_all}

-- ---- set k of the file, in the store

set-place : (store : List ℕ) (n g k : ℕ) → k < head_sets + g + n → get_or (sets new_form (dialogue_of store n g)) k [] ≡ set_at store (place_of g k)
unfolding dialogue_of
set-place store n g =
    let At : ℕ → Set → Type 0 = λ k X. X ≡ set_at store (place_of g k) in
    let head : (k p : ℕ) → k < head_sets → WORDS * k ≡ p → At k (set_at store p) = λ k p h e. ap (set_at store) (head_place g k h (sym e)) in
    sets-each new_form (dialogue_of store n g) (length-tabulate _ g) At
    (heads-each new_form (dialogue_of store n g) At (head 0 0 (omega arith) refl) (head 1 marked_at (omega arith) refl) (λ l. head 2 resting_at (omega arith) refl))
    (λ j h. get_or-tabulate _ g j [] h ∙ ap (set_at store) (group_place g (head_sets + j) (omega arith) (omega arith) (omega arith)))
    (λ s h. dialogue_of-row store n g s h ∙ ap (set_at store) (row-place g (head_sets + g + s) (omega arith) (omega arith)))

-- ---- the contents

-- one set more, from the part of the store that is lent for it
pub sets_more : (store : List ℕ) (w g : ℕ) (old out rest : List ℕ) (k : ℕ) {a : ℕ} → a ≡ place_of g k → Over (concat k (placed_set store w g)) old out
    → rest ≡ overwrite (set_bytes w (take (a + WORDS - a) (drop a store))) (lent (w * k) out)
    → length (back (w * k) out rest) ≡ length out → Over (concat (k + 1) (placed_set store w g)) old (back (w * k) out rest)
unfolding placed_set set_at
sets_more store w g old out rest k {a} p so e =
    let words : a + WORDS - a ≡ WORDS = omega arith in
    parts_more (placed_set store w g) old (λ j h. length-set_bytes w (set_at store (place_of g j))) so rest
    (e ∙ ap₂ (λ (m i : ℕ). overwrite (set_bytes w (take m (drop i store))) (lent (w * k) out)) words p)

pub sets-all : (store : List ℕ) (n g : ℕ) {w : ℕ} (old out : List ℕ) (k m : ℕ) → w ≡ set_width n → k ≤ m → m ≤ k → Over (concat k (placed_set store w g)) old out
    → out ≡ overwrite (concat m (placed_set store (set_width n) g)) old
sets-all store n g {w} old out k m e l h so = parts_all (placed_set store w g) old out k m l h so ∙ ap (λ (v : ℕ). overwrite (concat m (placed_set store v g)) old) e

-- set k of m sets has room for its w bytes
pub set_room : (n m k : ℕ) {w l : ℕ} → w ≡ set_width n → set_width n * m ≤ l → k < m → w * k + w ≤ l
set_room n m k {w} {l} e h b = omega (arith, mul-le-mul_left w b, mul-suc w k, ap (λ (v : ℕ). v * m) e)

contents-is : (store : List ℕ) (n g : ℕ) {second : ℕ} → second ≡ added new_form + g
    → le16 n ++ (le16 second ++ concat (head_sets + g + n) (placed_set store (set_width n) g)) ≡ contents new_form (dialogue_of store n g)
unfolding contents dialogue_of placed_set
contents-is store n g e =
    let t = dialogue_of store n g in
    let many = length-tabulate _ g in
    sym
    (ap₂ (λ (m : ℕ) (xs : List ℕ). le16 n ++ (le16 (added new_form + m) ++ xs)) many
    (ap (λ (m : ℕ). concat m (λ k. set_bytes (set_width n) (get_or (sets new_form t) k []))) (length-sets new_form t many)
    ∙ concat_cong _ (placed_set store (set_width n) g) (head_sets + g + n) (λ k h. ap (set_bytes (set_width n)) (set-place store n g k h)))
    ∙ ap (λ (x : ℕ). le16 n ++ (le16 x ++ concat (head_sets + g + n) (placed_set store (set_width n) g))) (sym e))

pub contents-written : (store : List ℕ) (n g : ℕ) {more : ℕ} (old : List ℕ) → more ≡ added new_form
    → overwrite ((le16 n ++ le16 (more + g)) ++ concat (head_sets + g + n) (placed_set store (set_width n) g)) old ≡ overwrite (contents new_form (dialogue_of store n g)) old
contents-written store n g old e = ap (λ xs. overwrite xs old) (contents-is store n g (ap (λ (x : ℕ). x + g) e))
