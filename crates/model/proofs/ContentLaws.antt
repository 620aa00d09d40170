-- Laws of contents: the bytes of a table, and what is read back from them. Bytes are read with 0 past the end, so
-- that filler is no special case.
--
--   heads-least, heads-most, added-most       how many sets stand before the groups, and what is added to g
--   length-heads, heads-each                  those sets: how many, and a fact about each
--   by_resting                                the resting states that contents hold: the third set of the new form
--   length-sets, sets_group, sets-row         the sets of a dialogue: those, the groups, the rows; sets-each: a fact about each
--   length-contents                           the contents: their length
--   contents-header, contents-set             their bytes: n and the second number, then byte j of set k
--   contents_cong                             they are of n, g and the sets alone
--   header_pairs                              the two numbers read from a header make it again
--   by_content                                a place in contents, by cases
--   dialogue_in-row                               a state of the table has its row in the contents
use Prim.Native.Nat.{ℕ, zero, suc, ◌+◌, ◌*◌, ◌-◌, ◌/◌, ◌%◌, ◌≤◌, ◌<◌}
use native.Mathlib.Nat.{add_assoc, div-add-mod}
use native.Mathlib.Omega.{arith}
use mathlib.Core.Path.{◌≡◌, refl, sym, ap, ◌∙◌, subst}
use mathlib.Core.Logic.{⊎_elim}
use mathlib.Core.List.{List, [], ◌++◌}
use borrow.Author.Tests.{lt-ltb}
use lib.ListN.{length, get_or, length-append, get_or-append}
use lib.Seq.{get_or-append-add}
use Rattle.basics.specs.Bounds.{tabulate, concat}
use Rattle.model.specs.Sets.{Set, member, number, empty}
use Rattle.model.specs.Tables.{Dialogue}
use Rattle.model.specs.Stores.{head_sets, max_groups}
use Rattle.model.specs.Blocks.{le16, le16_at}
use Rattle.model.specs.Contents.{Form, old_form, new_form, heads, added, set_width, set_bytes, heads_of, sets, header_bytes, contents, content_length, set_number, resting_in, dialogue_in}
use Rattle.model.specs.RoundTrip.{Bounded}
use Rattle.basics.proofs.BoundLaws.{lt_or_ge, length-tabulate, get_or-tabulate}
use Rattle.model.proofs.ListsInParts.{div_below, mod_below, Wide, length-concat, get_or-concat}
use Rattle.model.proofs.BlockLaws.{le16-le16_at}
use Rattle.model.proofs.SetsBytes.{length-set_bytes, get_or-set_bytes}

-- ---- the forms

pub heads-most : (form : Form) → heads form ≤ head_sets
heads-most old_form = omega arith
heads-most new_form = omega arith

pub heads-least : (form : Form) → 2 ≤ heads form
heads-least old_form = omega arith
heads-least new_form = omega arith

pub added-most : (form : Form) → added form + max_groups < 65536
added-most old_form = omega arith
added-most new_form = omega arith

pub length-heads : (form : Form) (t : Dialogue) → length (heads_of form t) ≡ heads form
length-heads old_form t = refl
length-heads new_form t = refl

pub heads-each : (form : Form) (t : Dialogue) (P : ℕ → Set → Type 0) → P 0 t.initial → P 1 t.marked → (2 < heads form → P 2 t.resting)
    → (k : ℕ) → k < heads form → P k (get_or (heads_of form t) k [])
heads-each old_form t P i m r zero h = i
heads-each old_form t P i m r (suc zero) h = m
heads-each old_form t P i m r (suc (suc k)) h = absurd (omega arith)
heads-each new_form t P i m r zero h = i
heads-each new_form t P i m r (suc zero) h = m
heads-each new_form t P i m r (suc (suc zero)) h = r h
heads-each new_form t P i m r (suc (suc (suc k))) h = absurd (omega arith)

pub by_resting : (form : Form) (bytes : List ℕ) (n : ℕ) (P : Set → Type 0) → (2 < heads form → P (set_number bytes n 2)) → (heads form ≤ 2 → P empty) → P (resting_in form bytes n)
by_resting old_form bytes n P some none = none (omega arith)
by_resting new_form bytes n P some none = some (omega arith)

-- ---- the sets and the contents of a dialogue with g groups

module _ (form : Form) (t : Dialogue) {g : ℕ} (many : length t.groups ≡ g) where
  -- what stands behind the sets in front
  abbrev behind : List Set
  behind = t.groups ++ tabulate t.n t.row

  pub length-sets : length (sets form t) ≡ heads form + g + t.n
  unfolding sets
  length-sets = grind (arith, many, length-append, length-heads form t, length-tabulate t.row t.n)

  sets_behind : (j : ℕ) → get_or (sets form t) (heads form + j) [] ≡ get_or behind j []
  unfolding sets
  sets_behind j = ap (λ (m : ℕ). get_or (sets form t) (m + j) []) (sym (length-heads form t)) ∙ get_or-append-add (heads_of form t) behind j []

  pub sets_group : (j : ℕ) → j < g → get_or (sets form t) (heads form + j) [] ≡ get_or t.groups j []
  sets_group j h = sets_behind j ∙ get_or-append t.groups (tabulate t.n t.row) [] j (subst (λ (m : ℕ). j < m) (sym many) h)

  pub sets-row : (s : ℕ) → s < t.n → get_or (sets form t) (heads form + g + s) [] ≡ t.row s
  sets-row s h =
      let place : heads form + g + s ≡ heads form + (length t.groups + s) = omega arith in
      ap (λ (i : ℕ). get_or (sets form t) i []) place
      ∙ sets_behind (length t.groups + s)
      ∙ get_or-append-add t.groups (tabulate t.n t.row) s []
      ∙ get_or-tabulate t.row t.n s [] h

  pub sets-each : (P : ℕ → Set → Type 0)
      → ((k : ℕ) → k < heads form → P k (get_or (heads_of form t) k []))
      → ((j : ℕ) → j < g → P (heads form + j) (get_or t.groups j []))
      → ((s : ℕ) → s < t.n → P (heads form + g + s) (t.row s))
      → (k : ℕ) → k < heads form + g + t.n → P k (get_or (sets form t) k [])
  unfolding sets
  sets-each P hs gs rs k h =
      ⊎_elim
      (λ (l : k < heads form). subst (P k) (sym (get_or-append (heads_of form t) behind [] k (subst (λ (m : ℕ). k < m) (sym (length-heads form t)) l))) (hs k l))
      (λ (front : heads form ≤ k).
      ⊎_elim
      (λ (l : k < heads form + g).
      let j = k - heads form in
      let place : heads form + j ≡ k = omega arith in
      let few : j < g = omega arith in
      subst (λ (i : ℕ). P i (get_or (sets form t) i [])) place (subst (P (heads form + j)) (sym (sets_group j few)) (gs j few)))
      (λ (l : heads form + g ≤ k).
      let s = k - (heads form + g) in
      let place : heads form + g + s ≡ k = omega arith in
      let few : s < t.n = omega arith in
      subst (λ (i : ℕ). P i (get_or (sets form t) i [])) place (subst (P (heads form + g + s)) (sym (sets-row s few)) (rs s few)))
      (lt_or_ge k (heads form + g)))
      (lt_or_ge k (heads form))

  -- what stands behind the header
  sets_joined : List ℕ
  sets_joined = concat (length (sets form t)) (λ k. set_bytes (set_width t.n) (get_or (sets form t) k []))

  sets_wide : Wide (length (sets form t)) (set_width t.n) (λ k. set_bytes (set_width t.n) (get_or (sets form t) k []))
  sets_wide k h = length-set_bytes (set_width t.n) (get_or (sets form t) k [])

  pub length-contents : length (contents form t) ≡ content_length form t.n g
  unfolding contents sets_joined
  length-contents =
      let joined : length sets_joined ≡ set_width t.n * (heads form + g + t.n) =
      length-concat _ (set_width t.n) (length (sets form t)) sets_wide ∙ ap (λ (m : ℕ). set_width t.n * m) length-sets in
      omega arith

  pub contents-header : (i : ℕ) → i < header_bytes → get_or (contents form t) i 0 ≡ get_or (le16 t.n ++ le16 (added form + g)) i 0
  unfolding contents sets_joined
  contents-header i h =
      get_or-append (le16 t.n ++ le16 (added form + length t.groups)) sets_joined 0 i h
      ∙ ap (λ (m : ℕ). get_or (le16 t.n ++ le16 (added form + m)) i 0) many

  pub contents-set : (k j : ℕ) → k < heads form + g + t.n → j < set_width t.n
      → get_or (contents form t) (header_bytes + set_width t.n * k + j) 0 ≡ number (member (get_or (sets form t) k [])) (8 * j) 8
  unfolding contents sets_joined
  contents-set k j h l =
      ap (λ (i : ℕ). get_or (contents form t) i 0) (add_assoc header_bytes (set_width t.n * k) j)
      ∙ get_or-append-add (le16 t.n ++ le16 (added form + length t.groups)) sets_joined (set_width t.n * k + j) 0
      ∙ get_or-concat _ (set_width t.n) (length (sets form t)) k j 0 sets_wide (subst (λ (m : ℕ). k < m) (sym length-sets) h) l
      ∙ get_or-set_bytes (set_width t.n) (get_or (sets form t) k []) j l

-- the contents are of n, g and the sets alone
pub contents_cong : (form : Form) (t u : Dialogue) → t.n ≡ u.n → length t.groups ≡ length u.groups → sets form t ≡ sets form u
    → contents form t ≡ contents form u
unfolding contents
contents_cong form t u n g xs =
    λ i. le16 (n i) ++ (le16 (added form + g i) ++ concat (length (xs i)) (λ k. set_bytes (set_width (n i)) (get_or (xs i) k [])))

-- the header, from the two numbers that were read from it
pub header_pairs : (bytes : List ℕ) → Bounded 256 bytes → (i : ℕ) → i < header_bytes → get_or (le16 (le16_at bytes 0) ++ le16 (le16_at bytes 2)) i 0 ≡ get_or bytes i 0
header_pairs bytes u zero h = le16-le16_at bytes 0 u 0 (omega arith)
header_pairs bytes u (suc zero) h = le16-le16_at bytes 0 u 1 (omega arith)
header_pairs bytes u (suc (suc zero)) h = le16-le16_at bytes 2 u 0 (omega arith)
header_pairs bytes u (suc (suc (suc zero))) h = le16-le16_at bytes 2 u 1 (omega arith)
header_pairs bytes u (suc (suc (suc (suc i)))) h = absurd (omega arith)

-- a place in contents of m sets of w bytes is in the header or in a set
pub by_content : (P : ℕ → Type 0) (w m : ℕ) → ((i : ℕ) → i < header_bytes → P i) → ((k j : ℕ) → k < m → j < w → P (header_bytes + w * k + j)) → (i : ℕ) → i < header_bytes + w * m → P i
by_content P w m header set i h =
    ⊎_elim (header i)
    (λ l.
    let inside : i - header_bytes < w * m = omega arith in
    let place : header_bytes + w * ((i - header_bytes) / w) + (i - header_bytes) % w ≡ i = omega (arith, div-add-mod (i - header_bytes) w) in
    subst P place (set ((i - header_bytes) / w) ((i - header_bytes) % w) (div_below w m (i - header_bytes) inside) (mod_below w m (i - header_bytes) inside)))
    (lt_or_ge i header_bytes)

-- a state of the table has its row in the contents
pub dialogue_in-row : (form : Form) (bytes : List ℕ) (n g s : ℕ) → s < n → (dialogue_in form bytes n g).row s ≡ set_number bytes n (heads form + g + s)
unfolding dialogue_in
dialogue_in-row form bytes n g s h = rw (lt-ltb s n h)
