-- Laws of the sets in contents: their bytes and their words.
--
--   set_inside                        a set of a table has as many bytes behind its place as a set can have
--   word_joined                       a word of a set, from its eight bytes
--   cut_word, set_cut                 the meet with another set, word by word; the set of so many bytes is all states below its width
use Prim.Native.Nat.{ℕ, zero, suc, ◌+◌, ◌*◌, ◌-◌, ◌/◌, ◌%◌, ◌^◌, ◌≤◌, ◌<◌}
use native.Mathlib.Nat.{mul-le-mul, add-zero, pow-suc}
use native.Mathlib.Omega.{arith}
use mathlib.Core.Path.{◌≡◌, refl, sym, ap, ap₂, ◌∙◌}
use mathlib.Core.Bool.{Bool, true, false, ◌&&◌}
use mathlib.Core.List.{List}
use borrow.Author.Tests.{lt-ltb}
use lib.Bits.{bit_and}
use lib.Dec.{ltb}
use lib.ListN.{get_or, take, drop}
use lib.Seq.{get_or-take, get_or-drop}
use lib.Pow.{pow-add}
use mir.Syntax.{w8, w64}
use mir.Val.{Fits}
use Rattle.std.specs.Int.{byte_worth, sum_through, from_le_bytes}
use Rattle.model.specs.Sets.{WORDS, max_states, Set, bit, member, number, meet, first_states, states}
use Rattle.model.specs.Stores.{head_sets, max_groups}
use Rattle.model.specs.Contents.{set_width, header_bytes, set_in}
use Rattle.model.proofs.SetsMembers.{set_of_cong, member-set_of, Proper}
use Rattle.model.proofs.SetsBytes.{number_append, word_number, number-set_in, set_in_proper}
use Rattle.file_blocks.specs.Forms.{joined_room}
use Rattle.core_state_set.proofs.SetsWords.{and_wise, wordwise_word}

pub set_inside : {n width k room : ℕ} → n ≤ max_states → width ≡ set_width n → k < head_sets + max_groups + max_states → joined_room ≤ room
    → header_bytes + width * k + 8 * WORDS ≤ room
set_inside {n} {width} {k} small e h l =
    let narrow : width ≤ 8 * WORDS = omega arith in
    let most : k ≤ head_sets + max_groups + max_states - 1 = omega arith in
    omega (arith, mul-le-mul narrow most)

-- ---- a word of a set, from its bytes

powers : (b : ℕ) → 256 ^ b ≡ 2 ^ (8 * b)
powers zero = refl
powers (suc b) =
    let next : 8 * suc b ≡ 8 * b + 8 = omega arith in
    pow-suc 256 b ∙ ap (λ (m : ℕ). m * 256) (powers b) ∙ sym (ap (λ (m : ℕ). 2 ^ m) next ∙ pow-add 2 (8 * b) 8)

worth : (b x : ℕ) → byte_worth b x ≡ 2 ^ (8 * b) * x
worth zero x = omega arith
worth (suc b) x = omega (arith, ap (λ (m : ℕ). x * m) (powers (suc b)))

-- that each byte fits is what the borrow checker tells of a slice
module _ (bytes : List ℕ) (at v : ℕ) (u : (i : ℕ) → Fits w8 (get_or bytes i 0)) (l : v < WORDS) where
  abbrev X : Set
  X = set_in bytes (8 * WORDS) at

  byte_of : (i : ℕ) → i < 8 → get_or (take 8 (drop (at + 8 * v) bytes)) i 0 ≡ number (member X) (64 * v + 8 * i) 8
  byte_of i h =
      let place : at + 8 * v + i ≡ at + (8 * v + i) = omega arith in
      let states : 8 * (8 * v + i) ≡ 64 * v + 8 * i = omega arith in
      get_or-take 8 (drop (at + 8 * v) bytes) i 0 h
      ∙ get_or-drop (at + 8 * v) bytes i 0
      ∙ ap (λ (j : ℕ). get_or bytes j 0) place
      ∙ sym (number-set_in bytes (8 * WORDS) at (omega arith) (λ j. (u j).fits) (8 * v + i) (omega arith))
      ∙ ap (λ (j : ℕ). number (member X) j 8) states

  low_bytes : (b : ℕ) → b < 8 → sum_through (λ i. byte_worth i (get_or (take 8 (drop (at + 8 * v) bytes)) i 0)) b ≡ number (member X) (64 * v) (8 * (b + 1))
  low_bytes zero h = byte_of 0 h ∙ ap (λ (j : ℕ). number (member X) j 8) (add-zero (64 * v))
  low_bytes (suc b) h =
      let last = 64 * v + 8 * suc b in
      let more : 8 * suc b + 8 ≡ 8 * (suc b + 1) = omega arith in
      let before : 8 * (b + 1) ≡ 8 * suc b = omega arith in
      ap₂ (λ (x y : ℕ). x + y) (low_bytes b (omega arith) ∙ ap (number (member X) (64 * v)) before) (worth (suc b) _ ∙ ap (λ (x : ℕ). 2 ^ (8 * suc b) * x) (byte_of (suc b) h))
      ∙ sym (number_append (member X) (64 * v) (8 * suc b) 8)
      ∙ ap (number (member X) (64 * v)) more

  pub word_joined : {first word : ℕ} {part : List ℕ} → first ≡ at + 8 * v → part ≡ take (first + 8 - first) (drop first bytes) → word ≡ from_le_bytes w64 part → word ≡ get_or X v 0
  word_joined {first} e f g =
      let eight : first + 8 - first ≡ 8 = omega arith in
      g
      ∙ ap (from_le_bytes w64) (f ∙ ap₂ (λ (m j : ℕ). take m (drop j bytes)) eight e)
      ∙ low_bytes 7 (omega arith)
      ∙ sym (word_number X (set_in_proper bytes (8 * WORDS) at) v l)

-- ---- a set of fewer bytes

module _ {X Y : Set} (x : Proper X) (y : Proper Y) where
  pub cut_word : {v a : ℕ} → v < WORDS → a ≡ get_or X v 0 → bit_and a (get_or Y v 0) ≡ get_or (meet X Y) v 0
  unfolding meet
  cut_word {v} h e = ap (λ (b : ℕ). bit_and b (get_or Y v 0)) e ∙ wordwise_word and_wise X Y x y v h

and_swap : (a b : Bool) → (a && (b && true)) ≡ (b && a)
and_swap true true = refl
and_swap true false = refl
and_swap false true = refl
and_swap false false = refl

pub set_cut : (bytes : List ℕ) (width at : ℕ) → meet (set_in bytes (8 * WORDS) at) (first_states (8 * width)) ≡ set_in bytes width at
unfolding meet first_states states set_in
set_cut bytes width at =
    set_of_cong _ _
    (λ s h.
    ap₂ (λ a b. a && b) (member-set_of _ s) (member-set_of _ s)
    ∙ rw (lt-ltb s max_states h) (and_swap (bit (get_or bytes (at + s / 8) 0) (s % 8)) (ltb s (8 * width))))
