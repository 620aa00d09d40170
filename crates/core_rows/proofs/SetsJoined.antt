-- Loops through the states of a set, word by word; and those that join what each state gives: the image of the set.
--
--   one_taken, one_less     the lowest one of a word is the first state that is left, and leaves a smaller word
--   past_words, next_word   past the words nothing is left; where a word has nothing left, what is left begins with the next one
--   joined_to_none          joined to no states, the image is alone
use Prim.Native.Nat.{ℕ, ◌+◌, ◌*◌, ◌^◌, ◌≤◌, ◌<◌}
use native.Mathlib.Omega.{arith}
use mathlib.Core.Path.{◌≡◌, sym, ap, ◌∙◌}
use mathlib.Core.Logic.{inr, ⊎_elim}
use lib.ListN.{get_or}
use Rattle.std.specs.Prelude.{Some}
use Rattle.basics.proofs.BoundLaws.{lt_or_ge}
use Rattle.model.specs.Sets.{WORDS, max_states, Set, empty, union, image}
use Rattle.model.proofs.ListsInParts.{get_or_past}
use Rattle.model.proofs.SetsMembers.{Proper, union_proper, in_union, union_in, empty_in, same_set}
use Rattle.model.proofs.SetsImages.{image_proper}
use Rattle.core_state_set.specs.WordSets.{left_of, Takes}
use Rattle.core_state_set.proofs.SetsByWord.{word_less}
use Rattle.core_state_set.proofs.SetsStates.{left_skip, left_none, left_take}
use Rattle.core_rows.specs.Ones.{gives_lowest}

module _ {rest i rest' : ℕ} (fits : rest < 2 ^ 64) (taken : gives_lowest rest (Some i) rest') where
  pub one_taken : (w : ℕ) (X : Set) → w < WORDS → Takes (left_of w rest X) (Some (64 * w + i)) (left_of w rest' X)
  one_taken w X h = rw (taken.2, taken.3) (left_take w rest X h fits taken.1)

  pub one_less : rest' < 2 ^ 64
  one_less = omega (arith, word_less rest taken.1, taken.3, fits)

pub past_words : (w : ℕ) (X : Set) → Proper X → WORDS ≤ w → left_of w (get_or X w 0) X ≡ empty
past_words w X p h = ap (λ (x : ℕ). left_of w x X) (get_or_past X w 0 (omega (arith, p.long, h))) ∙ left_none w X (omega (arith, h))

pub next_word : (w : ℕ) (X : Set) {rest : ℕ} → Proper X → rest ≡ 0 → left_of w rest X ≡ left_of (w + 1) (get_or X (w + 1) 0) X
next_word w X p e =
    ap (λ (x : ℕ). left_of w x X) e
    ∙ ⊎_elim (λ (h : w + 1 < WORDS). left_skip w X h) (λ (h : WORDS ≤ w + 1). left_none w X h ∙ sym (past_words (w + 1) X p h)) (lt_or_ge (w + 1) WORDS)

pub joined_to_none : (f : ℕ → Set) (X : Set) {out : Set} → out ≡ empty → union out (image max_states f X) ≡ image max_states f X
joined_to_none f X e =
    ap (λ (Y : Set). union Y (image max_states f X)) e
    ∙ same_set _ _ (union_proper _ _) (image_proper max_states f X) (λ s h. ⊎_elim (λ n. absurd (empty_in n)) (λ m. m) (union_in h)) (λ s h. in_union (inr h))
