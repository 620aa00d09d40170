-- The loop that counts a set's states.
--
--   bits_fit, states_fit, word_ones     what is added fits
--   Counting X w n                      n is the number of states of X in its first w words: counting_none, counting_more, counting_all
--   size-ones                           the number of states in a set is the number of ones in its words
use Prim.Native.Nat.{ℕ, zero, suc, ◌+◌, ◌*◌, ◌≤◌, ◌<◌}
use native.Mathlib.Nat.{le_refl, le_antisymm, mod-eq_of_lt}
use native.Mathlib.Numerals.{add-one}
use native.Mathlib.Omega.{arith}
use mathlib.Core.Path.{◌≡◌, refl, sym, ap, ap₂, ◌∙◌, subst}
use lib.ListN.{length, get_or}
use lib.Count.{ones, ones-le}
use mir.Syntax.{w64}
use mir.Val.{Fits}
use Rattle.basics.specs.Bounds.{filter}
use Rattle.model.specs.Sets.{WORDS, max_states, Set, member, members, size}
use Rattle.model.proofs.SetsMembers.{Proper, member_at}
use Rattle.core_state_set.specs.WordSets.{ones_in}
use Rattle.core_state_set.proofs.SetsBits.{ones-filter}

-- ---- what is added fits

pub bits_fit : (b : ℕ) → b ≤ 64 → Fits w64 b
bits_fit b h = record { fits = omega arith }

pub states_fit : (n b : ℕ) → n ≤ max_states → b ≤ 64 → Fits w64 (n + b)
states_fit n b k h = record { fits = omega arith }

pub word_ones : (x : ℕ) → Fits w64 x → ones x ≤ 64
word_ones x f = ones-le 64 x f.fits

-- ---- the number of states

pub record Counting (X : Set) (w n : ℕ) : Type 0 where
  pub within : w ≤ WORDS
  pub small : n ≤ 64 * w
  pub is : n ≡ length (filter (64 * w) (member X))

module _ (X : Set) where
  pub counting_none : Counting X 0 0
  unfolding filter
  counting_none = record { within = omega arith; small = omega arith; is = refl }

  pub counting_more : (w n : ℕ) → Fits w64 (get_or X w 0) → Counting X w n → w < WORDS → Counting X (w + 1) (n + ones (get_or X w 0))
  counting_more w n f so h =
      let next : 64 * (w + 1) ≡ 64 * w + 64 = omega arith in
      record {
        within = omega arith;
        small = omega (arith, ones-le 64 (get_or X w 0) f.fits);
        is =
            sym
            (ap (λ (m : ℕ). length (filter m (member X))) next
            ∙ ones-filter (member X) (64 * w) (get_or X w 0) 64 (λ i l. sym (member_at X w i h l))
            ∙ ap₂ (λ (m k : ℕ). m + k) (sym so.is) (ap ones (mod-eq_of_lt f.fits)));
      }

  pub counting_all : (w n : ℕ) → Counting X w n → WORDS ≤ w → n ≡ size X
  unfolding size members
  counting_all w n so h = so.is ∙ ap (λ (m : ℕ). length (filter (64 * m) (member X))) (le_antisymm so.within h)

  counted : Proper X → (w : ℕ) → w ≤ WORDS → Counting X w (ones_in w X)
  unfolding ones_in
  counted p zero h = counting_none
  counted p (suc w) h =
      subst (λ (k : ℕ). Counting X k (ones_in w X + ones (get_or X w 0))) (add-one w) (counting_more w _ (record { fits = p.fits w (omega arith) }) (counted p w (omega arith)) (omega arith))

  pub size-ones : Proper X → size X ≡ ones_in WORDS X
  size-ones p = sym (counting_all WORDS _ (counted p WORDS (le_refl WORDS)) (le_refl WORDS))
