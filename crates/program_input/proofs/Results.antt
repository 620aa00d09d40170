-- The state of reading after one read.
--
--   ended, more, full, over           what a read that did not fail gives, by the number of bytes
--   more-fits, stopped_within         the state lies within the room
use Rattle.std.proofs.Common.{◌≡◌, ℕ, zero, suc, ◌+◌, ◌-◌, ◌≤◌, ◌<◌, Bool, true, false, cond, eqb, ltb, List, length, Continue, Break, sym, ◌∙◌, subst, refl, arith, lt-ltb, le-ltb, eq-eqb, ne_eqb}
use Rattle.std.specs.Prelude.{ℤ, pos, negsuc}
use borrow.Author.Tests.{ltb-true}
use Rattle.std.specs.declared.ops.ControlFlow.{ControlFlow}
use Rattle.program_input.specs.declared.Input.{Input}
use Rattle.program_input.specs.declared.Input.TheVariants.{Ended, Full, Failed}
use Rattle.program_input.specs.Reads.{after_read, OneRead, Within}

-- ---- what a read gives

module _ (there room : ℕ) where
  pub ended : (n : ℕ) → n ≡ 0 → Break (Ended there) ≡ after_read there room (pos n)
  unfolding after_read
  ended zero e = refl
  ended (suc n) e = absurd (omega arith)

  module _ (inside : there < room) where
    pub more : (n : ℕ) → (n ≡ 0 → ⊥) → n < room - there → Continue (there + n) ≡ after_read there room (pos n)
    unfolding after_read
    more zero e h = absurd (e refl)
    more (suc n) e h = rw (lt-ltb (there + suc n) room (omega arith))

    pub full : (n : ℕ) → (n ≡ 0 → ⊥) → n ≡ room - there → Break Full ≡ after_read there room (pos n)
    unfolding after_read
    full zero e h = absurd (e refl)
    full (suc n) e h = rw (le-ltb (there + suc n) room (omega arith), eq-eqb (there + suc n) room (omega arith))

    pub over : (n : ℕ) → (n ≡ 0 → ⊥) → room - there ≤ n → (n ≡ room - there → ⊥) → Break Failed ≡ after_read there room (pos n)
    unfolding after_read
    over zero e h ne = absurd (e refl)
    over (suc n) e h ne =
        rw (le-ltb (there + suc n) room (omega arith), ne_eqb (there + suc n) room (λ (q : there + suc n ≡ room). ne (omega arith)))

-- ---- the state lies within the room

abbrev Fitting : ℕ → ℕ → ControlFlow Input ℕ → Type 0
Fitting there room (Continue k) = (there < k) × (k < room)
Fitting there room (Break input) = Within input room

fitting : (there room : ℕ) (z : ℤ) → there < room → Fitting there room (after_read there room z)
unfolding after_read
fitting there room (pos zero) h = h
fitting there room (pos (suc n)) h = within (ltb (there + suc n) room) (eqb (there + suc n) room) (ltb-true (there + suc n) room) (omega arith)
  where
    within : (b c : Bool) → (b ≡ true → there + suc n < room) → 0 < room
        → Fitting there room (cond b (Continue (there + suc n)) (cond c (Break Full) (Break Failed)))
    within true c below some = (omega arith, below refl)
    within false true below some = tt
    within false false below some = some
fitting there room (negsuc n) h = omega arith

module _ {there : ℕ} {before after : List ℕ} {r : ControlFlow Input ℕ} (o : OneRead there before r after) (inside : there < length before) where
  held : {x : ControlFlow Input ℕ} → r ≡ x → Fitting there (length after) x
  held b =
      rw o.long (subst (Fitting there (length before)) (sym o.state ∙ b) (fitting there (length before) o.got inside))

  pub more-fits : {k : ℕ} → r ≡ Continue k → (there < k) × (k < length after)
  more-fits b = held b

  pub stopped_within : {input : Input} → r ≡ Break input → Within input (length after)
  stopped_within b = held b
