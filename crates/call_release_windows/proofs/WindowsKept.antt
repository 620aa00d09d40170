-- The promises of the call next open minute are kept.
use Prim.Native.Nat.{ℕ, ◌+◌, ◌-◌, ◌/◌, ◌^◌, ◌<◌}
use native.Mathlib.Omega.{arith}
use mathlib.Core.Path.{◌≡◌, refl, sym, ◌∙◌, subst}
use mathlib.Core.Logic.{◌↔◌}
use mathlib.Core.Bool.{Bool, true, false, not}
use mathlib.Core.List.{List, [], ◌∷◌, Memᴰ}
use borrow.Author.Tests.{eqb-true, eq-eqb, not-true}
use lib.Dec.{eqb}
use Rattle.basics.specs.Refusals.{answered}
use Rattle.basics.proofs.BoundLaws.{and_true, is_false, clash, first_passes, first-least, first-none}
use Rattle.basics.proofs.RefusalLaws.{refused-is}
use Rattle.call_release_windows.specs.Windows.{day, outside, some, in_window, in_some, is_closed, is_open}
use Rattle.call_release_windows.specs.WindowAnswers.{span, Opening, minute, never, grounds, waiting, next_open_answer}
use Rattle.call_release_windows.specs.WindowPromises.{Held, FirstOpen, WindowPromises}
use Rattle.call_release_windows.proofs.Searches.{some_mem, mem_some, some-none}
use Rattle.call_release_windows.proofs.Waits.{in_range}
use Rattle.call_release_windows.proofs.Jumps.{open_where, outside_shut}
use Rattle.call_release_windows.proofs.WindowsAnswered.{sound_answer, opens, shuts}
use Rattle.call_release_windows.proofs.Weeks.{in_held, held_in, soon_open}

open_minutes : (windows days : List ℕ) (m : ℕ) → some outside windows ≡ false
    → (is_open windows days m ≡ true)
    ↔ (((w : ℕ) × (k : ℕ) × Memᴰ w windows × Held w k m) × (Memᴰ (m / day) days → ⊥))
unfolding is_open is_closed in_some
open_minutes windows days m ranged = (forth, back)
  where
    forth : is_open windows days m ≡ true → ((w : ℕ) × (k : ℕ) × Memᴰ w windows × Held w k m) × (Memᴰ (m / day) days → ⊥)
    forth e =
        let both = and_true (not (is_closed days m)) (in_some windows m) e in
        let it = some_mem (in_window m) windows both.1 in
        let held = in_held (in_range it.0 (some-none outside windows it.0 ranged it.1)) m it.2 in (
          (it.0, held.0, it.1, held.1),
          λ named. clash (mem_some (eqb (m / day)) days (m / day) named (eq-eqb (m / day) (m / day) refl)) (not-true (is_closed days m) both.0),
        )

    back : ((w : ℕ) × (k : ℕ) × Memᴰ w windows × Held w k m) × (Memᴰ (m / day) days → ⊥) → is_open windows days m ≡ true
    back h =
        let it = h.0 in
        let w = it.0 in
        open_where windows days m
        (is_false (some (eqb (m / day)) days)
        (λ t.
        let closed = some_mem (eqb (m / day)) days t in
        h.1 (subst (λ (d : ℕ). Memᴰ d days) (sym (eqb-true (m / day) closed.0 closed.2)) closed.1)))
        (mem_some (in_window m) windows w it.2 (held_in (in_range w (some-none outside windows w ranged it.2)) m it.1 it.3))

module _ (time : ℕ) (windows days : List ℕ) where
  first_open : waiting time windows days < span → FirstOpen time windows days (time + waiting time windows days)
  unfolding waiting
  first_open l =
      let p : ℕ → Bool = λ k. is_open windows days (time + k) in
      record {
        not_before = omega arith;
        soon = omega (arith, l);
        is_open_lem = first_passes p span l;
        first =
            λ j from before.
            let there : time + (j - time) ≡ j = omega (arith, from) in
            subst (λ (m : ℕ). is_open windows days m ≡ false) there (first-least p span (j - time) (omega (arith, before, from)));
      }

with_window : (time : ℕ) (windows days : List ℕ) (a : Opening) → next_open_answer time windows days ≡ answered a → (windows ≡ [] → ⊥)
    → (m : ℕ) × (a ≡ minute m) × FirstOpen time windows days m × (m < 2 ^ 32)
with_window time [] days a e f = absurd (f refl)
with_window time (w ∷ others) days a e f =
    let so = sound_answer time (w ∷ others) days e in
    let ranged = in_range w (some-none outside (w ∷ others) w so.in_range (Memᴰ.head refl)) in
    let soon = soon_open time w others days ranged so.few_days in
    (time + waiting time (w ∷ others) days, opens time (w ∷ others) days e soon, first_open time (w ∷ others) days soon, omega (arith, soon, so.no_later))

no_window : (days : List ℕ) (m : ℕ) → is_open [] days m ≡ false
unfolding in_some some
no_window days m = outside_shut [] days m refl

without : (time : ℕ) (days : List ℕ) (a : Opening) → next_open_answer time [] days ≡ answered a
    → (a ≡ never) × ((m : ℕ) → is_open [] days m ≡ false)
unfolding waiting
without time days a e =
    let all : waiting time [] days ≡ span = first-none (λ k. is_open [] days (time + k)) span (λ j h. no_window days (time + j)) in
    (shuts time [] days e (omega (arith, all)), no_window days)

pub promises : WindowPromises
unfolding next_open_answer
promises =
    record {
      window-is = λ start length h. (omega arith, omega arith);
      open_minutes = open_minutes;
      with_window = λ time windows days r a c e. with_window time windows days a (sym c ∙ e);
      without = λ time days r a c e. without time days a (sym c ∙ e);
      refusal = λ time windows days r k c e. refused-is (grounds time windows days) _ (sym c ∙ e);
    }
