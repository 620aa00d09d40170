-- Laws of the call next open minute: its answer in each case.
--
--   Sound, sound              what no ground leaves: a time and days within their limits, windows in their range; sound_answer: of a call
--                             that is answered
--   refuses                   a ground holds
--   answers                   none does, and the first opening is given
--   opens, shuts              of a call that is answered: the first open minute, or never
use Prim.Native.Nat.{ℕ, ◌+◌, ◌≤◌, ◌<◌}
use mathlib.Core.Path.{◌≡◌, refl, sym, ◌∙◌}
use mathlib.Core.Bool.{false}
use mathlib.Core.List.{List, []}
use borrow.Author.Tests.{lt-ltb, le-ltb, ltb-false}
use lib.Dec.{ltb}
use lib.ListN.{length}
use Rattle.std.specs.Prelude.{Option, Ok, Err}
use Rattle.basics.specs.Refusals.{refuse, answered}
use Rattle.basics.proofs.BoundLaws.{or_false}
use Rattle.basics.proofs.RefusalLaws.{Clear, refuse_clear, answered_clear, answered_value}
use Rattle.core_refusals.specs.declared.Refusal.{Refusal}
use Rattle.core_refusals.specs.Refusals.{number}
use Rattle.core_refusals.proofs.RefusalNumbers.{answer_refused, answer_given}
use Rattle.call_release_windows.specs.Windows.{outside, some}
use Rattle.call_release_windows.specs.WindowAnswers.{Opening, minute, never, minute_of, max_time, max_windows, max_days, span, grounds, waiting, first_opening, next_open_answer, CalledNextOpen}

pub record Sound (time : ℕ) (windows days : List ℕ) : Type 0 where
  pub no_later : time ≤ max_time
  pub few_days : length days ≤ max_days
  pub in_range : some outside windows ≡ false

module _ (time : ℕ) (windows days : List ℕ) where
  clear_sound : Clear (grounds time windows days) → Sound time windows days
  unfolding grounds
  clear_sound c =
      let counts = or_false (ltb max_windows (length windows)) (ltb max_days (length days)) c.1.0 in
      record { no_later = ltb-false max_time time c.0; few_days = ltb-false max_days (length days) counts.1; in_range = c.1.1.0 }

  module _ (z : 0 ≡ refuse (grounds time windows days)) where
    pub sound : Sound time windows days
    unfolding grounds
    sound = clear_sound (refuse_clear (grounds time windows days) [] refl (sym z)).0

    pub answers : (m : Option ℕ) → minute_of m ≡ first_opening time windows days → CalledNextOpen time windows days (Ok m)
    unfolding next_open_answer grounds
    answers m e = answer_given minute_of (grounds time windows days) _ m refl z e

  pub refuses : (r : Refusal) → number r ≡ refuse (grounds time windows days) → CalledNextOpen time windows days (Err r)
  unfolding next_open_answer
  refuses r e = answer_refused minute_of (grounds time windows days) _ r e

  module _ {a : Opening} (e : next_open_answer time windows days ≡ answered a) where
    pub sound_answer : Sound time windows days
    unfolding next_open_answer
    sound_answer = clear_sound (answered_clear (grounds time windows days) _ e)

    pub opens : waiting time windows days < span → a ≡ minute (time + waiting time windows days)
    unfolding next_open_answer first_opening
    opens l = answered_value (grounds time windows days) _ e ∙ rw (lt-ltb (waiting time windows days) span l)

    pub shuts : span ≤ waiting time windows days → a ≡ never
    unfolding next_open_answer first_opening
    shuts l = answered_value (grounds time windows days) _ e ∙ rw (le-ltb (waiting time windows days) span l)
