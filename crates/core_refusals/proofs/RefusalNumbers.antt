-- Laws of the code's refusals, beside the grounds of a call.
--
--   number_some      no refusal has the number 0
--   answer_refused   a call that is refused answers as the model does, by the first ground that holds
--   answer_given     a call that is not refused does so too, with what it gives
use Rattle.std.proofs.Common.{◌≡◌, Ok, Err, List, true, sym, ap, ◌∙◌, arith}
use Rattle.basics.specs.Refusals.{Ground, refuse, answered, answer}
use Rattle.basics.proofs.RefusalLaws.{numbered, answer-refused, answer-none}
use Rattle.core_refusals.specs.declared.Refusal.{Refusal}
use Rattle.core_refusals.specs.declared.Refusal.TheVariants.{StoreShort, InputLength, BlockNumber, BlockCheck, States, Groups, BlockCount, StrayBit, Filler, OutputShort, Allowance, PathShort, FanOut, DistancesShort, Site, LogOdd, LogLong, StepState, NotPossible, WindowRange, TooMany, Time}
use Rattle.core_refusals.specs.Refusals.{number, answer_of}

pub number_some : (r : Refusal) → number r ≡ 0 → ⊥
number_some StoreShort e = omega arith
number_some InputLength e = omega arith
number_some BlockNumber e = omega arith
number_some BlockCheck e = omega arith
number_some States e = omega arith
number_some Groups e = omega arith
number_some BlockCount e = omega arith
number_some StrayBit e = omega arith
number_some Filler e = omega arith
number_some OutputShort e = omega arith
number_some Allowance e = omega arith
number_some PathShort e = omega arith
number_some FanOut e = omega arith
number_some DistancesShort e = omega arith
number_some Site e = omega arith
number_some LogOdd e = omega arith
number_some LogLong e = omega arith
number_some StepState e = omega arith
number_some NotPossible e = omega arith
number_some WindowRange e = omega arith
number_some TooMany e = omega arith
number_some Time e = omega arith

module _ {A B : Type 0} (f : A → B) (gs : List Ground) (b : B) where
  pub answer_refused : (r : Refusal) → number r ≡ refuse gs → answer_of f (Err r) ≡ answer gs b
  answer_refused r e = sym (answer-refused gs b e (number_some r))

  pub answer_given : (a : A) → numbered gs ≡ true → 0 ≡ refuse gs → f a ≡ b → answer_of f (Ok a) ≡ answer gs b
  answer_given a m e q = ap answered q ∙ sym (answer-none gs b m (sym e))
