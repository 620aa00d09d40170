-- Generated from include/shuntberry.h: do not edit. The refusals in the specification's numbers.
--
--   number r           the number of a refusal
--   number_of x        that of what is refused, and 0 of what is not
--   answer_of f x      what a call gave, as the model has it: f of the answer, or the number of the refusal
use Rattle.std.specs.Prelude.{ℕ, Result, Ok, Err}
use Rattle.basics.specs.Refusals.{Answered, refused, answered}
use Rattle.core_refusals.specs.declared.Refusal.{Refusal}
use Rattle.core_refusals.specs.declared.Refusal.TheVariants.{StoreShort, InputLength, BlockNumber, BlockCheck, States, Groups, BlockCount, StrayBit, Filler, OutputShort, Allowance, PathShort, FanOut, DistancesShort, Site, LogOdd, LogLong, StepState, NotPossible, WindowRange, TooMany, Time}

abbrev pub number : Refusal → ℕ
number StoreShort = 10
number InputLength = 11
number BlockNumber = 12
number BlockCheck = 13
number States = 14
number Groups = 15
number BlockCount = 16
number StrayBit = 17
number Filler = 18
number OutputShort = 19
number Allowance = 20
number PathShort = 21
number FanOut = 22
number DistancesShort = 23
number Site = 24
number LogOdd = 25
number LogLong = 26
number StepState = 27
number NotPossible = 28
number WindowRange = 29
number TooMany = 30
number Time = 31

abbrev pub number_of : {A : Type 0} → Result A Refusal → ℕ
number_of (Ok a) = 0
number_of (Err r) = number r

abbrev pub answer_of : {A B : Type 0} → (A → B) → Result A Refusal → Answered B
answer_of f (Ok a) = answered (f a)
answer_of f (Err r) = refused (number r)
