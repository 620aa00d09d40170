-- What is asked of an answer that is laid out in numbers of 32 bits.
--
--   WhereAnswered P x     P holds of the answer, where there is one
use Rattle.basics.specs.Refusals.{Answered, refused, answered}

abbrev pub WhereAnswered : {A : Type 0} → (A → Type 0) → Answered A → Type 0
WhereAnswered P (refused k) = Unit {0}
WhereAnswered P (answered a) = P a
