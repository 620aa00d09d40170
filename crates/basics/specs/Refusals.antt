-- Refusals, and what a call answers (the specification, "Refusals").
--
--   Ground                  a ground of refusal: whether it holds, and its number (the error code)
--   refuse grounds          the number of the first ground that holds, or 0 for none
--   Answered A              what a call gives: a refusal number, or an answer of type A
--   answer grounds a        the first ground that holds refuses; where none does, the answer is a
--   unless_refused b f x     f of the answer, or b where the call is refused: what is left in a buffer, or stands beside an answer
use Rattle.std.specs.Prelude.{ℕ, Bool, cond, List, [], ◌∷◌}

abbrev pub Ground : Type 0
Ground = Bool × ℕ

unfoldable pub refuse : List Ground → ℕ
refuse [] = 0
refuse (first_ground ∷ later) = cond first_ground.0 first_ground.1 (refuse later)

pub data Answered (A : Type 0) : Type 0 where
  refused : ℕ → Answered A
  answered : A → Answered A

unfoldable pub answer : {A : Type 0} → List Ground → A → Answered A
answer [] a = answered a
answer (first_ground ∷ later) a = cond first_ground.0 (refused first_ground.1) (answer later a)

abbrev pub unless_refused : {A B : Type 0} → B → (A → B) → Answered A → B
unless_refused b f (refused k) = b
unless_refused b f (answered a) = f a
