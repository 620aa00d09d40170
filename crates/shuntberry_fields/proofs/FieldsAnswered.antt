-- A law of answers that are laid out.
--
--   where_answered     what holds of each answer that a call can give holds where there is one
use mathlib.Core.Path.{◌≡◌, refl, sym, ◌∙◌}
use Rattle.basics.specs.Refusals.{Answered, refused, answered}
use Rattle.shuntberry_fields.specs.Small.{WhereAnswered}

pub where_answered : {A : Type 0} (P : A → Type 0) {x y : Answered A} → x ≡ y → ((a : A) → y ≡ answered a → P a) → WhereAnswered P x
where_answered {A} P {x} e f = known x (λ a q. f a (sym e ∙ q))
  where
    known : (z : Answered A) → ((a : A) → z ≡ answered a → P a) → WhereAnswered P z
    known (refused k) g = tt
    known (answered a) g = g a refl
