-- What `?` hands on.
--
--   passed_on     where a call is refused, its refusal
use Rattle.std.proofs.Common.{◌≡◌, Ok, Err, ap}
use Rattle.std.specs.Prelude.{Result, IsErrAnd}
use Rattle.core_refusals.specs.declared.Refusal.{Refusal}

pub passed_on : {A : Type 0} {e : Refusal} (r : Result A Refusal) → IsErrAnd r (λ y. y ≡ e) → r ≡ Err e
passed_on (Ok a) h = absurd h
passed_on (Err y) h = ap Err h
