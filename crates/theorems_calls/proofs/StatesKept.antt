-- The proof of specs/States.
use Prim.Native.Nat.{◌^◌}
use mathlib.Core.Path.{◌≡◌, ap, ◌∙◌}
use mathlib.Core.Bool.{Bool, ◌&&◌}
use borrow.Author.Tests.{lt-ltb}
use lib.ListN.{length}
use Rattle.model.specs.Sets.{WORDS, max_states, Set}
use Rattle.model.specs.RoundTrip.{Bounded}
use Rattle.model.proofs.SetsMembers.{Proper, member-set_of, ext}
use Rattle.model.proofs.HangLaws.{forbidden-is}
use Rattle.core_state_set.proofs.SetsOnes.{size-ones}
use Rattle.theorems_calls.specs.States.{States}

proper : {X : Set} → length X ≡ WORDS → Bounded (2 ^ 64) X → Proper X
proper long fits = record { long = long; fits = λ w h. fits w }

pub states : States
states =
    record {
      members = λ p s h. member-set_of p s ∙ ap (λ (b : Bool). b && p s) (lt-ltb s max_states h);
      known = λ X Y x y u v. ext X Y (proper x u) (proper y v);
      ones = λ X x u. size-ones X (proper x u);
      forbidden = forbidden-is;
    }
