-- The proof of specs/Places.
use Prim.Native.Nat.{ℕ, ◌+◌, ◌*◌}
use mathlib.Core.Path.{refl, ap}
use mathlib.Core.Bool.{Bool, cond}
use mathlib.Core.List.{List}
use borrow.Author.Tests.{lt-ltb, le-ltb}
use Rattle.model.specs.Sets.{empty}
use Rattle.model.specs.Stores.{set_at, dialogue_of}
use Rattle.theorems_calls.specs.Places.{Places}

pub places : (store : List ℕ) (n g : ℕ) → Places store n g
unfolding set_at dialogue_of
places store n g =
    record {
      set = λ at. refl;
      states = refl;
      initial = refl;
      marked = refl;
      resting = refl;
      groups = refl;
      row = λ s h. ap (λ (b : Bool). cond b (set_at store (536 + 8 * s)) empty) (lt-ltb s n h);
      no_row = λ s h. ap (λ (b : Bool). cond b (set_at store (536 + 8 * s)) empty) (le-ltb s n h);
    }
