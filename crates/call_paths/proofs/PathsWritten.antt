-- Laws of walk_by, for the function that writes it state by state.
--
--   walk_by_last, walk_by_step         the walk is its first state and, where a step is left, the walk from the state that is taken next
--   writable_first, writable_rest    where a walk can be written, its first state is one, and the rest of it can be written after that
use Prim.Native.Nat.{ℕ, zero, suc, ◌+◌, ◌-◌, ◌≤◌, ◌<◌}
use native.Mathlib.Nat.{not-suc-le-zero}
use native.Mathlib.Numerals.{add-one}
use native.Mathlib.Omega.{arith}
use mathlib.Core.Path.{◌≡◌, refl}
use mathlib.Core.List.{List, [], ◌∷◌}
use lib.ListN.{get_or}
use Rattle.model.specs.Sets.{max_states, Set}
use Rattle.core_rows.specs.Rows.{row_in}
use Rattle.call_paths.specs.Search.{smallest_in, walk_by, Writable}

module _ (rows : List ℕ) (layers : List Set) (s at : ℕ) where
  pub walk_by_last : (d : ℕ) → d ≤ 0 → walk_by rows layers at d s ≡ s ∷ []
  unfolding walk_by
  walk_by_last zero l = refl
  walk_by_last (suc d) l = absurd (not-suc-le-zero l)

  pub walk_by_step : (d : ℕ) {Y : Set} {next : ℕ} → Y ≡ row_in rows s → next ≡ smallest_in layers (at + 1) Y → 0 < d
      → walk_by rows layers at d s ≡ s ∷ walk_by rows layers (at + 1) (d - 1) next
  unfolding walk_by
  walk_by_step zero q p l = absurd (not-suc-le-zero l)
  walk_by_step (suc d) q p l = let e : suc d - 1 ≡ d = omega arith in rw (e, p, q, add-one at)

  walk_by-first : (d : ℕ) → get_or (walk_by rows layers at d s) 0 0 ≡ s
  unfolding walk_by
  walk_by-first zero = refl
  walk_by-first (suc d) = refl

  module _ (d : ℕ) {room : ℕ} (w : Writable rows layers s d room at) where
    pub writable_first : s < max_states
    writable_first = omega (arith, w.states 0 (omega arith), walk_by-first d)

    pub writable_rest : {Y : Set} {next : ℕ} → Y ≡ row_in rows s → next ≡ smallest_in layers (at + 1) Y → 0 < d
        → Writable rows layers next (d - 1) room (at + 1)
    writable_rest q p l =
        record {
          long = w.long;
          short = omega (arith, w.short);
          fits = w.fits;
          states = λ i b. rw (walk_by_step d q p l) at (w.states (suc i) (omega arith));
        }
