-- The search outward by layers for a state of F (`first_layer`).
--
--   Outward                      after k turns: the layers so far (core_reach, ReachLayers), of which none before the last holds a state of F
--   outward_start, outward_turn  where it starts; a turn
--   outward_hit, outward_end     the first layer with a state of F is the last; there is none where the last brings nothing new
--   outward_full                 nor after as many turns as a set has states
--   PutDown                      a row for each layer before the last, as far as there is room
--   put_start, put_turn, put_hit     where it starts; a turn; the states of F in the last layer
use Prim.Native.Nat.{ℕ, suc, ◌+◌, ◌≤◌, ◌<◌}
use native.Mathlib.Nat.{not-suc-le-zero}
use native.Mathlib.Numerals.{add-one}
use native.Mathlib.Omega.{arith}
use mathlib.Core.Path.{◌≡◌, ap, ◌∙◌}
use mathlib.Core.Logic.{⊎_elim}
use mathlib.Core.Bool.{true, false}
use mathlib.Core.List.{List, []}
use borrow.Author.Tests.{lt-ltb}
use lib.ListN.{length, get_or, set, length-set}
use lib.Seq.{get_or-set_same, get_or-set_other}
use Rattle.model.specs.Sets.{max_states, Set, empty, union, meet, difference, subset, meets}
use Rattle.model.specs.Rounds.{iterate}
use Rattle.basics.proofs.BoundLaws.{is_false, clash, decided, below_suc, first-is, first-none}
use Rattle.model.proofs.SetsMembers.{Proper, set_of_proper, empty_in, in_difference, difference_in, ◌⊆◌, subset_in, same_set, in_meets, meets_in}
use Rattle.core_rows.specs.Rows.{row_in, successors_by}
use Rattle.core_reach.specs.Reached.{reach_by}
use Rattle.core_reach.proofs.ReachLayers.{before, before_mono, Layered, layered_start, layered_turn, layered_below, layered_still}
use Rattle.call_paths.specs.Search.{layer_of, met_within, first_layer, LayersUpTo}
use Rattle.std.specs.Prelude.{Some, None}

pub record Outward (rows : List ℕ) (X F : Set) (k : ℕ) (found layer : Set) : Type 0 where
  pub layered : Layered (row_in rows) X k found layer
  pub clear : meets (before (row_in rows) X k) F ≡ false

pub record PutDown (rows : List ℕ) (X : Set) (room k : ℕ) (layers : List Set) : Type 0 where
  pub long : length layers ≡ room
  pub filled : (i : ℕ) → i < k → i < room → get_or layers i [] ≡ layer_of rows X i

pub put_start : (rows : List ℕ) (X : Set) {room : ℕ} {layers : List Set} → length layers ≡ room → PutDown rows X room 0 layers
put_start rows X l = record { long = l; filled = λ i b r. absurd (not-suc-le-zero b) }

module _ (rows : List ℕ) (X F : Set) where
  pub outward_start : Proper X → Outward rows X F 0 X X
  unfolding iterate
  outward_start p = record { layered = layered_start _ X p; clear = is_false _ (λ m. empty_in (meets_in m).1) }

  module _ {k : ℕ} {found layer : Set} (so : Outward rows X F k found layer) where
    -- no state of F is among those before the layer
    unmet : (m : ℕ) → before (row_in rows) X (suc m) ⊆ before (row_in rows) X k → met_within rows X F m ≡ false
    unfolding met_within reach_by successors_by
    unmet m i = is_false _ (λ e. let w = meets_in e in clash (in_meets (i w.0 w.1) w.2) so.clear)

    pub outward_end : subset layer empty ≡ true → None ≡ first_layer rows X F
    unfolding first_layer
    outward_end none = let d = first-none _ max_states (λ j l. unmet j (layered_still _ X so.layered none (suc j))) in rw d

    -- a layer with a state has one more found than the one before it, so there are fewer layers than states
    pub outward_full : max_states ≤ k → None ≡ first_layer rows X F
    outward_full l =
        ⊎_elim outward_end (λ some. absurd (omega (arith, layered_below _ X so.layered some))) (decided (subset layer empty))

    pub outward_hit : meets layer F ≡ true → Some k ≡ first_layer rows X F
    unfolding first_layer met_within reach_by successors_by
    outward_hit e =
        let w = meets_in e in
        let met = in_meets (so.layered.new w.0 w.1).0 w.2 in
        let below = layered_below _ X so.layered (is_false _ (λ none. empty_in (subset_in none w.0 w.1))) in
        let d = first-is (met_within rows X F) max_states k below met (λ j b. unmet j (before_mono _ X (suc j) k b)) in
        rw (d, lt-ltb k max_states below)

    pub outward_turn : {found' layer' : Set} → subset layer empty ≡ false → meets layer F ≡ false → layer' ≡ difference (successors_by rows layer) found
        → found' ≡ union found layer' → Outward rows X F (k + 1) found' layer'
    unfolding successors_by
    outward_turn some e p q =
        rw add-one record {
          layered = layered_turn _ X so.layered some p q;
          clear =
              is_false _
              (λ m.
              let w = meets_in m in
              ⊎_elim (λ i. clash (in_meets i w.2) so.clear) (λ i. clash (in_meets i w.2) e) (so.layered.all w.0 w.1));
        }

    -- ---- the layers, each in its row

    module _ {room : ℕ} {layers : List Set} (put : PutDown rows X room k layers) where
      -- the layer's own row is written, and no row before it
      written : (Y : Set) → k < room → get_or (set layers k Y) k [] ≡ Y
      written Y l = get_or-set_same layers k Y [] (omega (arith, put.long))

      kept : (Y : Set) (i : ℕ) → i < k → i < room → get_or (set layers k Y) i [] ≡ layer_of rows X i
      kept Y i b r = get_or-set_other layers k i Y [] (λ e. omega arith) ∙ put.filled i b r

      layer_is : layer ≡ layer_of rows X k
      unfolding layer_of reach_by successors_by difference
      layer_is =
          same_set _ _ so.layered.proper (set_of_proper _)
          (λ s h. let new = so.layered.new s h in in_difference new.0 new.1)
          (λ s h. let both = difference_in h in ⊎_elim (λ i. absurd (both.1 i)) (λ i. i) (so.layered.all s both.0))

      pub put_turn : {layers' : List Set} → layers' ≡ set layers k layer → PutDown rows X room (k + 1) layers'
      put_turn q =
          rw q record {
            long = length-set layers k layer ∙ put.long;
            filled = λ i b r.
                ⊎_elim (λ (e : i ≡ k). rw e (written layer (rw e at r) ∙ layer_is)) (λ l. kept layer i l r) (below_suc (rw add-one at b));
          }

      pub put_hit : {last : Set} {layers' : List Set} → last ≡ meet layer F → layers' ≡ set layers k last
          → LayersUpTo rows X F room (Some k) layers'
      put_hit {last} l q =
          rw q (length-set layers k last ∙ put.long, kept last, (λ r. written last r ∙ l ∙ ap (λ (Y : Set). meet Y F) layer_is))
