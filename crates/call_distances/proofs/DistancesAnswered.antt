-- Laws of the call distances: the answer, and the buffer, in each case.
--
--   distance_alike                        distances of tables that differ in groups and initial states alone
--   store_distance                        so what all_distances says of a table without them is so of the store's table
--   all_long                              there are distances of the first n states
--   distances-refused, distances-short, distances-written     one of the shared grounds holds; the call's own does; neither
use Prim.Native.Nat.{ℕ, ◌≤◌, ◌<◌}
use native.Mathlib.Omega.{arith}
use mathlib.Core.Path.{◌≡◌, refl, sym, ap, ap₂, ◌∙◌, fun_ext}
use mathlib.Core.Bool.{cond}
use mathlib.Core.List.{List, [], ◌++◌}
use borrow.Author.Tests.{lt-ltb, le-ltb}
use lib.Dec.{ltb}
use lib.ListN.{length, take, drop}
use lib.Seq.{ext_get_or, length-take-le, get_or-take}
use Rattle.basics.specs.Bounds.{first, tabulate}
use Rattle.basics.specs.Refusals.{refuse}
use Rattle.basics.proofs.BoundLaws.{length-tabulate, get_or-tabulate}
use Rattle.model.specs.Sets.{max_states, Set, member, empty}
use Rattle.model.specs.Tables.{Table}
use Rattle.model.specs.Paths.{unreachable, distance}
use Rattle.model.specs.Stores.{set_at, table_of, shared_grounds}
use Rattle.model.specs.Calls.{overwrite}
use Rattle.model.proofs.StoresAccepted.{Store}
use Rattle.core_rows.specs.Rows.{rows_of, groups_of, groups_in, table_on}
use Rattle.call_paths.proofs.Groups.{reaching_alike, store_table_lem}
use Rattle.call_paths.proofs.PathsAnswered.{call_refused, call_short, call_answered}
use Rattle.call_distances.specs.Distances.{distances_grounds, distances_answer, distances_buffer, CalledDistances}
use Rattle.core_refusals.specs.declared.Refusal.{Refusal}
use Rattle.core_refusals.specs.declared.Refusal.TheVariants.{DistancesShort}
use Rattle.core_refusals.specs.Refusals.{number}
use Rattle.core_refusals.proofs.RefusalNumbers.{number_some}
use Rattle.std.specs.Prelude.{Ok, Err}

-- ---- what the distances do not read

module _ (n : ℕ) (I J F : Set) (G H : List Set) (rows : List ℕ) where
  distance_alike : (s : ℕ) → distance (table_on n I F G rows) s ≡ distance (table_on n J F H rows) s
  unfolding distance table_on
  distance_alike s =
      ap (λ (d : ℕ). cond (ltb d n) d unreachable) (ap (first n) (fun_ext (λ k. ap (λ (X : Set). member X s) (reaching_alike n I J F G H rows k))))

-- (f: what the call of `forbidden` gave)
module _ (store : List ℕ) (n g : ℕ) {F : Set} (f : F ≡ (table_of store n 0).forbidden) where
  store_distance : (s : ℕ) → distance (table_on n empty F [] (rows_of store)) s ≡ distance (table_of store n g) s
  store_distance s =
      distance_alike n empty (set_at store 0) F [] (groups_in (groups_of store) g) (rows_of store) s ∙ ap (λ (t : Table). distance t s) (store_table_lem store n g f refl)

-- ---- the answers

pub all_long : (f : ℕ → ℕ) {xs : List ℕ} {n : ℕ} → xs ≡ tabulate max_states f → n ≤ max_states → n ≤ length xs
all_long f e l = rw (e, length-tabulate) l

module _ (store : List ℕ) (n g : ℕ) (before : List ℕ) where
  pub distances-refused : (r : Refusal) → number r ≡ refuse (shared_grounds store n g) → CalledDistances store n g before (Err r) before
  unfolding distances_grounds distances_answer distances_buffer
  distances-refused r e = call_refused store n g _ tt before _ e (number_some r)

  module _ (s : Store store n g) where
    pub distances-short : length before < n → CalledDistances store n g before (Err DistancesShort) before
    unfolding distances_grounds distances_answer distances_buffer
    distances-short l = call_short store n g _ tt before _ s (lt-ltb (length before) n l) (λ e. omega arith)

    -- (front: what was copied, of the distances of all places)
    pub distances-written : {distances front : List ℕ} {F : Set} → n ≤ length before → F ≡ (table_of store n 0).forbidden
        → distances ≡ tabulate max_states (distance (table_on n empty F [] (rows_of store)))
        → front ≡ take n distances → CalledDistances store n g before (Ok tt) (front ++ drop n before)
    unfolding distances_grounds distances_answer distances_buffer overwrite
    distances-written {distances} l f d e =
        let long = all_long _ d s.small in
        let known =
        ext_get_or 0 (take n distances) (tabulate n (distance (table_of store n g)))
        (length-take-le n distances long ∙ sym (length-tabulate _ n))
        (λ i h.
        let below : i < n = omega (arith, length-take-le n distances long, h) in
        get_or-take n distances i 0 below
        ∙ rw d (get_or-tabulate _ max_states i 0 (omega (arith, s.small, below)) ∙ store_distance store n g f i)
        ∙ sym (get_or-tabulate _ n i 0 below)) in
        let gives = call_answered store n g _ tt before _ s refl (le-ltb (length before) n l) in
        (gives.0, ap₂ (λ (xs : List ℕ) (k : ℕ). xs ++ drop k before) (e ∙ known) (sym (length-tabulate _ n)) ∙ gives.1)
