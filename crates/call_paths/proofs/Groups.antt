-- Paths do not read the groups: what the functions say of a table without them is so of the store's table.
--
--   reaching_alike                      what is near a forbidden state, of tables that differ in groups and initial states alone
--   shortest-groups, walk-groups        of tables that differ in their groups alone
--   found_in-groups, path_written-groups  so with what find_path is stated by
--   store_table_lem                         the table of a store, by what the functions are lent of it
--   holds-states, holds-table           the rows of an accepted store are a table with any initial states, and with its own: what find_path asks
--   store_path                          what a call takes from find_path
use Prim.Native.Nat.{ℕ, zero, suc}
use mathlib.Core.Path.{◌≡◌, refl, sym, ap, ap₂, ◌∙◌, subst, fun_ext}
use mathlib.Core.Bool.{cond}
use mathlib.Core.List.{List, []}
use lib.Dec.{ltb}
use Rattle.basics.specs.Bounds.{first}
use Rattle.model.specs.Sets.{Set, union, meets, states, first_states}
use Rattle.model.specs.Tables.{Table}
use Rattle.model.specs.Paths.{reaching, shortest, has_path, walk, smallest_path}
use Rattle.model.specs.Stores.{set_at, table_of}
use Rattle.model.specs.Calls.{overwrite}
use Rattle.model.specs.WellFormed.{WellFormed, ◌⊆◌}
use Rattle.model.proofs.StoresAccepted.{Store, well_formed}
use Rattle.core_rows.specs.Rows.{rows_of, rows_in, groups_of, groups_in, table_on}
use Rattle.core_rows.proofs.RowsLent.{rows_long, table_on_lem}
use Rattle.call_paths.specs.Search.{HoldsTable}
use Rattle.call_paths.specs.PathAnswers.{found_in, path_written}
use Rattle.std.specs.Prelude.{Option, Some, None}

module _ (n : ℕ) (I J F : Set) (G H : List Set) (rows : List ℕ) where
  pub reaching_alike : (k : ℕ) → reaching (table_on n I F G rows) k ≡ reaching (table_on n J F H rows) k
  unfolding reaching table_on
  reaching_alike zero = refl
  reaching_alike (suc k) = ap (λ (X : Set). union X (states n (λ s. meets (rows_in rows n s) X))) (reaching_alike k)

module _ (n : ℕ) (I F : Set) (G : List Set) (rows : List ℕ) where
  abbrev t : Table
  t = table_on n I F [] rows

  abbrev grouped : Table
  grouped = table_on n I F G rows

  abbrev near : (k : ℕ) → reaching t k ≡ reaching grouped k
  near = reaching_alike n I I F [] G rows

  shortest-groups : shortest t ≡ shortest grouped
  unfolding shortest table_on
  shortest-groups = ap (first n) (fun_ext (λ k. ap (meets I) (near k)))

  walk-groups : (d : ℕ) (X : Set) → walk t d X ≡ walk grouped d X
  unfolding walk table_on
  walk-groups zero X = rw (near zero)
  walk-groups (suc d) X = rw (near (suc d), walk-groups d)

  pub found_in-groups : found_in t ≡ found_in grouped
  unfolding found_in has_path table_on
  found_in-groups = ap (λ (d : ℕ). cond (ltb d n) (Some d) None) shortest-groups

  pub path_written-groups : (path : List ℕ) → path_written t path ≡ path_written grouped path
  unfolding path_written has_path smallest_path table_on
  path_written-groups path =
      ap₂ (λ (d : ℕ) (xs : List ℕ). cond (ltb d n) (overwrite xs path) path) shortest-groups
      (walk-groups _ I ∙ ap (λ (d : ℕ). walk grouped d I) shortest-groups)

-- ---- the table of a store

-- (f and i: what the calls of `forbidden` and of `set_at` gave)
module _ (store : List ℕ) (n g : ℕ) where
  abbrev groups : List Set
  groups = groups_in (groups_of store) g

  module _ {F : Set} (f : F ≡ (table_of store n 0).forbidden) where
    pub holds-states : {I : Set} → Store store n g → I ⊆ first_states n → HoldsTable (rows_of store) n I F
    unfolding table_on table_of
    holds-states s inside =
        let ok = subst WellFormed (sym (table_on_lem store n g)) (well_formed store n g s) in
        record {
          long = rows_long store s.long;
          small = s.small;
          formed = record { initial = inside; forbidden = subst (λ (X : Set). X ⊆ first_states n) (sym f) ok.forbidden; rows = ok.rows };
        }

    module _ {I : Set} (i : I ≡ set_at store 0) where
      pub store_table_lem : table_on n I F groups (rows_of store) ≡ table_of store n g
      unfolding table_of
      store_table_lem = ap₂ (λ (X Y : Set). table_on n X Y groups (rows_of store)) i f ∙ table_on_lem store n g

      pub holds-table : Store store n g → HoldsTable (rows_of store) n I F
      unfolding table_of
      holds-table s = holds-states s (subst (λ (X : Set). X ⊆ first_states n) (sym i) (well_formed store n g s).initial)

      pub store_path : (path : List ℕ) {found : Option ℕ} {after : List ℕ}
          → (found ≡ found_in (table_on n I F [] (rows_of store))) × (after ≡ path_written (table_on n I F [] (rows_of store)) path)
          → (found ≡ found_in (table_of store n g)) × (after ≡ path_written (table_of store n g) path)
      store_path path found = (
        found.0 ∙ found_in-groups n I F groups (rows_of store) ∙ ap found_in store_table_lem,
        found.1 ∙ path_written-groups n I F groups (rows_of store) path ∙ ap (λ (t : Table). path_written t path) store_table_lem,
      )
