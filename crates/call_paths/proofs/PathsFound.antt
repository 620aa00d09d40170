-- Laws of find_path: what the first layer with a forbidden state tells, and the path through the layers.
--
--   find_none                      no path, where there is no such layer
--   find_short                     else it is below the states that a set can hold
--   find_writable, find_some       and the path of so many steps can be written, and then is the one that the specification names
use Prim.Native.Nat.{ℕ, ◌+◌, ◌-◌, ◌≤◌, ◌<◌}
use native.Mathlib.Nat.{zero-add}
use native.Mathlib.Omega.{arith}
use mathlib.Core.Path.{◌≡◌, ap, ◌∙◌}
use mathlib.Core.Logic.{inl}
use mathlib.Core.Bool.{true, false}
use mathlib.Core.List.{List, []}
use lib.ListN.{length}
use lib.Seq.{sets, sets-eq}
use Rattle.model.specs.Sets.{max_states, Set}
use Rattle.model.specs.Tables.{Table}
use Rattle.model.specs.Paths.{reaching, shortest, has_path, walk, smallest_path}
use Rattle.model.specs.Rounds.{iterate}
use Rattle.model.specs.Calls.{overwrite}
use Rattle.basics.proofs.BoundLaws.{by_cond}
use Rattle.model.proofs.SetsMembers.{in_union}
use Rattle.model.proofs.PathLaws.{Nearest, shortest-nearest, length-smallest, smallest_below}
use Rattle.core_rows.specs.Rows.{table_on}
use Rattle.core_rows.proofs.RowsLent.{on_rows}
use Rattle.call_paths.specs.Search.{HoldsTable, first_layer, LayersUpTo, narrowed_back, smallest_in, walk_by, Writable}
use Rattle.call_paths.specs.PathAnswers.{found_in, path_written}
use Rattle.std.specs.Prelude.{Option, Some, None}
use Rattle.call_paths.proofs.Duality.{shortest_below, first_found}
use Rattle.call_paths.proofs.Narrowing.{narrowed-is, walk_by-is}

-- what was found tells whether there is a path, and how many steps it has
found_none : (t : Table) → None ≡ found_in t → has_path t ≡ false
unfolding found_in
found_none t = by_cond (λ (f : Option ℕ). None ≡ f → has_path t ≡ false) (has_path t) _ _ (λ e q. cc) (λ e q. e)

found-steps : (t : Table) {d : ℕ} → Some d ≡ found_in t → (has_path t ≡ true) × (d ≡ shortest t)
unfolding found_in
found-steps t {d} =
    by_cond (λ (f : Option ℕ). Some d ≡ f → (has_path t ≡ true) × (d ≡ shortest t)) (has_path t) _ _ (λ e q. (e, cc)) (λ e q. (cc, cc))

module _ {rows : List ℕ} {n : ℕ} {I F : Set} (held : HoldsTable rows n I F) where
  abbrev t : Table
  t = table_on n I F [] rows

  found-is : {found : Option ℕ} → found ≡ first_layer rows I F → found ≡ found_in t
  unfolding table_on
  found-is e = e ∙ first_found held.formed rows (on_rows n I F [] rows) held.small

  pub find_none : (path : List ℕ) → None ≡ first_layer rows I F → (None ≡ found_in t) × (path ≡ path_written t path)
  unfolding path_written
  find_none path e = (found-is e, rw (found_none t (found-is e)))

  -- what find_path has where there is one: the layers up to d, and what is kept of them
  module _ {d : ℕ} (layers kept : List Set) (f : (Some d ≡ first_layer rows I F) × LayersUpTo rows I F max_states (Some d) layers)
      (k : kept ≡ narrowed_back rows d layers) where
    steps-is : Some d ≡ found_in t
    steps-is = found-is f.0

    some : (has_path t ≡ true) × (d ≡ shortest t)
    some = found-steps t steps-is

    pub find_short : d < max_states
    unfolding table_on
    find_short = omega (arith, some.1, shortest_below held.formed rows (on_rows n I F [] rows) held.small some.0)

    walk_is : walk_by rows kept 0 d (smallest_in kept 0 I) ≡ smallest_path t
    unfolding smallest_path table_on iterate reaching
    walk_is =
        let near : Nearest t I d = rw some.1 (shortest-nearest t some.0) in
        let ok = held.formed in
        let r = on_rows n I F [] rows in
        rw k
        (walk_by-is t rows r ok d near (narrowed_back rows d layers)
        (narrowed-is t rows r ok d near find_short d layers (omega arith) f.1.0 (λ i l. f.1.1 i l (omega (arith, find_short)))
        (λ i a b. let last : i ≡ d = omega arith in let none : d - d ≡ 0 = omega arith in rw (last, none) (f.1.2 find_short)))
        d 0 (omega arith) (λ s h. in_union (inl h)) near
        ∙ ap (λ (e : ℕ). walk t e I) some.1)

    pub find_writable : {s room : ℕ} → s ≡ smallest_in kept 0 I → max_states ≤ room → Writable rows kept s d room 0
    unfolding table_on
    find_writable e l =
        rw e record {
          long = held.long;
          short = omega (arith, find_short);
          fits = l;
          states = λ i m.
              rw walk_is (omega (arith, smallest_below held.formed some.0 i (omega (arith, length-smallest t, some.1)), held.small));
        }

    pub find_some : (path : List ℕ) {path' : List ℕ} {s : ℕ} → s ≡ smallest_in kept 0 I → max_states ≤ length path
        → path' ≡ sets path 0 (walk_by rows kept 0 d s) → (Some d ≡ found_in t) × (path' ≡ path_written t path)
    unfolding path_written overwrite
    find_some path e l p =
        let xs = smallest_path t in
        let fits : 0 + length xs ≤ length path = omega (arith, length-smallest t, some.1, find_short) in
        (steps-is, p ∙ rw (e, walk_is, some.0, sets-eq xs path 0 fits, zero-add (length xs)))
