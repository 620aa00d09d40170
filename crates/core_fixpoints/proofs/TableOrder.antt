-- The order over the rows and the cover, which `forward` gives, is that of the table.
--
--   order_is     the theorem: the passes agree, and after n of them nothing joins
use Prim.Native.Nat.{ℕ, ◌≤◌}
use mathlib.Core.Path.{◌≡◌, refl, sym, ap, ◌∙◌}
use mathlib.Core.List.{List}
use Rattle.model.specs.Sets.{max_states, Set, meet, members, first_states}
use Rattle.model.specs.Tables.{Table}
use Rattle.model.proofs.ListsInParts.{concat_cong}
use Rattle.model.proofs.SetsMembers.{◌⊆◌, meet_in, difference_in}
use Rattle.core_rows.proofs.RowsLent.{HasRows}
use Rattle.core_fixpoints.specs.Steps.{covers, cover_by, forward_by, IsCover}
use Rattle.core_fixpoints.specs.Order.{Pass, pass_at, order_of, first_pass, later_pass, forward_order, first_pass_by, later_pass_by, order_by}
use Rattle.core_fixpoints.proofs.Bridge.{cover_by-is, successors_by-is, cover_by-within, forward_by_proper, forward-least}
use Rattle.core_fixpoints.proofs.Passes.{pass_before, fixed_done, order_still, pass_at_cong}
use Rattle.core_fixpoints.proofs.Expanding.{forward-none, forward-more}

module _ (t : Table) (rows : List ℕ) (has : HasRows t rows) (few : t.n ≤ max_states) (L : List Set) (Z : Set) (within : Z ⊆ first_states t.n) where
  abbrev cover : List Set
  cover = covers t.n L

  abbrev is-cover : IsCover cover
  is-cover = record { n = t.n; list = L; is = refl }

  -- the first pass, what joins by a pass, and R's step
  abbrev first : Set
  first = first_pass_by cover t.initial Z

  abbrev joined : Set → Set
  joined = later_pass_by rows cover Z

  abbrev step : Set → Set
  step = forward_by rows cover t.initial Z

  agree : (k : ℕ) → (pass_at first joined k ≡ pass_at (first_pass t L Z) (later_pass t L Z) k) × ((pass_at first joined k).frontier ⊆ first_states t.n)
  unfolding first_pass later_pass
  agree =
      pass_at_cong (λ X. X ⊆ first_states t.n) first _ joined _
      (cover_by-is t.n L _ (λ s h. within s (meet_in h).0)) (cover_by-within cover is-cover _)
      (λ X j. ap (λ (Y : Set). cover_by cover (meet Z Y)) (successors_by-is t rows has X j) ∙ cover_by-is t.n L _ (λ s h. within s (meet_in h).0))
      (λ X Y s h. cover_by-within cover is-cover _ s (difference_in h).0)

  pub order_is : order_by rows cover t.initial Z ≡ forward_order t L Z
  unfolding order_by forward_order order_of
  order_is =
      let proper = forward_by_proper rows cover t.initial Z in
      let none = forward-none rows cover t.initial Z in
      let more = forward-more rows cover t.initial Z in
      let at_n = pass_before first joined step proper none more t.n in
      order_still first joined step proper none more t.n
      (fixed_done first joined step proper none more t.n
      (ap step at_n ∙ sym (forward-least rows cover is-cover t.initial Z).solves ∙ sym at_n))
      max_states few
      ∙ concat_cong _ _ t.n (λ k h. ap (λ (l : Pass). members l.frontier) (agree k).0)
