-- Laws of the places of sets in the store.
--
--   by_place                           where set k of a file stands, by cases: before the groups, among them, or among the rows
--   head_place, group_place, row-place so it is what the code works out in each case
use Prim.Native.Nat.{ℕ, ◌+◌, ◌*◌, ◌-◌, ◌≤◌, ◌<◌}
use native.Mathlib.Omega.{arith}
use mathlib.Core.Path.{◌≡◌}
use borrow.Author.Tests.{ltb-true, ltb-false}
use lib.Dec.{ltb}
use Rattle.model.specs.Sets.{WORDS}
use Rattle.model.specs.Stores.{head_sets, group_at, row_at}
use Rattle.basics.proofs.BoundLaws.{by_cond}
use Rattle.file_contents_writing.specs.Placed.{place_of}

module _ (g k : ℕ) where
  pub by_place : (P : ℕ → Type 0) → (k < head_sets → P (WORDS * k)) → (head_sets ≤ k → k < head_sets + g → P (group_at (k - head_sets)))
      → (head_sets + g ≤ k → P (row_at (k - (head_sets + g)))) → P (place_of g k)
  unfolding place_of
  by_place P head group row =
      by_cond P (ltb k (head_sets)) _ _
      (λ q. head (ltb-true k (head_sets) q))
      (λ q.
      by_cond P (ltb k (head_sets + g)) _ _
      (λ r. group (ltb-false k (head_sets) q) (ltb-true k (head_sets + g) r))
      (λ r. row (ltb-false k (head_sets + g) r)))

  module _ {p : ℕ} where
    pub head_place : k < head_sets → p ≡ WORDS * k → p ≡ place_of g k
    head_place h e = by_place (λ q. p ≡ q) (λ l. e) (λ l m. absurd (omega arith)) (λ l. absurd (omega arith))

    pub group_place : head_sets ≤ k → k < head_sets + g → p ≡ group_at (k - head_sets) → p ≡ place_of g k
    group_place h u e = by_place (λ q. p ≡ q) (λ l. absurd (omega arith)) (λ l m. e) (λ l. absurd (omega arith))

    pub row-place : head_sets + g ≤ k → p ≡ row_at (k - (head_sets + g)) → p ≡ place_of g k
    row-place h e = by_place (λ q. p ≡ q) (λ l. absurd (omega arith)) (λ l m. absurd (omega arith)) (λ l. e)
