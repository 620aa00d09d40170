-- What a round and the rounds come to, in the model's terms.
--
--   Concludes         what a round comes to, with R where it is safe, and the next Z where it is open
--   outcome_of r      how the rounds ended, as the model's outcome
use Rattle.std.specs.Prelude.{ℕ, ◌≡◌, Bool, true, false, List}
use Rattle.model.specs.Sets.{Set, union, subset}
use Rattle.model.specs.Rounds.{Outcome, safe, unsafe, undecided}
use Rattle.model.specs.Promises.{IsLeast, IsGreatest}
use Rattle.core_rows.specs.Rows.{successors_by, meet_hold}
use Rattle.core_fixpoints.specs.Steps.{forward_by, backward_by}
use Rattle.core_rounds.specs.declared.Conclusion.{Conclusion}
use Rattle.core_rounds.specs.declared.Conclusion.TheVariants.{Safe as ConcludesSafe, Unsafe as ConcludesUnsafe, Open}
use Rattle.core_rounds.specs.declared.Ending.{Ending}
use Rattle.core_rounds.specs.declared.Ending.TheVariants.{Safe as EndsSafe, Unsafe as EndsUnsafe, Undecided as EndsUndecided}

-- Step 2's test, then step 4's (Init is inside S).
unfoldable pub concludes : Bool → Bool → Set → Set → Conclusion
concludes true inside R next = ConcludesSafe (record { words = R })
concludes false true R next = Open (record { words = next })
concludes false false R next = ConcludesUnsafe

-- A round, over the rows and the cover.
pub record Concludes (rows : List ℕ) (cover : List Set) (initial Z : Set) (r : Conclusion) : Type 0 where
  pub R : Set
  pub S : Set
  pub R_least : IsLeast (forward_by rows cover initial Z) R
  pub S_greatest : IsGreatest (backward_by rows cover R) S
  pub conclusion : r ≡ concludes (subset (union initial (successors_by rows R)) Z) (subset initial S) R (meet_hold rows S S)

abbrev pub outcome_of : Ending → Outcome
outcome_of (EndsSafe i R) = safe i R.words
outcome_of (EndsUnsafe i) = unsafe i
outcome_of (EndsUndecided i) = undecided i
