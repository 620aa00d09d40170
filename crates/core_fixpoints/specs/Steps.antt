-- The steps of R and S as the code takes them: over the rows of a table as they are lent, and the cover in an array.
--
--   covers n L              the cover of each state for the list L
--   cover_by cover X         the cover of X
--   forward_by, backward_by   R's step and S's step
--   steps_by_word rows X      for each word of a set the successors of the states that X has in it
--   IsCover cover           it has the cover of each state for some list of sets
--   Leads rows steps X Y    every step from a state of X leads into Y, and into what `steps` has for the state's word
--   Prepared rows steps cover      what a round is given: a cover, and what the states of the table step to, word by word
use Rattle.std.specs.Prelude.{ℕ, ◌/◌, ◌≡◌, List, [], get_or}
use Rattle.basics.specs.Bounds.{tabulate}
use Rattle.model.specs.Sets.{WORDS, max_states, Set, union, meet, image, first_states}
use Rattle.model.specs.WellFormed.{In, ◌⊆◌}
use Rattle.model.specs.Tables.{cover_of}
use Rattle.core_state_set.specs.WordSets.{word_set}
use Rattle.core_rows.specs.Rows.{row_in, successors_by, meet_hold}

unfoldable pub covers : ℕ → List Set → List Set
covers n L = tabulate max_states (cover_of n L)

unfoldable pub cover_by : List Set → Set → Set
cover_by cover X = image max_states (λ s. get_or cover s []) X

unfoldable pub forward_by : List ℕ → List Set → Set → Set → Set → Set
forward_by rows cover initial Z X = cover_by cover (meet Z (union initial (successors_by rows X)))

unfoldable pub backward_by : List ℕ → List Set → Set → Set → Set
backward_by rows cover R X = cover_by cover (meet_hold rows R X)

unfoldable pub steps_by_word : List ℕ → Set → List Set
steps_by_word rows X = tabulate WORDS (λ w. successors_by rows (word_set w (get_or X w 0)))

pub record IsCover (cover : List Set) : Type 0 where
  pub n : ℕ
  pub list : List Set
  pub is : cover ≡ covers n list

pub record Leads (rows : List ℕ) (steps : List Set) (X Y : Set) : Type 0 where
  pub into : (s : ℕ) → In X s → row_in rows s ⊆ Y
  pub by_word : (s : ℕ) → In X s → row_in rows s ⊆ get_or steps (s / 64) []

pub record Prepared (rows : List ℕ) (steps cover : List Set) : Type 0 where
  pub is-cover : IsCover cover
  pub steps_are : steps ≡ steps_by_word rows (first_states is-cover.n)
