-- Sentences about sets and dialogues, of all of them. `StatesKept.states` proves it.
--
--   States     a set is known by its states, and the ones in its words are their number; which states of a dialogue are forbidden
use Rattle.std.specs.Prelude.{ℕ, ◌^◌, ◌<◌, ◌≡◌, Bool, length}
use Rattle.model.specs.Sets.{WORDS, max_states, Set, member, set_of, size}
use Rattle.model.specs.Tables.{Dialogue}
use Rattle.model.specs.RoundTrip.{Bounded}
use Rattle.model.specs.Resting.{ForbiddenIs}
use Rattle.core_state_set.specs.WordSets.{ones_in}

pub record States : Type 0 where
  -- the set of the states that pass a test
  pub members : (p : ℕ → Bool) (s : ℕ) → s < max_states → member (set_of p) s ≡ p s
  -- of sets of eight 64-bit words: two that hold the same states are the same, and the number of states is the number of ones in the words
  pub known : (X Y : Set) → length X ≡ WORDS → length Y ≡ WORDS → Bounded (2 ^ 64) X → Bounded (2 ^ 64) Y
      → ((s : ℕ) → s < max_states → member X s ≡ member Y s) → X ≡ Y
  pub ones : (X : Set) → length X ≡ WORDS → Bounded (2 ^ 64) X → size X ≡ ones_in WORDS X
  -- of every dialogue: marked, or without a successor and not resting
  pub forbidden : (d : Dialogue) → ForbiddenIs d
