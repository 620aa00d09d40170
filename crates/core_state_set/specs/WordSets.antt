-- Sets word by word, for loops that go through the bits of one word after the other.
--
--   ones_in w X        the ones in the first w words of X, summed (in all its words they are the states: `theorems_calls`, States)
--   word_set w x       the states of word w that x has a bit for
--   words_above w X    the states of X in the words after w
--   left_of w x X      what is left of X where it is gone through up to word w, of which x is left
--   Takes Y s Z        the least state s is taken from Y, which leaves Z; nothing is taken from no states
use Rattle.std.specs.Prelude.{ℕ, zero, suc, ◌≡◌, ◌+◌, ◌/◌, ◌%◌, true, ◌&&◌, ◌∷◌, Option, Some, None, eqb, ltb, get_or}
use Rattle.std.specs.Int.Count.{ones}
use Rattle.model.specs.Sets.{Set, bit, member, empty, single, union, difference, set_of, members}

unfoldable pub ones_in : ℕ → Set → ℕ
ones_in zero X = 0
ones_in (suc w) X = ones_in w X + ones (get_or X w 0)

unfoldable pub word_set : ℕ → ℕ → Set
word_set w x = set_of (λ s. eqb (s / 64) w && bit x (s % 64))

unfoldable pub words_above : ℕ → Set → Set
words_above w X = set_of (λ s. ltb w (s / 64) && member X s)

abbrev pub left_of : ℕ → ℕ → Set → Set
left_of w x X = union (word_set w x) (words_above w X)

abbrev pub Takes : Set → Option ℕ → Set → Type 0
Takes Y None Z = (Y ≡ empty) × (Z ≡ empty)
Takes Y (Some s) Z = (member Y s ≡ true) × (Z ≡ difference Y (single s)) × (members Y ≡ s ∷ members Z)
