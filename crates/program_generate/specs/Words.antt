-- The program's words: what each says as a number.
--
--   is_digit b, is_number w     a digit; a decimal number: at least one byte, and each a digit
--   value_of w i               the number that the first i digits of w write
--   limit                     2^32: a seed is below it, and a larger number is taken for it
--   word_of w                  the number that w writes, or none
use Rattle.std.specs.Prelude.{ℕ, zero, suc, ◌+◌, ◌*◌, ◌-◌, min, Bool, cond, not, ◌&&◌, List, Option, Some, None, eqb, leb, length, get_or}
use Rattle.basics.specs.Bounds.{all}

unfoldable pub is_digit : ℕ → Bool
is_digit b = leb 48 b && leb b 57

unfoldable pub is_number : List ℕ → Bool
is_number w = not (eqb (length w) 0) && all (length w) (λ i. is_digit (get_or w i 0))

unfoldable pub value_of : List ℕ → ℕ → ℕ
value_of w zero = 0
value_of w (suc i) = 10 * value_of w i + (get_or w i 0 - 48)

abbrev pub limit : ℕ
limit = 4294967296

-- Every number from the limit up is no seed, no number of states and no fan-out.
unfoldable pub word_of : List ℕ → Option ℕ
word_of w = cond (is_number w) (Some (min limit (value_of w (length w)))) None
