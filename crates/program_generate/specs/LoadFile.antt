-- What the program writes for a seed, n and f.
--
--   file_made n f           the length of the file, or the refusal of generate, which is lent a store that is long enough
--   file_buffer seed n f    the file of the table that the seed gives, for site 0, at the front of a buffer
use Rattle.std.specs.Prelude.{ℕ, List}
use Rattle.basics.specs.Refusals.{Answered, answer, unless_refused}
use Rattle.model.specs.Stores.{store_words}
use Rattle.model.specs.Contents.{new_form}
use Rattle.model.specs.Files.{file_length, file_of}
use Rattle.model.specs.Calls.{overwrite}
use Rattle.call_generate.specs.Load.{load, generate_grounds}

unfoldable pub file_made : ℕ → ℕ → Answered ℕ
file_made n f = answer (generate_grounds n f store_words) (file_length new_form n 0)

unfoldable pub file_buffer : ℕ → ℕ → ℕ → List ℕ → List ℕ
file_buffer seed n f out = unless_refused out (λ l. overwrite (file_of new_form 0 (load seed n f)) out) (file_made n f)
