-- Texts in a buffer: what the contracts of the functions that put them there say.
--
--   number_limit, number_bytes              numbers are of 16 bits, and take so many bytes at most; spaced_bytes: with the space before
--   text_room                              bytes that hold any report
--   Front text before end after           text stands at the front of the buffer, up to `end`, and the rest is as before
--   Room k report                          the report's buffer has room for k bytes more
--   Put most text before after            text, of at most so many bytes, is put behind the report that there was before: a piece of it
use Rattle.std.specs.Prelude.{ℕ, ◌+◌, ◌*◌, ◌≤◌, ◌≡◌, List, length}
use Rattle.std.proofs.lemmas.List.Edits.{sets as replacedFrom}
use Rattle.io.specs.Counts.{IsPrefixLen}
use Rattle.model.specs.Sets.{max_states}
use Rattle.model.specs.Calls.{overwrite}
use Rattle.core_report.specs.declared.Report.{Report}

abbrev pub number_limit : ℕ
number_limit = 65536

abbrev pub number_bytes : ℕ
number_bytes = 5

abbrev pub spaced_bytes : ℕ
spaced_bytes = 1 + number_bytes

-- What the states take, and more than enough for the rest.
abbrev pub text_room : ℕ
text_room = 1024 + spaced_bytes * max_states

pub record Front (text before : List ℕ) (end : ℕ) (after : List ℕ) : Type 0 where
  pub ends : end ≡ length text
  pub bytes : after ≡ overwrite text before
  pub within : IsPrefixLen end after  -- follows; it is what a caller needs to lend the text on

abbrev pub Room : ℕ → Report → Type 0
Room k report = report.at + k ≤ length report.out.now

pub record Put (most : ℕ) (text : List ℕ) (before after : Report) : Type 0 where
  pub short : length text ≤ most
  pub ends : after.at ≡ before.at + length text
  pub long : length after.out.now ≡ length before.out.now
  pub bytes : after.out.now ≡ replacedFrom before.out.now before.at text
  pub same_buffer : after.out.ghost_name ≡ before.out.ghost_name  -- it is still the buffer that was lent
