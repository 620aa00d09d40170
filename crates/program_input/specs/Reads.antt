-- What reading means.
--
--   number_read    what a read gave, as the number that C's read returns for it
--   after_read     the state of reading after one read: by how many bytes are there, how many the room has, and the number that C's read returned
--   OneRead       one read, of which no byte that is there is lost
--   Within        what reading a whole input may answer, in a room of so many bytes
--   text_of        which bytes of the room are the input's text, by how reading ended
--   Puts          what a call gives that is lent a text and a place: a number, and what it leaves there
--   ForText       what is put for an input: for a text, of its bytes and a length; for no text nothing
--
-- No contract says what C's read returns on which input, nor which bytes it puts into the room. So `Within` is what holds for every run of reads;
-- that the answer is the one for the reads that were made is tested (tests/programs, tests/input).
use Rattle.std.specs.Prelude.{ℕ, zero, suc, ◌+◌, ◌<◌, cond, ◌≡◌, List, eqb, ltb, ℤ, pos, negsuc, length, take, Option, Some, None, Result, Ok, Err}
use Rattle.std.specs.Borrow.{Bor, MutBor}
use Rattle.std.specs.declared.ops.ControlFlow.{ControlFlow}
use Rattle.std.specs.declared.ops.ControlFlow.TheVariants.{Continue, Break}
use Rattle.program_input.specs.declared.Input.{Input}
use Rattle.program_input.specs.declared.Input.TheVariants.{Ended, Full, Failed}

abbrev pub number_read : {E : Type 0} → Result ℕ E → ℤ
number_read (Ok n) = pos n
number_read (Err e) = negsuc 0

-- Below 0 it failed, 0 is the end of the input, and from 1 up it is a number of bytes, which C's read keeps within the room.
unfoldable pub after_read : ℕ → ℕ → ℤ → ControlFlow Input ℕ
after_read there room (negsuc k) = Break Failed
after_read there room (pos zero) = Break (Ended there)
after_read there room (pos (suc k)) =
    let total = there + suc k in
    cond (ltb total room) (Continue total) (cond (eqb total room) (Break Full) (Break Failed))

-- The state is the one that follows from what C's read returned.
pub record OneRead (there : ℕ) (before : List ℕ) (r : ControlFlow Input ℕ) (after : List ℕ) : Type 0 where
  pub got : ℤ
  pub state : r ≡ after_read there (length before) got
  pub kept : take there after ≡ take there before
  pub long : length after ≡ length before

-- An input that ended did so before the room was full, and a read failed only where there was room to read into. A room of no bytes is full.
abbrev pub Within : Input → ℕ → Type 0
Within (Ended k) room = k < room
Within Full room = Unit {0}
Within Failed room = 0 < room

abbrev pub text_of : Input → ℕ → Option ℕ
text_of (Ended k) room = Some k
text_of Full room = Some room
text_of Failed room = None

-- `Gives` says it of references, as `F.post` does; this is of what they show.
pub record Puts {T : Type 0} (Gives : Bor (List ℕ) → MutBor T → ℕ → MutBor T → Type 0) (text : List ℕ) (before : T) (end : ℕ) (after : T) : Type 0 where
  pub shown : Bor (List ℕ)
  pub lent : MutBor T
  pub left : MutBor T
  pub gave : Gives shown lent end left
  pub shows : shown.now ≡ text
  pub lends : lent.now ≡ before
  pub leaves : left.now ≡ after

-- No text is told from every text: neither is answered for the other.
pub data ForText (Put : List ℕ → ℕ → Type 0) : Option ℕ → List ℕ → Option ℕ → Type 0 where
  some : {k end : ℕ} {room : List ℕ} → Put (take k room) end → ForText Put (Some k) room (Some end)
  none : {room : List ℕ} → ForText Put None room None
