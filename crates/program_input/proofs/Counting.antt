-- How much of a buffer was read.
--
--   counts          a number within a buffer counts bytes at its start
--   text-within     the text of an input lies within the room
--   put_bytes       what is put for a text, and put_nothing: for none
--   put_by          what one puts for an input, by what another one does
use Prim.Native.Nat.{ℕ, ◌≤◌}
use native.Mathlib.Omega.{arith}
use mathlib.Core.Path.{◌≡◌, sym, ◌∙◌, subst}
use mathlib.Core.List.{List}
use lib.ListN.{length, take}
use lib.Seq.{length-take-le}
use Rattle.program_input.specs.declared.Input.{Input}
use Rattle.program_input.specs.declared.Input.TheVariants.{Ended, Full, Failed}
use Rattle.std.specs.Prelude.{Option, Some, None}
use Rattle.program_input.specs.Reads.{Within, text_of, ForText, some, none}

-- The first n bytes of xs are n bytes.
abbrev pub IsPrefixLen : ℕ → List ℕ → Type 0
IsPrefixLen n xs = (n ≤ length xs) × (n ≡ length (take n xs))

pub counts : (n : ℕ) (xs : List ℕ) → n ≤ length xs → IsPrefixLen n xs
counts n xs h = (h, sym (length-take-le n xs h))

bytes-within : (read : Input) (room : ℕ) {k : ℕ} → Within read room → text_of read room ≡ Some k → k ≤ room
bytes-within (Ended j) room {k} h e = let same : j ≡ k = cc in omega arith
bytes-within Full room {k} h e = let same : room ≡ k = cc in omega arith
bytes-within Failed room h e = let z : ◌≡◌ {A = ℕ} 0 1 = cc in absurd (omega arith)

module _ {t : Option ℕ} (read : Input) (room : List ℕ) (e : t ≡ text_of read (length room)) where
  pub text-within : {k : ℕ} → Within read (length room) → t ≡ Some k → IsPrefixLen k room
  text-within h b = counts _ room (bytes-within read (length room) h (sym e ∙ b))

  module _ (Put : List ℕ → ℕ → Type 0) where
    pub put_bytes : {k end : ℕ} → t ≡ Some k → Put (take k room) end → ForText Put (text_of read (length room)) room (Some end)
    put_bytes {k} {end} b p = subst (λ (x : Option ℕ). ForText Put x room (Some end)) (sym b ∙ e) (some p)

    pub put_nothing : t ≡ None → ForText Put (text_of read (length room)) room None
    put_nothing b = subst (λ (x : Option ℕ). ForText Put x room None) (sym b ∙ e) none

pub put_by : {Put Other : List ℕ → ℕ → Type 0} {t r : Option ℕ} {room : List ℕ} → ((xs : List ℕ) (end : ℕ) → Other xs end → Put xs end)
    → ForText Other t room r → ForText Put t room r
put_by f (some p) = some (f _ _ p)
put_by f none = none
