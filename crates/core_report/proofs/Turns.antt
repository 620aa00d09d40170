-- What a turn of a loop adds to the list that it has put so far.
--
--   take_more                  one element more of a list
--   spaced-append              two lists of numbers, each number after a space
--   Putting X Y a b            of the states of X all but those of Y are put: none of them; one more, and room for it; all
use Prim.Native.Nat.{ℕ, ◌+◌, ◌*◌, ◌<◌}
use native.Mathlib.Numerals.{add-one}
use native.Mathlib.Omega.{arith}
use mathlib.Core.Path.{◌≡◌, refl, sym, ap, ◌∙◌}
use mathlib.Core.List.{List, [], ◌∷◌, ◌++◌, append_assoc, append-nil}
use lib.ListN.{length, take, get_or, length-append}
use lib.Seq.{take-suc}
use Rattle.std.specs.Prelude.{Some, None}
use Rattle.model.specs.Sets.{max_states, Set, members, size}
use Rattle.model.proofs.SetsMembers.{empty_in}
use Rattle.model.proofs.SetsCounted.{size-most}
use Rattle.core_state_set.specs.WordSets.{Takes}
use Rattle.core_state_set.proofs.SetsStates.{members-none}
use Rattle.core_report.specs.declared.Report.{Report}
use Rattle.core_report.specs.Text.{ascii, decimal, spaced}
use Rattle.core_report.specs.Put.{spaced_bytes, Room, Put}
use Rattle.core_report.proofs.TextsPut.{put_none, put_then, put_most}

pub take_more : (xs : List ℕ) (i : ℕ) → i < length xs → take (i + 1) xs ≡ take i xs ++ (get_or xs i 0 ∷ [])
take_more xs i h = rw add-one (take-suc xs i 0 h)

pub spaced-append : (xs ys : List ℕ) → spaced (xs ++ ys) ≡ spaced xs ++ spaced ys
unfolding spaced
spaced-append [] ys = refl
spaced-append (x ∷ xs) ys =
    let number = ascii " " ++ decimal x in
    ap (λ (zs : List ℕ). number ++ zs) (spaced-append xs ys) ∙ sym (append_assoc number (spaced xs) (spaced ys))

-- ---- the states of X: those that are left are Y

pub record Putting (X Y : Set) (before after : Report) : Type 0 where
  pub done : List ℕ
  pub parts : members X ≡ done ++ members Y
  pub put : Put (spaced_bytes * length done) (spaced done) before after

pub putting_none : (X : Set) (report : Report) → Putting X X report report
unfolding spaced
putting_none X report = record { done = []; parts = refl; put = put_none report }

pub putting_room : {X Y Z : Set} {s : ℕ} {a b : Report} → Putting X Y a b → Takes Y (Some s) Z → Room (spaced_bytes * max_states) a → Room spaced_bytes b
unfolding size
putting_room {X} {Y} {Z} {s} p taken room =
    let parts = p.parts ∙ ap (λ (xs : List ℕ). p.done ++ xs) taken.2 in
    omega (arith, ap length parts, length-append p.done (s ∷ members Z), size-most X)

pub putting_turn : {X Y Z : Set} {s : ℕ} {a b c : Report} → Putting X Y a b → Takes Y (Some s) Z → Put spaced_bytes (spaced (s ∷ [])) b c → Putting X Z a c
putting_turn {X} {Y} {Z} {s} p taken q =
    record {
      done = p.done ++ (s ∷ []);
      parts = p.parts ∙ ap (λ (xs : List ℕ). p.done ++ xs) taken.2 ∙ sym (append_assoc p.done (s ∷ []) (members Z));
      put = rw (spaced-append, length-append) (put_most (omega arith) (put_then p.put q));
    }

pub putting_end : {X Y Z : Set} {a b : Report} → Putting X Y a b → Takes Y None Z → Put (spaced_bytes * max_states) (spaced (members X)) a b
unfolding size
putting_end {X} {Y} p taken =
    let none : members Y ≡ [] = rw taken.0 (members-none (λ s e. empty_in e)) in
    let all : members X ≡ p.done = p.parts ∙ ap (λ (xs : List ℕ). p.done ++ xs) none ∙ append-nil p.done in
    rw all (put_most (omega (arith, size-most X, ap length all)) p.put)
