-- Laws of rows of lanes.
--
--   Adding, add_none, add-more, add-all    a loop that adds a row to another in place; add-fits: what it adds fits a lane
--   get_or-plus, get_or-chunk                  a lane of two rows added, and of the bytes of a chunk
--   most_chunk, -zero, -plus, -up          no lane has more than so much: of bytes, at first, of two rows added, or than a greater number
use Prim.Native.Nat.{ℕ, ◌+◌, ◌^◌, ◌≤◌, ◌<◌}
use native.Mathlib.Omega.{arith}
use mathlib.Core.Path.{◌≡◌, ap, ap₂, ◌∙◌}
use mathlib.Core.List.{List, ◌++◌, append-nil}
use lib.ListN.{length, get_or, set, take, drop, replicate, length-drop, length-replicate, get_or-replicate, drop_of_length-le}
use lib.Seq.{length-take-le, get_or-take, get_or-drop}
use Rattle.basics.specs.Bounds.{tabulate}
use Rattle.model.specs.Calls.{overwrite}
use Rattle.basics.proofs.BoundLaws.{length-tabulate, get_or-tabulate}
use Rattle.model.proofs.ListsInParts.{overwrite_behind}
use Rattle.file_blocks.specs.Lanes.{lanes, byte_most, plus, Most}
use Rattle.core_table.proofs.ListsOverwritten.{Over, over_none, over_next, over_all}

-- ---- a row added to another

abbrev both : List ℕ → List ℕ → ℕ → ℕ
both xs ys l = get_or xs l 0 + get_or ys l 0

pub record Adding (xs ys out : List ℕ) (i : ℕ) : Type 0 where
  pub within : i ≤ lanes
  pub over : Over (tabulate i (both xs ys)) xs out

pub add_none : (xs ys : List ℕ) → Adding xs ys xs 0
add_none xs ys = record { within = omega arith; over = over_none _ xs }

module _ {xs ys out : List ℕ} {i : ℕ} (so : Adding xs ys out i) where
  -- a lane that is not passed yet
  ahead : get_or out i 0 ≡ get_or xs i 0
  ahead = ap (λ zs. get_or zs i 0) so.over.is ∙ overwrite_behind _ xs i 0 (omega (arith, length-tabulate (both xs ys) i))

  pub add-fits : {m n y : ℕ} → Most m xs → i < lanes → y ≤ n → m + n < 2 ^ 16 → get_or out i 0 + y < 2 ^ 16
  add-fits most h l fits = omega (arith, ahead, most.each i h)

  pub add-more : {y : ℕ} → i < lanes → length xs ≡ lanes → y ≡ get_or ys i 0 → Adding xs ys (set out i (get_or out i 0 + y)) (i + 1)
  add-more h long e =
      record {
        within = omega arith;
        over = over_next _ xs out i (omega (arith, long)) (ap₂ (λ (a b : ℕ). a + b) ahead e) so.over;
      }

  pub add-all : length xs ≡ lanes → lanes ≤ i → out ≡ plus xs ys
  unfolding plus overwrite
  add-all long h =
      let all = tabulate lanes (both xs ys) in
      let past : length xs ≤ length all = omega (arith, long, length-tabulate (both xs ys) lanes) in
      over_all (λ k. tabulate k (both xs ys)) xs out i lanes so.within h so.over
      ∙ ap (λ zs. all ++ zs) (drop_of_length-le xs past)
      ∙ append-nil all

-- ---- rows added

pub get_or-plus : (xs ys : List ℕ) (l : ℕ) → l < lanes → get_or (plus xs ys) l 0 ≡ get_or xs l 0 + get_or ys l 0
unfolding plus
get_or-plus xs ys l h = get_or-tabulate _ lanes l 0 h

pub get_or-chunk : (block : List ℕ) (from l : ℕ) → l < lanes → get_or (take lanes (drop from block)) l 0 ≡ get_or block (from + l) 0
get_or-chunk block from l h = get_or-take lanes (drop from block) l 0 h ∙ get_or-drop from block l 0

pub most_chunk : (block : List ℕ) (from : ℕ) → from + lanes ≤ length block → ((i : ℕ) → get_or block i 0 < 2 ^ 8) → Most byte_most (take lanes (drop from block))
most_chunk block from fits byte =
    record {
      long = length-take-le lanes (drop from block) (omega (arith, length-drop from block));
      each = λ l h. omega (arith, get_or-chunk block from l h, byte (from + l));
    }

pub most_zero : Most 0 (replicate lanes 0)
most_zero = record { long = length-replicate {A = ℕ} lanes 0; each = λ l h. omega (arith, get_or-replicate {A = ℕ} lanes l 0 0 h) }

pub most-plus : {a b m : ℕ} {xs ys : List ℕ} → Most a xs → Most b ys → a + b ≤ m → Most m (plus xs ys)
unfolding plus
most-plus {xs = xs} {ys = ys} p q h = record { long = length-tabulate _ lanes; each = λ l k. omega (arith, get_or-plus xs ys l k, p.each l k, q.each l k) }

pub most_up : {a b : ℕ} {xs : List ℕ} → Most a xs → a ≤ b → Most b xs
most_up p h = record { long = p.long; each = λ l k. omega (arith, p.each l k) }
