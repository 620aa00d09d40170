-- A buffer written over, part by part.
--
--   Over xs old out                  out is old with xs written over its front
--   over_none, over_next, over_all   a loop that writes f 0, f 1, ..: before its first turn; a turn; when it is done
--   tabulate-list                    the elements of a list are the list
--   over_list                        a loop that writes the elements of a list has written the list
--   zero_filled                      a buffer whose front was filled with 0
--   lent, back                       the rest of a buffer from a place on, which is lent; the buffer, with what came back in its place
--   lent_back                        a buffer whose rest was lent and written over
--   overwrite_lent                   so more is written behind what stands at the front
--   parts_none, parts_put, parts_all    a loop that writes the lists f 0, f 1, .. of w elements, each behind those before it; parts_more: in the rest, lent
use Prim.Native.Nat.{ℕ, ◌+◌, ◌*◌, ◌-◌, ◌≤◌, ◌<◌}
use native.Mathlib.Nat.{le_antisymm}
use native.Mathlib.Omega.{arith}
use mathlib.Core.Path.{◌≡◌, refl, sym, ap, ap₂, ◌∙◌, subst}
use mathlib.Core.List.{List, [], ◌∷◌, ◌++◌, append-nil}
use borrow.Rule.Slice.PartMut.{put_mid}
use lib.ListN.{replicate, length, get_or, set, take, drop, length-set, length-drop, drop_of_length-le}
use lib.Seq.{ext_get_or, take_all}
use Rattle.std.proofs.lemmas.List.{length-replicate, get_or-replicate}
use Rattle.basics.specs.Bounds.{tabulate, concat}
use Rattle.model.specs.Calls.{overwrite}
use Rattle.basics.proofs.BoundLaws.{length-tabulate, get_or-tabulate}
use Rattle.model.proofs.ListsInParts.{tabulate-next, Wide, length-concat, concat-next, overwrite-more, overwrite-set}
use Rattle.core_table.specs.Writing.{overwrite_from}

pub record Over (xs old out : List ℕ) : Type 0 where
  pub long : length out ≡ length old
  pub is : out ≡ overwrite xs old

module _ (f : ℕ → ℕ) (old : List ℕ) where
  pub over_none : Over (tabulate 0 f) old old
  unfolding tabulate overwrite
  over_none = record { long = refl; is = refl }

  pub over_next : (out : List ℕ) (i : ℕ) {x : ℕ} → i < length old → x ≡ f i → Over (tabulate i f) old out → Over (tabulate (i + 1) f) old (set out i x)
  over_next out i {x} h e w =
      record {
        long = length-set out i x ∙ w.long;
        is =
            ap (λ ys. set ys i x) w.is
            ∙ overwrite-set (tabulate i f) old x i (length-tabulate f i) h
            ∙ ap (λ ys. overwrite ys old) (ap (λ (y : ℕ). tabulate i f ++ (y ∷ [])) e ∙ sym (tabulate-next f i));
      }

pub over_all : (xs : ℕ → List ℕ) (old out : List ℕ) (i m : ℕ) → i ≤ m → m ≤ i → Over (xs i) old out → out ≡ overwrite (xs m) old
over_all xs old out i m l h w = w.is ∙ ap (λ (j : ℕ). overwrite (xs j) old) (le_antisymm l h)

pub tabulate-list : (xs : List ℕ) → tabulate (length xs) (λ j. get_or xs j 0) ≡ xs
tabulate-list xs =
    let long = length-tabulate (λ j. get_or xs j 0) (length xs) in
    ext_get_or 0 _ xs long (λ j b. get_or-tabulate (λ i. get_or xs i 0) (length xs) j 0 (subst (λ (k : ℕ). j < k) long b))

pub over_list : (xs : List ℕ) {old out : List ℕ} (i m : ℕ) → length xs ≡ m → i ≤ m → m ≤ i → Over (tabulate i (λ j. get_or xs j 0)) old out → out ≡ overwrite xs old
over_list xs {old} {out} i m long l h so =
    over_all (λ k. tabulate k (λ j. get_or xs j 0)) old out i m l h so
    ∙ ap (λ ys. overwrite ys old) (ap (λ (k : ℕ). tabulate k (λ j. get_or xs j 0)) (sym long) ∙ tabulate-list xs)

-- 0 in the place of the first n elements
pub zero_filled : (n : ℕ) (old part filling : List ℕ) → length part ≡ n → filling ≡ replicate (length part) 0
    → filling ++ drop n old ≡ overwrite (tabulate n (λ i. 0)) old
unfolding overwrite
zero_filled n old part filling long e =
    let made = length-tabulate (λ (i : ℕ). 0) n in
    let zeros : replicate n 0 ≡ tabulate n (λ i. 0) =
    ext_get_or 0 (replicate n 0) (tabulate n (λ i. 0)) (length-replicate n 0 ∙ sym made)
    (λ i h.
    let inside : i < n = subst (λ (k : ℕ). i < k) (length-replicate n 0) h in
    get_or-replicate n i 0 0 inside ∙ sym (get_or-tabulate (λ (j : ℕ). 0) n i 0 inside)) in
    ap₂ (λ ys (m : ℕ). ys ++ drop m old) (e ∙ ap (λ (k : ℕ). replicate k 0) long ∙ zeros) (sym made)

-- ---- the rest of a buffer, lent

abbrev pub lent : ℕ → List ℕ → List ℕ
lent at out = take (length out - at) (drop at out)

abbrev pub back : ℕ → List ℕ → List ℕ → List ℕ
back at out rest = take at out ++ (rest ++ drop (length out - at) (drop at out))

pub lent_back : (at : ℕ) (out rest xs : List ℕ) → rest ≡ overwrite xs (lent at out)
    → put_mid at (length out - at) out rest ≡ overwrite_from at xs out
unfolding overwrite_from
lent_back at out rest xs e =
    let all : length (drop at out) ≤ length out - at = omega (arith, length-drop at out) in
    ap (λ ys. take at out ++ ys)
    (ap₂ (λ ys zs. ys ++ zs)
    (e ∙ ap (overwrite xs) (take_all (length out - at) (drop at out) all))
    (drop_of_length-le (drop at out) {i = length out - at} all)
    ∙ append-nil (overwrite xs (drop at out)))

-- ys written behind xs
pub overwrite_lent : (xs ys old out rest : List ℕ) (n : ℕ) → length xs ≡ n → out ≡ overwrite xs old → rest ≡ overwrite ys (lent n out) → back n out rest ≡ overwrite (xs ++ ys) old
unfolding overwrite_from
overwrite_lent xs ys old out rest n long e f =
    lent_back n out rest ys f ∙ ap (λ zs. take n zs ++ overwrite ys (drop n zs)) e ∙ overwrite-more xs old ys n long

-- lists of w elements, each written behind those before it
module _ (f : ℕ → List ℕ) (old : List ℕ) where
  pub parts_none : Over (concat 0 f) old old
  unfolding concat overwrite
  parts_none = record { long = refl; is = refl }

  module _ {w k : ℕ} (wide : Wide k w f) {out : List ℕ} (so : Over (concat k f) old out) where
    pub parts_put : {next : List ℕ} → next ≡ overwrite_from (w * k) (f k) out → length next ≡ length out → Over (concat (k + 1) f) old next
    unfolding overwrite_from
    parts_put e long =
        record {
          long = long ∙ so.long;
          is =
              e
              ∙ ap (overwrite_from (w * k) (f k)) so.is
              ∙ overwrite-more (concat k f) old (f k) (w * k) (length-concat f w k wide)
              ∙ ap (λ xs. overwrite xs old) (sym (concat-next f k));
        }

    pub parts_more : (rest : List ℕ) → rest ≡ overwrite (f k) (lent (w * k) out) → length (back (w * k) out rest) ≡ length out
        → Over (concat (k + 1) f) old (back (w * k) out rest)
    parts_more rest e = parts_put (lent_back (w * k) out rest (f k) e)

  pub parts_all : (out : List ℕ) (k m : ℕ) → k ≤ m → m ≤ k → Over (concat k f) old out → out ≡ overwrite (concat m f) old
  parts_all = over_all (λ k. concat k f) old
