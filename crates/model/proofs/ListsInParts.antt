-- Laws of lists in parts, and of buffers written over.
--
--   part_front, part_behind                   a part of two lists joined: within the first, behind it
--   get_or_behind, get_or_past                    an element behind the first of two lists; past the end
--   div_below, mod_below                      a place in n lists of w elements: its list and its place there
--   Wide n w f                                the lists f 0, .., f (n − 1) have w elements each
--   length-concat, part-concat                such lists joined: the length, and one of them as a part
--   get_or-concat                               an element by its list and its place there
--   tabulate-next, concat-next                one more, for a loop; concat_cong: the same lists joined
--   concat_parts                              the parts of a list joined
--   length-overwrite, take-overwrite          a buffer written over: its length and its front; drop-overwrite: the rest
--   overwrite_front, overwrite_behind         its first elements, and those behind them
--   overwrite-append, overwrite-more          written over in two parts, the second where the buffer is lent from there on
--   overwrite-set                             one element more
--   sets-append                               one list written behind the other
use Prim.Native.Nat.{ℕ, zero, suc, ◌+◌, ◌*◌, ◌-◌, ◌/◌, ◌%◌, ◌≤◌, ◌<◌}
use native.Mathlib.Nat.{not-suc-le-zero, zero-mul, mul-zero, mul-suc, mul_comm, mul-le-mul_left, le_of_eq, div-lt_iff_lt-mul, mod-lt, eq-zero-or-pos, add-zero}
use native.Mathlib.Numerals.{add-one}
use native.Mathlib.Omega.{arith}
use mathlib.Core.Path.{◌≡◌, refl, sym, ap, ap₂, ◌∙◌, subst}
use mathlib.Core.Logic.{⊎_elim}
use mathlib.Core.List.{List, [], ◌∷◌, ◌++◌, append_assoc}
use lib.ListN.{set, length, get_or, take, drop, length-append, length-drop, get_or-append, get_or-eq_default}
use lib.Seq.{take_all, take_at, drop_at, take-append-le, drop-append-le, get_or-append-add, get_or-take, get_or-drop, drop-drop, take-add, drop-cons, set_at, sets}
use Rattle.basics.specs.Bounds.{tabulate, concat}
use Rattle.model.specs.Calls.{overwrite}
use Rattle.basics.proofs.BoundLaws.{below_suc}

-- ---- the part of w elements from `at` on

module _ (xs ys : List ℕ) where
  pub part_front : (at w : ℕ) → at + w ≤ length xs → take w (drop at (xs ++ ys)) ≡ take w (drop at xs)
  part_front at w h =
      ap (take w) (drop-append-le at xs ys (omega arith))
      ∙ take-append-le w (drop at xs) ys (omega (arith, length-drop at xs))

  pub part_behind : (n at w : ℕ) → length xs ≡ n → take w (drop (n + at) (xs ++ ys)) ≡ take w (drop at ys)
  part_behind n at w e = ap (λ zs. take w zs) (sym (drop-drop at n (xs ++ ys)) ∙ ap (drop at) (drop_at xs ys n e))

pub get_or_behind : (xs ys : List ℕ) (n i d : ℕ) → length xs ≡ n → get_or (xs ++ ys) (n + i) d ≡ get_or ys i d
get_or_behind xs ys n i d e = ap (λ (m : ℕ). get_or (xs ++ ys) (m + i) d) (sym e) ∙ get_or-append-add xs ys i d

pub get_or_past : {A : Type 0} (xs : List A) (i : ℕ) (d : A) → length xs ≤ i → get_or xs i d ≡ d
get_or_past xs i d h = get_or-eq_default xs d {n = i} h

-- ---- lists joined

-- a place in n lists of w elements, by its list and its place there
module _ (w n i : ℕ) (h : i < w * n) where
  wide_enough : 0 < w
  wide_enough =
      ⊎_elim (λ e. absurd (not-suc-le-zero (subst (λ (m : ℕ). i < m) (ap (λ (v : ℕ). v * n) e ∙ zero-mul n) h))) (λ l. l) (eq-zero-or-pos w)

  pub div_below : i / w < n
  div_below = (div-lt_iff_lt-mul wide_enough).1 (subst (λ (m : ℕ). i < m) (mul_comm w n) h)

  pub mod_below : i % w < w
  mod_below = mod-lt i wide_enough

abbrev pub Wide : ℕ → ℕ → (ℕ → List ℕ) → Type 0
Wide n w f = (k : ℕ) → k < n → length (f k) ≡ w

module _ (f : ℕ → List ℕ) (w : ℕ) where
  pub length-concat : (n : ℕ) → Wide n w f → length (concat n f) ≡ w * n
  unfolding concat
  length-concat zero wide = sym (mul-zero w)
  length-concat (suc n) wide =
      length-append (concat n f) (f n)
      ∙ ap₂ (λ (a b : ℕ). a + b) (length-concat n (λ k h. wide k (omega arith))) (wide n (omega arith))
      ∙ sym (mul-suc w n)

  pub part-concat : (n k : ℕ) → Wide n w f → k < n → take w (drop (w * k) (concat n f)) ≡ f k
  unfolding concat
  part-concat zero k wide h = absurd (not-suc-le-zero h)
  part-concat (suc n) k wide h =
      let rest : Wide n w f = λ j l. wide j (omega arith) in
      let long = length-concat n rest in
      ⊎_elim
      (λ e.
      ap (take w) (drop_at (concat n f) (f n) (w * k) (long ∙ ap (λ (j : ℕ). w * j) (sym e)))
      ∙ take_all w (f n) (le_of_eq (wide n (omega arith)))
      ∙ ap f (sym e))
      (λ l.
      part_front (concat n f) (f n) (w * k) w (omega (arith, mul-le-mul_left w l, mul-suc w k))
      ∙ part-concat n k rest l)
      (below_suc h)

  pub get_or-concat : (n k i d : ℕ) → Wide n w f → k < n → i < w → get_or (concat n f) (w * k + i) d ≡ get_or (f k) i d
  get_or-concat n k i d wide h l =
      sym (get_or-drop (w * k) (concat n f) i d)
      ∙ sym (get_or-take w (drop (w * k) (concat n f)) i d l)
      ∙ ap (λ (xs : List ℕ). get_or xs i d) (part-concat n k wide h)

pub tabulate-next : {A : Type 0} (f : ℕ → A) (n : ℕ) → tabulate (n + 1) f ≡ tabulate n f ++ (f n ∷ [])
unfolding tabulate
tabulate-next f n = ap (λ (m : ℕ). tabulate m f) (add-one n)

pub concat-next : (f : ℕ → List ℕ) (n : ℕ) → concat (n + 1) f ≡ concat n f ++ f n
unfolding concat
concat-next f n = ap (λ (m : ℕ). concat m f) (add-one n)

pub concat_cong : (f g : ℕ → List ℕ) (n : ℕ) → ((k : ℕ) → k < n → f k ≡ g k) → concat n f ≡ concat n g
unfolding concat
concat_cong f g zero e = refl
concat_cong f g (suc n) e = ap₂ (λ xs ys. xs ++ ys) (concat_cong f g n (λ k h. e k (omega arith))) (e n (omega arith))

-- the n parts of w elements from `at` on
pub concat_parts : (xs : List ℕ) (at w n : ℕ) → concat n (λ k. take w (drop (at + w * k) xs)) ≡ take (w * n) (drop at xs)
unfolding concat
concat_parts xs at w zero = ap (λ (m : ℕ). take m (drop at xs)) (sym (mul-zero w))
concat_parts xs at w (suc n) =
    ap₂ (λ ys zs. ys ++ zs) (concat_parts xs at w n) (ap (take w) (sym (drop-drop (w * n) at xs)))
    ∙ sym (take-add (w * n) w (drop at xs))
    ∙ ap (λ (m : ℕ). take m (drop at xs)) (sym (mul-suc w n))

-- ---- a buffer written over

module _ (xs old : List ℕ) where
  pub length-overwrite : length xs ≤ length old → length (overwrite xs old) ≡ length old
  unfolding overwrite
  length-overwrite h = length-append xs (drop (length xs) old) ∙ omega (arith, length-drop (length xs) old)

  pub take-overwrite : (n : ℕ) → length xs ≡ n → take n (overwrite xs old) ≡ xs
  unfolding overwrite
  take-overwrite n e = take_at xs (drop (length xs) old) n e

  pub drop-overwrite : (n : ℕ) → length xs ≡ n → drop n (overwrite xs old) ≡ drop n old
  unfolding overwrite
  drop-overwrite n e = drop_at xs (drop (length xs) old) n e ∙ ap (λ (m : ℕ). drop m old) e

  pub overwrite_front : (i d : ℕ) → i < length xs → get_or (overwrite xs old) i d ≡ get_or xs i d
  unfolding overwrite
  overwrite_front i d h = get_or-append xs (drop (length xs) old) d i h

  pub overwrite_behind : (i d : ℕ) → length xs ≤ i → get_or (overwrite xs old) i d ≡ get_or old i d
  unfolding overwrite
  overwrite_behind i d h =
      let r = i - length xs in
      let place : length xs + r ≡ i = omega arith in
      ap (λ (j : ℕ). get_or (overwrite xs old) j d) (sym place)
      ∙ get_or-append-add xs (drop (length xs) old) r d
      ∙ get_or-drop (length xs) old r d
      ∙ ap (λ (j : ℕ). get_or old j d) place

  pub overwrite-append : (ys : List ℕ) → overwrite (xs ++ ys) old ≡ xs ++ overwrite ys (drop (length xs) old)
  unfolding overwrite
  overwrite-append ys =
      append_assoc xs ys (drop (length (xs ++ ys)) old)
      ∙ ap (λ zs. xs ++ (ys ++ zs)) (ap (λ (m : ℕ). drop m old) (length-append xs ys) ∙ sym (drop-drop (length ys) (length xs) old))

  -- a buffer lent from where xs end on, and written over there
  pub overwrite-more : (ys : List ℕ) (n : ℕ) → length xs ≡ n → take n (overwrite xs old) ++ overwrite ys (drop n (overwrite xs old)) ≡ overwrite (xs ++ ys) old
  unfolding overwrite
  overwrite-more ys n e =
      ap₂ (λ front rest. front ++ overwrite ys rest) (take-overwrite n e) (drop_at xs (drop (length xs) old) n e)
      ∙ sym (overwrite-append ys)

  -- one element more
  pub overwrite-set : (x n : ℕ) → length xs ≡ n → n < length old → set (overwrite xs old) n x ≡ overwrite (xs ++ (x ∷ [])) old
  unfolding overwrite
  overwrite-set x n e h =
      let rest : drop (length xs) old ≡ get_or old (length xs) 0 ∷ drop (suc (length xs)) old = drop-cons old (length xs) 0 (omega arith) in
      ap (λ zs. set (xs ++ zs) n x) rest
      ∙ set_at xs (get_or old (length xs) 0) (drop (suc (length xs)) old) x n e
      ∙ sym (overwrite-append (x ∷ []) ∙ ap (λ zs. xs ++ overwrite (x ∷ []) zs) rest)

pub sets-append : {A : Type 0} (l : List A) (i : ℕ) (xs ys : List A) → sets l i (xs ++ ys) ≡ sets (sets l i xs) (i + length xs) ys
sets-append l i [] ys = ap (λ (k : ℕ). sets l k ys) (sym (add-zero i))
sets-append l i (x ∷ xs) ys =
    let e : suc i + length xs ≡ i + suc (length xs) = omega arith in
    sets-append _ (suc i) xs ys ∙ ap (λ (k : ℕ). sets (sets l i (x ∷ xs)) k ys) e
