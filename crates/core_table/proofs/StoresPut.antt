-- Words put into a store from a place on (`overwrite_from`).
--
--   put_long, put_own, put_other     its length; what was put; any other word
--   put_apart                        a set that stands elsewhere
--   put_take, put_drop               its first words, and those behind them
--   put_next                         one word more
--   put_word                         one word of a set put through a function
--   Putting                          a loop that puts the elements of a list: putting_none, -more, -all: before its first turn, a turn, when it is done
use Prim.Native.Nat.{ℕ, ◌+◌, ◌-◌, ◌≤◌, ◌<◌}
use native.Mathlib.Nat.{le_antisymm, zero-add, suc-add}
use native.Mathlib.Omega.{arith}
use mathlib.Core.Path.{◌≡◌, refl, sym, ap, ap₂, ◌∙◌, subst}
use mathlib.Core.Logic.{◌⊎◌, inl, inr, ⊎_elim}
use mathlib.Core.List.{List, [], ◌∷◌, ◌++◌, append_assoc}
use lib.ListN.{length, get_or, set, take, drop, length-set, length-append, length-drop, take-append-drop, get_or-append}
use lib.Seq.{ext_get_or, length-take-le, take_at, drop_at, take-append-le, drop-append-le, get_or-take, get_or-drop, get_or-append-add, set-append_left}
use Rattle.basics.specs.Bounds.{tabulate}
use Rattle.model.specs.Sets.{WORDS, Set}
use Rattle.model.specs.Stores.{set_at}
use Rattle.model.specs.Calls.{overwrite}
use Rattle.basics.proofs.BoundLaws.{length-tabulate}
use Rattle.model.proofs.ListsInParts.{get_or_behind, tabulate-next, length-overwrite, overwrite-set}
use Rattle.model.proofs.StoresTables.{length-set_at, get_or-set_at}
use Rattle.core_table.specs.Writing.{overwrite_from}
use Rattle.core_table.proofs.ListsOverwritten.{tabulate-list}

-- ---- words put

set_behind : (xs ys : List ℕ) (n j v : ℕ) → length xs ≡ n → set (xs ++ ys) (n + j) v ≡ xs ++ set ys j v
set_behind xs ys n j v e = ap (λ (m : ℕ). set (xs ++ ys) (m + j) v) (sym e) ∙ behind xs
  where
    behind : (zs : List ℕ) → set (zs ++ ys) (length zs + j) v ≡ zs ++ set ys j v
    behind [] = ap (λ (k : ℕ). set ys k v) (zero-add j)
    behind (z ∷ zs) = ap (λ (k : ℕ). set (z ∷ (zs ++ ys)) k v) (suc-add (length zs) j) ∙ ap (λ ws. z ∷ ws) (behind zs)

-- the same words at a place
set_at-same : (xs ys : List ℕ) (at : ℕ) → at + WORDS ≤ length xs → at + WORDS ≤ length ys
    → ((w : ℕ) → w < WORDS → get_or xs (at + w) 0 ≡ get_or ys (at + w) 0) → set_at xs at ≡ set_at ys at
set_at-same xs ys at h l e =
    ext_get_or 0 (set_at xs at) (set_at ys at) (length-set_at xs at h ∙ sym (length-set_at ys at l))
    (λ w m.
    let word : w < WORDS = subst (λ (j : ℕ). w < j) (length-set_at xs at h) m in
    get_or-set_at xs at w word ∙ e w word ∙ sym (get_or-set_at ys at w word))

module _ (at : ℕ) (xs old : List ℕ) (h : at + length xs ≤ length old) where
  front_long : length (take at old) ≡ at
  front_long = length-take-le at old (omega arith)

  pub put_long : length (overwrite_from at xs old) ≡ length old
  unfolding overwrite_from
  put_long =
      length-append (take at old) (overwrite xs (drop at old))
      ∙ omega (arith, front_long, length-drop at old, length-overwrite xs (drop at old) (omega (arith, length-drop at old)))

  pub put_own : (w : ℕ) → length xs ≡ w → take w (drop at (overwrite_from at xs old)) ≡ xs
  unfolding overwrite_from overwrite
  put_own w e =
      ap (take w) (drop_at (take at old) (xs ++ drop (length xs) (drop at old)) at front_long) ∙ take_at xs (drop (length xs) (drop at old)) w e

  pub put_other : (i : ℕ) → (i < at) ⊎ (at + length xs ≤ i) → get_or (overwrite_from at xs old) i 0 ≡ get_or old i 0
  unfolding overwrite_from overwrite
  put_other i =
      ⊎_elim
      (λ l. get_or-append (take at old) (overwrite xs (drop at old)) 0 i (subst (λ (m : ℕ). i < m) (sym front_long) l) ∙ get_or-take at old i 0 l)
      (λ l.
      let r = i - (at + length xs) in
      let place : at + (length xs + r) ≡ i = omega arith in
      ap (λ (j : ℕ). get_or (overwrite_from at xs old) j 0) (sym place)
      ∙ get_or_behind (take at old) (overwrite xs (drop at old)) at (length xs + r) 0 front_long
      ∙ get_or-append-add xs (drop (length xs) (drop at old)) r 0
      ∙ get_or-drop (length xs) (drop at old) r 0
      ∙ get_or-drop at old (length xs + r) 0
      ∙ ap (λ (j : ℕ). get_or old j 0) place)

  pub put_apart : (place : ℕ) → place + WORDS ≤ length old → (place + WORDS ≤ at) ⊎ (at + length xs ≤ place) → set_at (overwrite_from at xs old) place ≡ set_at old place
  put_apart place l apart =
      set_at-same (overwrite_from at xs old) old place (omega (arith, put_long)) l
      (λ w m. put_other (place + w) (⊎_elim (λ b. inl (omega arith)) (λ b. inr (omega arith)) apart))

  -- a buffer with more behind it
  put_within : (rest : List ℕ) → overwrite_from at xs (old ++ rest) ≡ overwrite_from at xs old ++ rest
  unfolding overwrite_from overwrite
  put_within rest =
      let part = drop at old in
      ap₂ (λ ys zs. ys ++ (xs ++ drop (length xs) zs)) (take-append-le at old rest (omega arith)) (drop-append-le at old rest (omega arith))
      ∙ ap (λ zs. take at old ++ (xs ++ zs)) (drop-append-le (length xs) part rest (omega (arith, length-drop at old)))
      ∙ ap (λ zs. take at old ++ zs) (sym (append_assoc xs (drop (length xs) part) rest))
      ∙ sym (append_assoc (take at old) (xs ++ drop (length xs) part) rest)

  pub put_next : (n x : ℕ) → length xs ≡ n → at + n < length old → set (overwrite_from at xs old) (at + n) x ≡ overwrite_from at (xs ++ (x ∷ [])) old
  unfolding overwrite_from
  put_next n x e l =
      set_behind (take at old) (overwrite xs (drop at old)) at n x front_long
      ∙ ap (λ ys. take at old ++ ys) (overwrite-set xs (drop at old) x n e (omega (arith, length-drop at old)))

  put_set : (j v : ℕ) → j < length xs → set (overwrite_from at xs old) (at + j) v ≡ overwrite_from at (set xs j v) old
  unfolding overwrite_from overwrite
  put_set j v l =
      set_behind (take at old) (overwrite xs (drop at old)) at j v front_long
      ∙ ap (λ ys. take at old ++ ys)
      (set-append_left xs (drop (length xs) (drop at old)) j v l ∙ ap (λ (m : ℕ). set xs j v ++ drop m (drop at old)) (sym (length-set xs j v)))

module _ (at : ℕ) (xs old : List ℕ) (m : ℕ) (h : at + length xs ≤ m) (l : m ≤ length old) where
  first : at + length xs ≤ length (take m old)
  first = omega (arith, length-take-le m old l)

  first-long : length (overwrite_from at xs (take m old)) ≡ m
  first-long = put_long at xs (take m old) first ∙ length-take-le m old l

  parted : overwrite_from at xs old ≡ overwrite_from at xs (take m old) ++ drop m old
  parted = ap (overwrite_from at xs) (sym (take-append-drop m old)) ∙ put_within at xs (take m old) first (drop m old)

  pub put_take : take m (overwrite_from at xs old) ≡ overwrite_from at xs (take m old)
  put_take = ap (take m) parted ∙ take_at (overwrite_from at xs (take m old)) (drop m old) m first-long

  pub put_drop : drop m (overwrite_from at xs old) ≡ drop m old
  put_drop = ap (drop m) parted ∙ drop_at (overwrite_from at xs (take m old)) (drop m old) m first-long

-- a set put where it stands
put_same : (store : List ℕ) (at : ℕ) → at + WORDS ≤ length store → overwrite_from at (set_at store at) store ≡ store
unfolding overwrite_from overwrite set_at
put_same store at h =
    let rest = drop at store in
    ap (λ (m : ℕ). take at store ++ (take WORDS rest ++ drop m rest)) (length-take-le WORDS rest (omega (arith, length-drop at store)))
    ∙ ap (λ zs. take at store ++ zs) (take-append-drop WORDS rest)
    ∙ take-append-drop at store

pub put_word : (store : List ℕ) (at w : ℕ) (f : ℕ → ℕ) {X : Set} → at + WORDS ≤ length store → w < WORDS
    → set (set_at store at) w (f (get_or (set_at store at) w 0)) ≡ X → set store (at + w) (f (get_or store (at + w) 0)) ≡ overwrite_from at X store
put_word store at w f h l e =
    let X = set_at store at in
    let long = length-set_at store at h in
    ap₂ (λ zs (x : ℕ). set zs (at + w) (f x)) (sym (put_same store at h)) (sym (get_or-set_at store at w l))
    ∙ put_set at X store (omega (arith, long)) w _ (omega (arith, long))
    ∙ ap (λ Y. overwrite_from at Y store) e

pub record Putting (at : ℕ) (xs : List ℕ) (n j : ℕ) (old out : List ℕ) : Type 0 where
  pub within : j ≤ n
  pub words : length xs ≡ n
  pub room : at + n ≤ length old
  pub long : length out ≡ length old
  pub is : out ≡ overwrite_from at (tabulate j (λ i. get_or xs i 0)) old

module _ (at : ℕ) (xs : List ℕ) (n : ℕ) (old : List ℕ) where
  pub putting_none : length xs ≡ n → at + n ≤ length old → Putting at xs n 0 old old
  unfolding tabulate overwrite_from overwrite
  putting_none e h = record { within = omega arith; words = e; room = h; long = refl; is = sym (take-append-drop at old) }

  module _ (j : ℕ) (out : List ℕ) (so : Putting at xs n j old out) where
    pub putting_more : j < n → Putting at xs n (j + 1) old (set out (at + j) (get_or xs j 0))
    putting_more h =
        let made = length-tabulate (λ i. get_or xs i 0) j in
        record {
          within = omega arith;
          words = so.words;
          room = so.room;
          long = length-set out (at + j) (get_or xs j 0) ∙ so.long;
          is =
              ap (λ ys. set ys (at + j) (get_or xs j 0)) so.is
              ∙ put_next at _ old (omega (arith, made, so.room)) j (get_or xs j 0) made (omega (arith, so.room))
              ∙ ap (λ ys. overwrite_from at ys old) (sym (tabulate-next (λ i. get_or xs i 0) j));
        }

    pub putting_all : n ≤ j → out ≡ overwrite_from at xs old
    putting_all h =
        so.is
        ∙ ap (λ ys. overwrite_from at ys old)
        (ap (λ (k : ℕ). tabulate k (λ i. get_or xs i 0)) (le_antisymm so.within h ∙ sym so.words) ∙ tabulate-list xs)
