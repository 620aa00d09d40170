-- Laws of blocks: two-byte numbers, the check, a block by its places, and the blocks of an input. Bytes are read with 0 past the end, so
-- that filler is no special case.
--
--   le16_at-le16, le16-le16_at                  the number of its two bytes, and the two bytes of that number
--   check_of_lt, check_of_cong                  the check is below its modulus, and reads the bytes before it
--   IsBlock, block_unique                     the bytes of block k: there is one such block
--   by_block                                  a place in a block, by cases
--   block-number, block-check                 it passes read's tests
--   is_block, block_of-is                      what passes them is such a block; block_of makes it
--   get_or_filled                               a list filled with zeros
--   framed, framed_is                         so are the bytes of a content between their number and their check
--   length_part, get_or-part, part-bounded      the blocks of an input; concat-part: joined, they are the input
--   contents_wide                             the contents of a block of it
--   length-contents_of, get_or-contents_of(-at)   the contents of an input, by block and by place; contents_of-bounded
use Prim.Native.Nat.{ℕ, zero, suc, ◌+◌, ◌*◌, ◌-◌, ◌/◌, ◌%◌, ◌<◌}
use native.Mathlib.Nat.{add-zero, zero-add}
use native.Mathlib.Omega.{arith}
use mathlib.Core.Path.{◌≡◌, refl, sym, ap, ap₂, ◌∙◌, subst}
use mathlib.Core.Logic.{⊎_elim}
use mathlib.Core.List.{List, [], ◌∷◌, ◌++◌}
use lib.ListN.{length, get_or, take, drop, replicate, length-append, length-replicate, length-take, length-drop, get_or-append}
use lib.Seq.{ext_get_or, get_or-take, get_or-drop, length-take-le, take_all}
use Rattle.basics.specs.Bounds.{concat}
use Rattle.model.specs.Blocks.{block_bytes, content_bytes, content_at, check_at, modulus, le16, le16_at, weighted, check_of, block_of, part, contents_of}
use Rattle.model.specs.RoundTrip.{Bounded}
use Rattle.basics.proofs.BoundLaws.{lt_or_ge}
use Rattle.model.proofs.ListsInParts.{get_or_behind, get_or_past, Wide, length-concat, get_or-concat, concat_cong, concat_parts}

-- ---- numbers below a bound

bounded-append : (b : ℕ) (xs ys : List ℕ) → Bounded b xs → Bounded b ys → Bounded b (xs ++ ys)
bounded-append b [] ys p q = q
bounded-append b (x ∷ xs) ys p q = elim [ zero ↦ p zero | suc i ↦ bounded-append b xs ys (λ j. p (suc j)) q i ]

bounded-concat : (b : ℕ) (f : ℕ → List ℕ) → 0 < b → ((k : ℕ) → Bounded b (f k)) → (n : ℕ) → Bounded b (concat n f)
unfolding concat
bounded-concat b f h u zero = λ i. h
bounded-concat b f h u (suc n) = bounded-append b (concat n f) (f n) (bounded-concat b f h u n) (u n)

bounded-part : (b : ℕ) (xs : List ℕ) (at w : ℕ) → 0 < b → Bounded b xs → Bounded b (take w (drop at xs))
bounded-part b xs at w h u i =
    ⊎_elim
    (λ l. rw (get_or-take w (drop at xs) i 0 l, get_or-drop at xs i 0) (u (at + i)))
    (λ l. rw (get_or_past (take w (drop at xs)) i 0 (omega (arith, length-take w (drop at xs)))) h)
    (lt_or_ge i w)

-- ---- two bytes

pub le16_at-le16 : (bytes : List ℕ) (at x : ℕ) → x < 65536 → get_or bytes at 0 ≡ x % 256 → get_or bytes (at + 1) 0 ≡ x / 256 % 256 → le16_at bytes at ≡ x
le16_at-le16 bytes at x h low high = omega arith

pub le16-le16_at : (bytes : List ℕ) (at : ℕ) → Bounded 256 bytes → (i : ℕ) → i < 2 → get_or (le16 (le16_at bytes at)) i 0 ≡ get_or bytes (at + i) 0
le16-le16_at bytes at u zero h = omega (arith, u at, u (at + 1)) ∙ ap (λ (i : ℕ). get_or bytes i 0) (sym (add-zero at))
le16-le16_at bytes at u (suc zero) h = omega (arith, u at, u (at + 1))
le16-le16_at bytes at u (suc (suc i)) h = absurd (omega arith)

-- ---- a block

pub check_of_lt : (site : ℕ) (bytes : List ℕ) → check_of site bytes < modulus
unfolding check_of
check_of_lt site bytes = omega arith

weighted_cong : (a b : List ℕ) (m : ℕ) → ((i : ℕ) → i < m → get_or a i 0 ≡ get_or b i 0) → weighted a m ≡ weighted b m
unfolding weighted
weighted_cong a b zero e = refl
weighted_cong a b (suc m) e = ap₂ (λ (x y : ℕ). x + (m + 1) * y) (weighted_cong a b m (λ i h. e i (omega arith))) (e m (omega arith))

pub check_of_cong : (site : ℕ) (a b : List ℕ) → ((i : ℕ) → i < check_at → get_or a i 0 ≡ get_or b i 0) → check_of site a ≡ check_of site b
unfolding check_of
check_of_cong site a b e = ap (λ (x : ℕ). (site + x) % modulus) (weighted_cong a b check_at e)

-- block k of a file with these contents, for a site
pub record IsBlock (site : ℕ) (bytes : List ℕ) (k : ℕ) (block : List ℕ) : Type 0 where
  pub long : length block ≡ block_bytes
  pub holds-number : (i : ℕ) → i < 2 → get_or block i 0 ≡ get_or (le16 k) i 0
  pub holds-content : (i : ℕ) → i < content_bytes → get_or block (content_at + i) 0 ≡ get_or bytes (content_bytes * k + i) 0
  pub holds-check : (i : ℕ) → i < 2 → get_or block (check_at + i) 0 ≡ get_or (le16 (check_of site block)) i 0

-- a place in a block is in its number, its content or its check
pub by_block : (P : ℕ → Type 0) → ((i : ℕ) → i < 2 → P i) → ((i : ℕ) → i < content_bytes → P (content_at + i)) → ((i : ℕ) → i < 2 → P (check_at + i)) → (i : ℕ) → i < block_bytes → P i
by_block P number content check i h =
    ⊎_elim (number i)
    (λ l. ⊎_elim
    (λ m. let place : 2 + (i - 2) ≡ i = omega arith in subst P place (content (i - 2) (omega arith)))
    (λ m. let place : check_at + (i - check_at) ≡ i = omega arith in subst P place (check (i - check_at) (omega arith)))
    (lt_or_ge i check_at))
    (lt_or_ge i 2)

module _ {site : ℕ} {bytes : List ℕ} {k : ℕ} where
  pub block_unique : {a b : List ℕ} → IsBlock site bytes k a → IsBlock site bytes k b → a ≡ b
  block_unique {a} {b} x y =
      let number : (i : ℕ) → i < 2 → get_or a i 0 ≡ get_or b i 0 = λ i h. x.holds-number i h ∙ sym (y.holds-number i h) in
      let content : (i : ℕ) → i < content_bytes → get_or a (content_at + i) 0 ≡ get_or b (content_at + i) 0 = λ i h. x.holds-content i h ∙ sym (y.holds-content i h) in
      let front : (i : ℕ) → i < check_at → get_or a i 0 ≡ get_or b i 0 = λ i h.
      by_block (λ j. j < check_at → get_or a j 0 ≡ get_or b j 0) (λ j l m. number j l) (λ j l m. content j l) (λ j l m. absurd (omega arith)) i (omega arith) h in
      ext_get_or 0 a b (x.long ∙ sym y.long)
      (λ i h.
      by_block (λ j. get_or a j 0 ≡ get_or b j 0) number content
      (λ j l. x.holds-check j l ∙ ap (λ (c : ℕ). get_or (le16 c) j 0) (check_of_cong site a b front) ∙ sym (y.holds-check j l))
      i (subst (λ (m : ℕ). i < m) x.long h))

  pub block-number : {block : List ℕ} → IsBlock site bytes k block → k < 65536 → le16_at block 0 ≡ k
  block-number {block} x h = le16_at-le16 block 0 k h (x.holds-number 0 (omega arith)) (x.holds-number 1 (omega arith))

  pub block-check : {block : List ℕ} → IsBlock site bytes k block → le16_at block check_at ≡ check_of site block
  block-check {block} x =
      le16_at-le16 block check_at (check_of site block) (omega (arith, check_of_lt site block)) (x.holds-check 0 (omega arith)) (x.holds-check 1 (omega arith))

pub is_block : (site : ℕ) (bytes : List ℕ) (k : ℕ) (block : List ℕ)
    → length block ≡ block_bytes
    → Bounded 256 block
    → le16_at block 0 ≡ k
    → le16_at block check_at ≡ check_of site block
    → ((i : ℕ) → i < content_bytes → get_or block (content_at + i) 0 ≡ get_or bytes (content_bytes * k + i) 0)
    → IsBlock site bytes k block
is_block site bytes k block long u number check content =
    record {
      long = long;
      holds-number = λ i h.
          ap (λ (j : ℕ). get_or block j 0) (sym (zero-add i)) ∙ sym (le16-le16_at block 0 u i h) ∙ ap (λ (x : ℕ). get_or (le16 x) i 0) number;
      holds-content = content;
      holds-check = λ i h. sym (le16-le16_at block check_at u i h) ∙ ap (λ (x : ℕ). get_or (le16 x) i 0) check;
    }

-- a list filled with zeros
pub get_or_filled : (xs : List ℕ) (m i : ℕ) → get_or (xs ++ replicate m 0) i 0 ≡ get_or xs i 0
get_or_filled [] zero i = refl
get_or_filled [] (suc m) zero = refl
get_or_filled [] (suc m) (suc i) = get_or_filled [] m i
get_or_filled (x ∷ xs) m zero = refl
get_or_filled (x ∷ xs) m (suc i) = get_or_filled xs m i

length_filled : (xs : List ℕ) (m : ℕ) → length (take m (xs ++ replicate m 0)) ≡ m
length_filled xs m = length-take-le m (xs ++ replicate m 0) (omega (arith, length-append xs (replicate m 0), length-replicate {A = ℕ} m 0))

-- any content_bytes bytes between their number and their check (over a variable, since the zeros of `block_of` would be written out)
abbrev pub framed : ℕ → ℕ → List ℕ → List ℕ
framed site k c = let front = le16 k ++ c in front ++ le16 (check_of site front)

pub framed_is : (site : ℕ) (bytes : List ℕ) (k : ℕ) (c : List ℕ) → length c ≡ content_bytes → ((i : ℕ) → i < content_bytes → get_or c i 0 ≡ get_or bytes (content_bytes * k + i) 0) → IsBlock site bytes k (framed site k c)
framed_is site bytes k c long e =
    let check = le16 (check_of site (le16 k ++ c)) in
    record {
      long = omega (arith, length-append c check);
      holds-number = λ i h. get_or-append (le16 k) (c ++ check) 0 i h;
      holds-content = λ i h.
          get_or_behind (le16 k) (c ++ check) 2 i 0 refl ∙ get_or-append c check 0 i (subst (λ (m : ℕ). i < m) (sym long) h) ∙ e i h;
      holds-check = λ i h.
          get_or_behind (le16 k ++ c) check check_at i 0 (omega arith)
          ∙ ap (λ (x : ℕ). get_or (le16 x) i 0) (check_of_cong site (le16 k ++ c) (framed site k c) (λ j l. sym (get_or-append (le16 k ++ c) check 0 j (omega arith))));
    }

pub block_of-is : (site : ℕ) (bytes : List ℕ) (k : ℕ) → IsBlock site bytes k (block_of site bytes k)
unfolding block_of
block_of-is site bytes k =
    let rest = drop (content_bytes * k) bytes in
    framed_is site bytes k (take content_bytes (rest ++ replicate content_bytes 0)) (length_filled rest content_bytes)
    (λ i h. get_or-take content_bytes (rest ++ replicate content_bytes 0) i 0 h ∙ get_or_filled rest content_bytes i ∙ get_or-drop (content_bytes * k) bytes i 0)

-- ---- the blocks and the contents of an input

module _ (input : List ℕ) where
  pub length_part : (k : ℕ) → k < length input / block_bytes → length (part input k) ≡ block_bytes
  unfolding part
  length_part k h = length-take-le block_bytes (drop (block_bytes * k) input) (omega (arith, length-drop (block_bytes * k) input))

  pub get_or-part : (k i : ℕ) → i < block_bytes → get_or (part input k) i 0 ≡ get_or input (block_bytes * k + i) 0
  unfolding part
  get_or-part k i h = get_or-take block_bytes (drop (block_bytes * k) input) i 0 h ∙ get_or-drop (block_bytes * k) input i 0

  pub part-bounded : (k : ℕ) → Bounded 256 input → Bounded 256 (part input k)
  unfolding part
  part-bounded k u = bounded-part 256 input (block_bytes * k) block_bytes (omega arith) u

  pub concat-part : length input % block_bytes ≡ 0 → concat (length input / block_bytes) (part input) ≡ input
  unfolding part
  concat-part e =
      let whole : block_bytes * (length input / block_bytes) ≡ length input = omega arith in
      concat_cong _ _ (length input / block_bytes) (λ k h. ap (λ (j : ℕ). take block_bytes (drop j input)) (sym (zero-add (block_bytes * k))))
      ∙ concat_parts input 0 block_bytes (length input / block_bytes)
      ∙ take_all (block_bytes * (length input / block_bytes)) input (omega arith)

  pub contents_wide : Wide (length input / block_bytes) content_bytes (λ k. take content_bytes (drop content_at (part input k)))
  contents_wide k h = length-take-le content_bytes (drop content_at (part input k)) (omega (arith, length-drop content_at (part input k), length_part k h))

  pub length-contents_of : length (contents_of input) ≡ content_bytes * (length input / block_bytes)
  unfolding contents_of
  length-contents_of = length-concat _ content_bytes (length input / block_bytes) contents_wide

  pub get_or-contents_of : (k i : ℕ) → k < length input / block_bytes → i < content_bytes → get_or (contents_of input) (content_bytes * k + i) 0 ≡ get_or (part input k) (content_at + i) 0
  unfolding contents_of
  get_or-contents_of k i h l =
      get_or-concat _ content_bytes (length input / block_bytes) k i 0 contents_wide h l
      ∙ get_or-take content_bytes (drop content_at (part input k)) i 0 l
      ∙ get_or-drop content_at (part input k) i 0

  pub contents_of-bounded : Bounded 256 input → Bounded 256 (contents_of input)
  unfolding contents_of
  contents_of-bounded u =
      bounded-concat 256 (λ k. take content_bytes (drop content_at (part input k))) (omega arith)
      (λ k. bounded-part 256 (part input k) content_at content_bytes (omega arith) (part-bounded k u)) (length input / block_bytes)
