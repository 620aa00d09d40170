-- The bytes of a set, by words.
--
--   length-word_bytes             the bytes of a word: how many; bytes-written, le16-written: so many, and two, copied from the library's
--   words_more                   a loop that writes the words of a set
--   set_byte, set_more           a byte of a set by its word; the bytes of some whole words, and some of the next one
--   words_front                  the whole words of a set, cut off
--   set_whole, set_rest          so the bytes of a set are written, whether they end with a word or not
use Prim.Native.Nat.{ℕ, zero, suc, ◌+◌, ◌*◌, ◌-◌, ◌/◌, ◌%◌, ◌^◌, ◌≤◌, ◌<◌}
use native.Mathlib.Nat.{zero-add, add-zero, add-suc, not-suc-le-zero, pow-suc}
use native.Mathlib.Omega.{arith}
use mathlib.Core.Path.{◌≡◌, refl, sym, ap, ap₂, ◌∙◌}
use mathlib.Core.Logic.{⊎_elim}
use mathlib.Core.List.{List, [], ◌∷◌, ◌++◌, append-nil, append_assoc}
use lib.ListN.{length, get_or, take, drop}
use lib.Seq.{length-take-le, get_or-take, ext_get_or}
use lib.Pow.{pow-add}
use mir.Syntax.{w64}
use Rattle.std.specs.Int.{to_le_bytes, byte_at, bytes_low_first}
use Rattle.basics.specs.Bounds.{tabulate, concat}
use Rattle.model.specs.Sets.{WORDS, Set, member, number}
use Rattle.model.specs.Blocks.{le16}
use Rattle.model.specs.Contents.{set_bytes}
use Rattle.model.specs.Calls.{overwrite}
use Rattle.basics.proofs.BoundLaws.{lt_or_ge, length-tabulate, get_or-tabulate}
use Rattle.model.proofs.ListsInParts.{length-concat, concat_cong}
use Rattle.model.proofs.SetsBytes.{byte_number}
use Rattle.file_contents_writing.specs.Placed.{word_bytes, words_bytes}
use Rattle.core_table.proofs.ListsOverwritten.{Over, lent, back, overwrite_lent, parts_more}

pub length-word_bytes : (x count : ℕ) → length (word_bytes x count) ≡ count
unfolding word_bytes
length-word_bytes x count = length-tabulate _ count

-- byte b of a number, as the library has it
powers : (b : ℕ) → 256 ^ b ≡ 2 ^ (8 * b)
powers zero = refl
powers (suc b) =
    let next : 8 * suc b ≡ 8 * b + 8 = omega arith in
    pow-suc 256 b ∙ ap (λ (m : ℕ). m * 256) (powers b) ∙ sym (ap (λ (m : ℕ). 2 ^ m) next ∙ pow-add 2 (8 * b) 8)

byte-is : (b x : ℕ) → byte_at b x ≡ x / 2 ^ (8 * b) % 256
byte-is zero x = omega arith
byte-is (suc b) x = ap (λ (m : ℕ). x / m % 256) (powers (suc b))

get_or-bytes : (i k x b : ℕ) → b < k → get_or (bytes_low_first i k x) b 0 ≡ byte_at (i + b) x
get_or-bytes i zero x b h = absurd (not-suc-le-zero h)
get_or-bytes i (suc k) x zero h = ap (λ (j : ℕ). byte_at j x) (sym (add-zero i))
get_or-bytes i (suc k) x (suc b) h =
    let place : suc i + b ≡ i + suc b = omega arith in
    get_or-bytes (suc i) k x b (omega arith) ∙ ap (λ (j : ℕ). byte_at j x) place

lowest : (x count : ℕ) → count ≤ 8 → take count (to_le_bytes w64 x) ≡ word_bytes x count
unfolding word_bytes
lowest x count h =
    let bytes = to_le_bytes w64 x in
    let long = length-take-le count bytes h in
    ext_get_or 0 _ _ (long ∙ sym (length-word_bytes x count))
    (λ b l.
    let inside : b < count = omega (arith, long) in
    get_or-take count bytes b 0 inside
    ∙ get_or-bytes 0 8 x b (omega arith)
    ∙ ap (λ (j : ℕ). byte_at j x) (zero-add b)
    ∙ byte-is b x
    ∙ sym (get_or-tabulate (λ j. x / 2 ^ (8 * j) % 256) count b 0 inside))

module _ (x : ℕ) (old : List ℕ) where
  -- copied from all eight of the word
  pub bytes-written : {count : ℕ} {bytes : List ℕ} → count ≤ 8 → bytes ≡ take count (to_le_bytes w64 x) → bytes ++ drop count old ≡ overwrite (word_bytes x count) old
  unfolding overwrite
  bytes-written {count} h e = ap₂ (λ xs (m : ℕ). xs ++ drop m old) (e ∙ lowest x count h) (sym (length-word_bytes x count))

  pub le16-written : {bytes : List ℕ} → bytes ≡ overwrite (word_bytes x 2) old → bytes ≡ overwrite (le16 x) old
  unfolding word_bytes tabulate
  le16-written e =
      let low : x / 1 % 256 ≡ x % 256 = omega arith in
      e ∙ ap (λ (y : ℕ). overwrite (y ∷ x / 256 % 256 ∷ []) old) low

module _ (X : Set) where
  length-words_bytes : (v : ℕ) → length (words_bytes X v) ≡ 8
  unfolding words_bytes
  length-words_bytes v = length-word_bytes (get_or X v 0) 8

  pub words_more : (old out rest : List ℕ) (v : ℕ) → Over (concat v (words_bytes X)) old out → rest ≡ overwrite (word_bytes (get_or X v 0) 8) (lent (8 * v) out)
      → length (back (8 * v) out rest) ≡ length out → Over (concat (v + 1) (words_bytes X)) old (back (8 * v) out rest)
  unfolding words_bytes
  words_more old out rest v so = parts_more (words_bytes X) old (λ j h. length-words_bytes j) so rest

  set_byte : (v b : ℕ) → v < WORDS → b < 8 → get_or X v 0 / 2 ^ (8 * b) % 256 ≡ number (member X) (8 * (8 * v + b)) 8
  set_byte v b h l =
      let word : (8 * v + b) / 8 ≡ v = omega arith in
      let byte : (8 * v + b) % 8 ≡ b = omega arith in
      ap₂ (λ (i j : ℕ). get_or X i 0 / 2 ^ (8 * j) % 256) (sym word) (sym byte) ∙ byte_number X (8 * v + b) (omega arith)

  -- some bytes of word v behind those of the words before it
  set_more : (v c : ℕ) → v < WORDS → c ≤ 8 → set_bytes (8 * v) X ++ word_bytes (get_or X v 0) c ≡ set_bytes (8 * v + c) X
  unfolding set_bytes word_bytes tabulate
  set_more v zero h l = append-nil (set_bytes (8 * v) X) ∙ ap (λ (w : ℕ). set_bytes w X) (sym (add-zero (8 * v)))
  set_more v (suc c) h l =
      sym (append_assoc (set_bytes (8 * v) X) (word_bytes (get_or X v 0) c) _)
      ∙ ap₂ (λ (xs : List ℕ) (x : ℕ). xs ++ (x ∷ [])) (set_more v c h (omega arith)) (set_byte v c h (omega arith))
      ∙ ap (λ (w : ℕ). set_bytes w X) (sym (add-suc (8 * v) c))

  set_words : (count : ℕ) → count ≤ WORDS → concat count (words_bytes X) ≡ set_bytes (8 * count) X
  unfolding concat set_bytes tabulate words_bytes
  set_words zero h = refl
  set_words (suc v) h =
      let next : 8 * v + 8 ≡ 8 * suc v = omega arith in
      ap (λ xs. xs ++ words_bytes X v) (set_words v (omega arith)) ∙ set_more v 8 (omega arith) (omega arith) ∙ ap (λ (w : ℕ). set_bytes w X) next

  words_front : (v : ℕ) → v ≤ length X → concat (length (take v X)) (words_bytes (take v X)) ≡ concat v (words_bytes X)
  unfolding words_bytes
  words_front v h =
      ap (λ (m : ℕ). concat m (words_bytes (take v X))) (length-take-le v X h)
      ∙ concat_cong _ (words_bytes X) v (λ i l. ap (λ (x : ℕ). word_bytes x 8) (get_or-take v X i 0 l))

  module _ {w : ℕ} (narrow : w ≤ 8 * WORDS) (long : WORDS ≤ length X) (old out : List ℕ)
      (so : out ≡ overwrite (concat (length (take (w / 8) X)) (words_bytes (take (w / 8) X))) old) where
    front : out ≡ overwrite (concat (w / 8) (words_bytes X)) old
    front = so ∙ ap (λ xs. overwrite xs old) (words_front (w / 8) (omega arith))

    pub set_whole : 8 * (w / 8) ≡ w → out ≡ overwrite (set_bytes w X) old
    set_whole e = front ∙ ap (λ xs. overwrite xs old) (set_words (w / 8) (omega arith) ∙ ap (λ (v : ℕ). set_bytes v X) e)

    pub set_rest : (rest : List ℕ) → (8 * (w / 8) ≡ w → ⊥)
        → rest ≡ overwrite (word_bytes (get_or X (w / 8) 0) (w - 8 * (w / 8))) (lent (8 * (w / 8)) out) → back (8 * (w / 8)) out rest ≡ overwrite (set_bytes w X) old
    set_rest rest f e =
        let v = w / 8 in
        let last : v < WORDS = ⊎_elim (λ l. l) (λ l. absurd (f (omega arith))) (lt_or_ge v WORDS) in
        let all : 8 * v + (w - 8 * v) ≡ w = omega arith in
        overwrite_lent (concat v (words_bytes X)) (word_bytes (get_or X v 0) (w - 8 * v)) old out rest (8 * v)
        (length-concat (words_bytes X) 8 v (λ j h. length-words_bytes j)) front e
        ∙ ap (λ xs. overwrite xs old)
        (ap (λ xs. xs ++ word_bytes (get_or X v 0) (w - 8 * v)) (set_words v (omega arith)) ∙ set_more v (w - 8 * v) last (omega arith) ∙ ap (λ (u : ℕ). set_bytes u X) all)
