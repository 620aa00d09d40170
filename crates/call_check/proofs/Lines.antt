-- The second line of a text.
--
--   no_feed, feed_append, feed_decimal    a list without a line feed: two of them joined; the digits of a number
--   after_line_lem                           what stands behind the first line feed
--   states_line_lem                          behind line 1 of a report
--   safe_behind, unsafe_behind, refused_behind     so lines 2 and 3 of each report, and of a refusal, which has none
--   first_letter                         of what a text begins with
use Prim.Native.Nat.{ℕ, zero, suc, ◌+◌, ◌/◌, ◌%◌, ◌<◌}
use native.Mathlib.Omega.{arith}
use mathlib.Core.Path.{◌≡◌, refl, sym, ap, ◌∙◌}
use mathlib.Core.Bool.{Bool, true, not, ◌&&◌}
use mathlib.Core.List.{List, [], ◌∷◌, ◌++◌, append_assoc, append-nil}
use borrow.Author.Tests.{ne_eqb}
use lib.Dec.{eqb, ltb}
use lib.ListN.{take, get_or}
use lib.Seq.{get_or-take}
use Rattle.basics.proofs.BoundLaws.{and_true, and_intro, not_true, by_cond}
use Rattle.model.specs.Sets.{Set}
use Rattle.core_report.specs.Text.{ascii, digits, decimal, states_line, verdict_line, invariant_line, path_line, safe_text, unsafe_text, refused_text}
use Rattle.call_check.specs.Reported.{after_line}

abbrev no_feed : List ℕ → Bool
no_feed [] = true
no_feed (x ∷ xs) = not (eqb x 10) && no_feed xs

feed_append : (xs ys : List ℕ) → no_feed xs ≡ true → no_feed ys ≡ true → no_feed (xs ++ ys) ≡ true
feed_append [] ys e f = f
feed_append (x ∷ xs) ys e f =
    let parts = and_true (not (eqb x 10)) (no_feed xs) e in
    and_intro (not (eqb x 10)) (no_feed (xs ++ ys)) parts.0 (feed_append xs ys parts.1 f)

feed_digit : (d : ℕ) → no_feed ((48 + d) ∷ []) ≡ true
feed_digit d = rw (ne_eqb (48 + d) 10 (λ e. omega arith))

feed_digits : (more n : ℕ) → no_feed (digits more n) ≡ true
unfolding digits
feed_digits zero n = refl
feed_digits (suc more) n =
    by_cond (λ (xs : List ℕ). no_feed xs ≡ true) (ltb n 10) _ _ (λ e. feed_digit n)
    (λ e. feed_append (digits more (n / 10)) _ (feed_digits more (n / 10)) (feed_digit (n % 10)))

feed_decimal : (n : ℕ) → no_feed (decimal n) ≡ true
unfolding decimal
feed_decimal n = feed_digits (suc n) n

after_line_lem : (xs ys : List ℕ) → no_feed xs ≡ true → after_line ((xs ++ (10 ∷ [])) ++ ys) ≡ ys
unfolding after_line
after_line_lem [] ys e = refl
after_line_lem (x ∷ xs) ys e =
    let parts = and_true (not (eqb x 10)) (no_feed xs) e in
    rw (not_true (eqb x 10) parts.0) (after_line_lem xs ys parts.1)

states_line_lem : (n g : ℕ) (ys : List ℕ) → after_line (states_line n g ++ ys) ≡ ys
unfolding ascii states_line
states_line_lem n g ys =
    after_line_lem (ascii "states " ++ decimal n ++ ascii " groups " ++ decimal g) ys
    (feed_append (ascii "states " ++ decimal n ++ ascii " groups ") (decimal g)
    (feed_append (ascii "states " ++ decimal n) (ascii " groups ") (feed_append (ascii "states ") (decimal n) refl (feed_decimal n)) refl)
    (feed_decimal g))

-- ---- line 2

pub safe_behind : (n g i : ℕ) (X : Set) → after_line (safe_text n g i X) ≡ verdict_line (ascii "safe") i ++ invariant_line X
unfolding safe_text
safe_behind n g i X = ap after_line (append_assoc (states_line n g) (verdict_line (ascii "safe") i) (invariant_line X)) ∙ states_line_lem n g _

pub unsafe_behind : (n g i : ℕ) (xs : List ℕ) → after_line (unsafe_text n g i xs) ≡ verdict_line (ascii "unsafe") i ++ path_line xs
unfolding unsafe_text
unsafe_behind n g i xs = ap after_line (append_assoc (states_line n g) (verdict_line (ascii "unsafe") i) (path_line xs)) ∙ states_line_lem n g _

pub refused_behind : (k : ℕ) → after_line (refused_text k) ≡ []
unfolding ascii refused_text
refused_behind k =
    ap after_line (sym (append-nil (refused_text k)))
    ∙ after_line_lem (ascii "refused " ++ decimal k) [] (feed_append (ascii "refused ") (decimal k) refl (feed_decimal k))

pub first_letter : (m : ℕ) (xs : List ℕ) {ys : List ℕ} → 0 < m → take m xs ≡ ys → get_or xs 0 0 ≡ get_or ys 0 0
first_letter m xs h e = sym (get_or-take m xs 0 0 h) ∙ ap (λ (zs : List ℕ). get_or zs 0 0) e
