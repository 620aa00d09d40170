-- Laws of grounds of refusal: the number of the first that holds, over any list of them, and what is answered.
--
--   First i, number_at i, refuse-first         all grounds before number i are clear and it holds: its number is the refusal; where there are no more
--                                             than i, and all are clear, that is 0
--   refuse_or                                 a ground that holds where one of two does
--   refuse-append, refuse-past                a ground that holds decides, whatever grounds come after; where none does, those that come after
--   Clear                                     no ground of a list holds
--   refuse_behind                             then those behind it decide; clear_refuse: nothing is refused
--   numbered, refuse_clear                    where nothing is refused, no ground holds whose number is not 0, and the rest refuse nothing
--   clear_append, append_clear                two lists joined
--   clear_concat, concat_clear                lists joined, one for each number below a bound; numbered-concat
--   answer-refused, answer_clear              a ground holds: its number refuses; none does: the answer is given
--   answer_behind                             where no ground of a list holds, those behind it decide
--   answer-none                               the same where nothing is refused by a number
--   answered_clear, answered-is               where a call is answered no ground holds, and it is that answer
--   refused-is                                where it is refused the number is that of the first ground that holds
--   unless_value                              what is made of an answer, made before it is given
--   answer_cong                               two calls that are refused alike, and answered alike where they are not
--   clear_next, refuse_stop                   a loop over such lists: past one that is clear; it returns what the first other one refuses
use Prim.Native.Nat.{ℕ, zero, suc, ◌+◌, ◌<◌}
use native.Mathlib.Nat.{not-suc-le-zero}
use native.Mathlib.Numerals.{add-one}
use native.Mathlib.Omega.{arith}
use mathlib.Core.Path.{◌≡◌, refl, sym, ap, ◌∙◌, subst}
use mathlib.Core.Logic.{⊎_elim}
use mathlib.Core.Bool.{Bool, true, false, not, ◌&&◌, ◌||◌, false≢true}
use mathlib.Core.List.{List, [], ◌∷◌, ◌++◌, append-nil}
use borrow.Author.Tests.{eqb-true, eqb-false}
use lib.Dec.{eqb}
use Rattle.basics.specs.Bounds.{concat}
use Rattle.basics.specs.Refusals.{Ground, refuse, Answered, refused, answered, answer, unless_refused}
use Rattle.basics.proofs.BoundLaws.{and_true, and_intro, not_true, decided, by_cond, below_suc}

-- ---- the first that holds

abbrev pub First : ℕ → List Ground → Type 0
First i [] = Unit {0}
First zero (first_ground ∷ later) = first_ground.0 ≡ true
First (suc i) (first_ground ∷ later) = (first_ground.0 ≡ false) × First i later

abbrev pub number_at : ℕ → List Ground → ℕ
number_at i [] = 0
number_at zero (first_ground ∷ later) = first_ground.1
number_at (suc i) (first_ground ∷ later) = number_at i later

pub refuse-first : (i : ℕ) (gs : List Ground) → First i gs → number_at i gs ≡ refuse gs
unfolding refuse
refuse-first zero [] f = refl
refuse-first (suc i) [] f = refl
refuse-first zero (first_ground ∷ later) f = rw f
refuse-first (suc i) (first_ground ∷ later) f = rw f.0 (refuse-first i later f.1)

pub refuse_or : (a b : Bool) (k : ℕ) (later : List Ground) → refuse ((a || b, k) ∷ later) ≡ refuse ((a, k) ∷ (b, k) ∷ later)
unfolding refuse
refuse_or true b k later = refl
refuse_or false b k later = refl

pub refuse-append : (xs ys : List Ground) {k : ℕ} → k ≡ refuse xs → (k ≡ 0 → ⊥) → k ≡ refuse (xs ++ ys)
unfolding refuse
refuse-append [] ys e f = absurd (f e)
refuse-append ((true, k) ∷ xs) ys e f = e
refuse-append ((false, k) ∷ xs) ys e f = refuse-append xs ys e f

-- ---- no ground holds

abbrev pub Clear : List Ground → Type 0
Clear [] = Unit {0}
Clear (first_ground ∷ later) = (first_ground.0 ≡ false) × Clear later

pub refuse_behind : (xs ys : List Ground) → Clear xs → refuse (xs ++ ys) ≡ refuse ys
unfolding refuse
refuse_behind [] ys c = refl
refuse_behind (first_ground ∷ xs) ys c = rw c.0 (refuse_behind xs ys c.1)

pub clear_refuse : (xs : List Ground) → Clear xs → refuse xs ≡ 0
unfolding refuse
clear_refuse [] c = refl
clear_refuse (first_ground ∷ xs) c = rw c.0 (clear_refuse xs c.1)

abbrev pub numbered : List Ground → Bool
numbered [] = true
numbered (first_ground ∷ later) = not (eqb first_ground.1 0) && numbered later

pub refuse_clear : (xs ys : List Ground) → numbered xs ≡ true → refuse (xs ++ ys) ≡ 0 → Clear xs × (refuse ys ≡ 0)
unfolding refuse
refuse_clear [] ys m = λ e. (tt, e)
refuse_clear (first_ground ∷ xs) ys m =
    let parts = and_true (not (eqb first_ground.1 0)) (numbered xs) m in
    by_cond (λ (r : ℕ). r ≡ 0 → Clear (first_ground ∷ xs) × (refuse ys ≡ 0)) first_ground.0 first_ground.1 (refuse (xs ++ ys))
    (λ t e. absurd (eqb-false first_ground.1 0 (not_true (eqb first_ground.1 0) parts.0) e))
    (λ t e. let rest = refuse_clear xs ys parts.1 e in ((t, rest.0), rest.1))

pub refuse-past : (xs ys : List Ground) {j k : ℕ} → numbered xs ≡ true → j ≡ refuse xs → j ≡ 0 → k ≡ refuse ys → k ≡ refuse (xs ++ ys)
refuse-past xs ys m p z e = e ∙ sym (refuse_behind xs ys (refuse_clear xs [] m (ap refuse (append-nil xs) ∙ sym p ∙ z)).0)

-- ---- lists joined

pub clear_append : (xs ys : List Ground) → Clear xs → Clear ys → Clear (xs ++ ys)
clear_append [] ys c d = d
clear_append (first_ground ∷ xs) ys c d = (c.0, clear_append xs ys c.1 d)

append_clear : (xs ys : List Ground) → Clear (xs ++ ys) → Clear xs × Clear ys
append_clear [] ys c = (tt, c)
append_clear (first_ground ∷ xs) ys c = let rest = append_clear xs ys c.1 in ((c.0, rest.0), rest.1)

pub numbered-append : (xs ys : List Ground) → numbered xs ≡ true → numbered ys ≡ true → numbered (xs ++ ys) ≡ true
numbered-append [] ys m l = l
numbered-append (first_ground ∷ xs) ys m l =
    let parts = and_true (not (eqb first_ground.1 0)) (numbered xs) m in
    and_intro (not (eqb first_ground.1 0)) (numbered (xs ++ ys)) parts.0 (numbered-append xs ys parts.1 l)

module _ (f : ℕ → List Ground) where
  pub numbered-concat : ((k : ℕ) → numbered (f k) ≡ true) → (m : ℕ) → numbered (concat m f) ≡ true
  unfolding concat
  numbered-concat n zero = refl
  numbered-concat n (suc m) = numbered-append (concat m f) (f m) (numbered-concat n m) (n m)

  pub clear_concat : (m : ℕ) → ((k : ℕ) → k < m → Clear (f k)) → Clear (concat m f)
  unfolding concat
  clear_concat zero c = tt
  clear_concat (suc m) c = clear_append (concat m f) (f m) (clear_concat m (λ k h. c k (omega arith))) (c m (omega arith))

  pub concat_clear : (m : ℕ) → Clear (concat m f) → (k : ℕ) → k < m → Clear (f k)
  unfolding concat
  concat_clear zero c k h = absurd (not-suc-le-zero h)
  concat_clear (suc m) c k h =
      let parts = append_clear (concat m f) (f m) c in
      ⊎_elim (λ q. subst (λ (j : ℕ). Clear (f j)) (sym q) parts.1) (λ l. concat_clear m parts.0 k l) (below_suc h)

  pub clear_next : (k : ℕ) → Clear (concat k f) → Clear (f k) → Clear (concat (k + 1) f)
  unfolding concat
  clear_next k c d = subst (λ (j : ℕ). Clear (concat j f)) (sym (add-one k)) (clear_append (concat k f) (f k) c d)

  pub refuse_stop : (m k : ℕ) {x : ℕ} → k < m → Clear (concat k f) → x ≡ refuse (f k) → (x ≡ 0 → ⊥) → x ≡ refuse (concat m f)
  unfolding concat
  refuse_stop zero k h c e z = absurd (not-suc-le-zero h)
  refuse_stop (suc m) k h c e z =
      ⊎_elim
      (λ q. e ∙ ap (λ (j : ℕ). refuse (f j)) q ∙ sym (refuse_behind (concat m f) (f m) (subst (λ (j : ℕ). Clear (concat j f)) q c)))
      (λ l. refuse-append (concat m f) (f m) (refuse_stop m k l c e z) z)
      (below_suc h)

-- ---- answers

module _ {A : Type 0} where
  pub answer-refused : {k : ℕ} (gs : List Ground) (a : A) → k ≡ refuse gs → (k ≡ 0 → ⊥) → answer gs a ≡ refused k
  unfolding refuse answer
  answer-refused [] a e f = absurd (f e)
  answer-refused ((true, j) ∷ gs) a e f = ap refused (sym e)
  answer-refused ((false, j) ∷ gs) a e f = answer-refused gs a e f

  pub answer_clear : (gs : List Ground) (a : A) → Clear gs → answer gs a ≡ answered a
  unfolding answer
  answer_clear [] a c = refl
  answer_clear (first_ground ∷ gs) a c = rw c.0 (answer_clear gs a c.1)

  pub answer_behind : (xs ys : List Ground) (a : A) → Clear xs → answer (xs ++ ys) a ≡ answer ys a
  unfolding answer
  answer_behind [] ys a c = refl
  answer_behind (first_ground ∷ xs) ys a c = rw c.0 (answer_behind xs ys a c.1)

  pub answer-none : (gs : List Ground) (a : A) → numbered gs ≡ true → refuse gs ≡ 0 → answer gs a ≡ answered a
  answer-none gs a m e = answer_clear gs a (refuse_clear gs [] m (ap refuse (append-nil gs) ∙ e)).0

  pub answered_not_refused : {a : A} {k : ℕ} → answered a ≡ refused k → ⊥
  answered_not_refused e = false≢true (sym (ap (unless_refused false (λ c. true)) e))

  pub answered_clear : (gs : List Ground) (b : A) {a : A} → answer gs b ≡ answered a → Clear gs
  unfolding answer
  answered_clear [] b e = tt
  answered_clear ((true, j) ∷ gs) b e = absurd (answered_not_refused (sym e))
  answered_clear ((false, j) ∷ gs) b e = (refl, answered_clear gs b e)

  pub answered-is : {a b : A} → answered a ≡ answered b → a ≡ b
  answered-is {a} e = ap (unless_refused a (λ c. c)) e

  -- the answer that a call gives is the one that its definition names
  pub answered_value : (gs : List Ground) (b : A) {a : A} → answer gs b ≡ answered a → a ≡ b
  answered_value gs b e = answered-is (sym e ∙ answer_clear gs b (answered_clear gs b e))

  pub refused-is : (gs : List Ground) (b : A) {k : ℕ} → answer gs b ≡ refused k → k ≡ refuse gs
  unfolding refuse answer
  refused-is [] b e = absurd (answered_not_refused e)
  refused-is ((true, j) ∷ gs) b {k} e = sym (ap number e)
    where
      number : Answered A → ℕ
      number (refused i) = i
      number (answered c) = k
  refused-is ((false, j) ∷ gs) b e = refused-is gs b e

-- what is made of an answer, made before it is given
pub unless_value : {A B : Type 0} (gs : List Ground) (b : B) (f : A → B) (a : A) → unless_refused b f (answer gs a) ≡ unless_refused b (λ c. c) (answer gs (f a))
unfolding answer
unless_value [] b f a = refl
unless_value ((true, j) ∷ gs) b f a = refl
unless_value ((false, j) ∷ gs) b f a = unless_value gs b f a

pub answer_cong : {A : Type 0} (xs ys : List Ground) (a b : A) → numbered xs ≡ true → numbered ys ≡ true → refuse xs ≡ refuse ys
    → (refuse xs ≡ 0 → a ≡ b) → answer xs a ≡ answer ys b
answer_cong xs ys a b m l e f =
    ⊎_elim
    (λ (q : eqb (refuse xs) 0 ≡ true).
    let z = eqb-true (refuse xs) 0 q in
    answer-none xs a m z ∙ ap answered (f z) ∙ sym (answer-none ys b l (sym e ∙ z)))
    (λ (q : eqb (refuse xs) 0 ≡ false).
    let z = eqb-false (refuse xs) 0 q in
    answer-refused xs a refl z ∙ sym (answer-refused ys b e z))
    (decided (eqb (refuse xs) 0))
