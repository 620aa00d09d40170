-- From three computed facts to what decide does with a laid-out table.
--
-- The facts leave one computation out. The words of unused rows are some thousand, and `non_zero` walks to each from the front of the store:
-- five seconds for each table. `zeros` walks once, and a law puts the one in place of the other; a table then costs what its rounds cost.
--
--   zeros xs                     each word of xs is 0
--   zeros_get_or, non_zero-none     words that are 0 from a place on: each of them reads 0, `non_zero` finds none
--   fits store n g allowance     no ground of decide holds, if the path buffer is long enough; fits-accepted: so it does
--   answer-is, buffer-is         an accepted call answers with the outcome of the rounds, and writes the path where that is unsafe
--   decides                      the three facts make a `Decides`
use Prim.Native.Nat.{ℕ, zero, suc, ◌≤◌, zero-le}
use native.Mathlib.Nat.{not-suc-le-zero, le_of_suc-le-suc}
use mathlib.Core.Path.{◌≡◌, refl, ap, ◌∙◌}
use mathlib.Core.Bool.{Bool, true, false, cond, not, ◌&&◌, ◌||◌}
use mathlib.Core.List.{List, [], ◌∷◌}
use borrow.Author.Tests.{eqb-true, eq-eqb, leb-true, le-ltb}
use lib.Dec.{eqb, ltb}
use lib.ListN.{length, get_or, drop}
use Rattle.basics.specs.Bounds.{any}
use Rattle.model.specs.Sets.{max_states}
use Rattle.model.specs.Tables.{Dialogue}
use Rattle.model.specs.Rounds.{run}
use Rattle.model.specs.Paths.{smallest_path}
use Rattle.basics.specs.Refusals.{refuse, answered}
use Rattle.model.specs.Stores.{max_groups, marked_at, resting_at, group_at, row_at, store_words, set_at, table_of, layout, beyond, non_zero, malformed, bad_states}
use Rattle.model.specs.Calls.{release, overwrite, Decision, decision_of, decide_grounds, decide_answer, decide_buffer}
use Rattle.basics.proofs.BoundLaws.{and_true, not_true, is_false, clash, any_find}
use Rattle.basics.proofs.RefusalLaws.{answer-none}
use Rattle.examples_tables.specs.Worked.{stored, Decides}

-- ---- unused words

unfoldable pub zeros : List ℕ → Bool
zeros [] = true
zeros (x ∷ xs) = eqb x 0 && zeros xs

zeros_get_or : (xs : List ℕ) (from i : ℕ) → from ≤ i → zeros (drop from xs) ≡ true → get_or xs i 0 ≡ 0
unfolding zeros
zeros_get_or [] from i h z = refl
zeros_get_or (x ∷ xs) zero zero h z = eqb-true x 0 (and_true (eqb x 0) (zeros xs) z).0
zeros_get_or (x ∷ xs) zero (suc i) h z = zeros_get_or xs zero i zero-le (and_true (eqb x 0) (zeros xs) z).1
zeros_get_or (x ∷ xs) (suc from) zero h z = absurd (not-suc-le-zero h)
zeros_get_or (x ∷ xs) (suc from) (suc i) h z = zeros_get_or xs from i (le_of_suc-le-suc h) z

non_zero-none : (xs : List ℕ) (from to : ℕ) → zeros (drop from xs) ≡ true → non_zero xs from to ≡ false
unfolding non_zero
non_zero-none xs from to z =
    is_false _
    (λ e.
    let found = any_find _ to e in
    let parts = and_true _ _ found.2 in
    let zero-there = zeros_get_or xs from found.0 (leb-true from found.0 parts.0) z in
    clash (eq-eqb (get_or xs found.0 0) 0 zero-there) (not_true _ parts.1))

-- ---- accepted calls

module _ (store : List ℕ) (n g allowance : ℕ) where
  -- the grounds but for 17 and 21
  abbrev plain : List (Bool × ℕ)
  plain = (ltb (length store) store_words, 10) ∷ (bad_states n g, 14) ∷ (ltb max_groups g, 15) ∷ (ltb release allowance, 20) ∷ []

  -- ground 17 but for the words of unused rows
  abbrev stray_set : Bool
  stray_set =
      beyond n (set_at store 0)
      || beyond n (set_at store marked_at)
      || beyond n (set_at store resting_at)
      || any g (λ j. beyond n (set_at store (group_at j)))
      || any n (λ s. beyond n (set_at store (row_at s)))
      || non_zero store (group_at g) (group_at max_groups)

  unfoldable pub fits : Bool
  fits = eqb (refuse plain) 0 && (not stray_set && zeros (drop (row_at n) store))

  fits-accepted : (room : ℕ) → fits ≡ true → max_states ≤ room → refuse (decide_grounds store n g allowance room) ≡ 0
  unfolding fits refuse decide_grounds malformed
  fits-accepted room f h =
      let parts = and_true _ _ f in
      let unused = and_true _ _ parts.1 in
      rw (not_true stray_set unused.0)
      (rw (non_zero-none store (row_at n) store_words unused.1)
      (rw (le-ltb room max_states h) (eqb-true (refuse plain) 0 parts.0)))

  answer-is : (answer : Decision) → fits ≡ true → decision_of (table_of store n g) (run (table_of store n g) allowance) ≡ answer
      → (room : ℕ) → max_states ≤ room → decide_answer store n g allowance room ≡ answered answer
  unfolding decide_answer decide_grounds
  answer-is answer f e room h = answer-none (decide_grounds store n g allowance room) _ refl (fits-accepted room f h) ∙ ap answered e

  buffer-is : (answer : Decision) (path states : List ℕ) → decide_answer store n g allowance (length path) ≡ answered answer
      → cond (eqb answer.verdict 1) (smallest_path (table_of store n g)) [] ≡ states
      → decide_buffer store n g allowance path ≡ overwrite states path
  unfolding decide_buffer overwrite
  buffer-is answer path states a e = rw a (go (eqb answer.verdict 1) e)
    where
      found : List ℕ
      found = smallest_path (table_of store n g)

      go : (b : Bool) → cond b found [] ≡ states → cond b (overwrite found path) path ≡ overwrite states path
      go true e = ap (λ xs. overwrite xs path) e
      go false e = ap (λ xs. overwrite xs path) e

-- Nothing is written unless the verdict is unsafe.
pub decides : (t : Dialogue) (allowance : ℕ) {answer : Decision} {states : List ℕ}
    → fits (layout t) t.n (length t.groups) allowance ≡ true
    → decision_of (stored t) (run (stored t) allowance) ≡ answer
    → cond (eqb answer.verdict 1) (smallest_path (stored t)) [] ≡ states
    → Decides t allowance answer states
decides t allowance {answer} {states} f e p =
    let store = layout t in
    let g = length t.groups in
    let answers = answer-is store t.n g allowance answer f e in
    record {
      answers = λ path h. answers (length path) h;
      writes = λ path h. buffer-is store t.n g allowance answer path states (answers (length path) h) p;
    }
