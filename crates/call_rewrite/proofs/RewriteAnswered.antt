-- What the call gives, from what its own calls gave.
--
--   refused-append      a ground that refuses does so whatever grounds come after
--   rewrite-refused     the old form refuses the file
--   new_long            the new file has the length that write gives
--   rewrite-written     the old form reads it: write answers and writes as the call is to
--   answered_old, refused_old
--                       what an answer, and a refusal where any file fits, say of the old file
use Prim.Native.Nat.{ℕ, ◌≤◌}
use native.Mathlib.Omega.{arith}
use mathlib.Core.Path.{◌≡◌, refl, sym, ap, ap₂, ◌∙◌}
use mathlib.Core.Logic.{⊎_elim}
use mathlib.Core.Bool.{true, false}
use mathlib.Core.List.{List, [], ◌∷◌, ◌++◌, append-nil}
use borrow.Author.Tests.{ltb-false, le-ltb, eqb-true, eqb-false}
use lib.Dec.{eqb, ltb}
use lib.ListN.{length, replicate}
use Rattle.basics.specs.Refusals.{Ground, refuse, Answered, refused, answered, answer, unless_refused}
use Rattle.basics.proofs.BoundLaws.{decided, length-tabulate}
use Rattle.basics.proofs.RefusalLaws.{refuse-append, refuse_behind, clear_refuse, numbered, refuse_clear, clear_append, numbered-append, answer-refused, answer_clear, answered_not_refused, answered_clear, answered_value, refused-is, answer_cong}
use Rattle.model.specs.Stores.{store_words, dialogue_of, layout}
use Rattle.model.specs.Contents.{old_form, new_form}
use Rattle.model.specs.Files.{file_of, file_length, max_file}
use Rattle.model.specs.Calls.{overwrite, TableRead, states_in, groups_in, read_grounds_as, read_answer_as, read_buffer_as, output_ground, write_grounds, write_answer, write_buffer}
use Rattle.model.proofs.FileLaws.{length-file_of, file_length-most}
use Rattle.model.proofs.StoresAccepted.{Store, store_accepted}
use Rattle.model.proofs.CallLaws.{write_behind, read-numbered, read_none, read_answer_lem, read-buffer}
use Rattle.model.proofs.RoundTrips.{taken}
use Rattle.theorems_rewriting.specs.Rewriting.{OldFile, old_dialogue, new_file}
use Rattle.call_rewrite.specs.RewriteAnswers.{rested_store, rewrite_grounds, rewrite_answer, rewrite_buffer}
use Rattle.call_rewrite.proofs.StoresRested.{rested-held, new_file_lem}

-- ---- the old form refuses the file

refused-append : {A B : Type 0} (xs ys : List Ground) (a : A) (b : B) {k : ℕ} → answer xs a ≡ refused k → answer (xs ++ ys) b ≡ refused k
unfolding refuse answer
refused-append [] ys a b e = absurd (answered_not_refused e)
refused-append ((true, j) ∷ xs) ys a b e = ap refused (sym (refused-is ((true, j) ∷ xs) a e))
refused-append ((false, j) ∷ xs) ys a b e = refused-append xs ys a b e

pub rewrite-refused : (input : List ℕ) {k : ℕ} → refused k ≡ read_answer_as old_form input 0 store_words → (output : List ℕ)
    → (refused k ≡ rewrite_answer input (length output)) × (output ≡ rewrite_buffer input output)
unfolding read_answer_as rewrite_grounds rewrite_answer rewrite_buffer
rewrite-refused input e output =
    let no = refused-append (read_grounds_as old_form input 0 store_words) _ _ (length (new_file input)) (sym e) in
    (sym no, sym (ap (unless_refused output (λ (l : ℕ). overwrite (new_file input) output)) no))

-- ---- it reads it

module _ (input : List ℕ) (old : OldFile input) (lent : List ℕ) (fits : store_words ≤ length lent) where
  abbrev n : ℕ
  n = states_in input

  abbrev g : ℕ
  g = groups_in old_form input

  abbrev store : List ℕ
  store = rested_store (overwrite (layout (old_dialogue input)) lent) n

  held : Store store n g
  held = rested-held input old lent fits

  file : file_of new_form 0 (dialogue_of store n g) ≡ new_file input
  file = new_file_lem input old lent fits

  pub new_long : length (new_file input) ≡ file_length new_form (states_in input) (groups_in old_form input)
  unfolding dialogue_of
  new_long = sym (ap length file) ∙ length-file_of new_form 0 (dialogue_of store n g) (length-tabulate _ g)

  answers : (room : ℕ) → write_answer store n g 0 room ≡ rewrite_answer input room
  unfolding write_answer write_grounds rewrite_grounds rewrite_answer
  answers room =
      let reads = read_grounds_as old_form input 0 store_words in
      let room-ground : ℕ → List Ground = λ l. (ltb room l, 19) ∷ [] in
      let numbers = read-numbered old_form input 0 store_words in
      let clear = (refuse_clear reads [] numbers (ap refuse (append-nil reads) ∙ old)).0 in
      answer_cong (write_grounds store n g 0 room) (reads ++ room-ground (length (new_file input))) (file_length new_form n g) (length (new_file input)) refl
      (numbered-append reads (room-ground (length (new_file input))) numbers refl)
      (write_behind store n g 0 room held.long (omega arith)
      ∙ store_accepted store n g (output_ground n g room ∷ []) held
      ∙ ap (λ (l : ℕ). refuse (room-ground l)) (sym new_long)
      ∙ sym (refuse_behind reads (room-ground (length (new_file input))) clear))
      (λ z. sym new_long)

  written : (output : List ℕ) → write_buffer store n g 0 output ≡ rewrite_buffer input output
  unfolding write_buffer rewrite_buffer
  written output =
      ap₂ (λ (x : Answered ℕ) (xs : List ℕ). unless_refused output (λ l. overwrite xs output) x) (answers (length output)) file

pub rewrite-written : (input lent : List ℕ) {n g : ℕ} {store after : List ℕ} → length lent ≡ store_words
    → answered (record { n = n; g = g }) ≡ read_answer_as old_form input 0 (length lent) → store ≡ read_buffer_as old_form input 0 lent → after ≡ rested_store store n
    → (output : List ℕ) → (write_answer after n g 0 (length output) ≡ rewrite_answer input (length output)) × (write_buffer after n g 0 output ≡ rewrite_buffer input output)
unfolding old_dialogue
rewrite-written input lent {n} {g} {store} {after} long e s r output =
    let told = read_none old_form input 0 (length lent) (sym e) in
    let old : OldFile input = ap (λ (m : ℕ). refuse (read_grounds_as old_form input 0 m)) (sym long) ∙ told.0 in
    let states : n ≡ states_in input = ap (λ (a : TableRead). a.n) told.1 in
    let groups : g ≡ groups_in old_form input = ap (λ (a : TableRead). a.g) told.1 in
    let is : after ≡ rested_store (overwrite (layout (old_dialogue input)) lent) (states_in input) =
    r ∙ ap₂ (λ (xs : List ℕ) (m : ℕ). rested_store xs m) (s ∙ read-buffer old_form input 0 lent told.0) states in
    rw (is, states, groups) (answers input old lent (omega arith) (length output), written input old lent (omega arith) output)

-- ---- what the call's answer says of the old file

module _ (input : List ℕ) (room : ℕ) where
  abbrev reads : List Ground
  reads = read_grounds_as old_form input 0 store_words

  abbrev short : List Ground
  short = (ltb room (length (new_file input)), 19) ∷ []

  numbers : numbered (read_grounds_as old_form input 0 store_words) ≡ true
  numbers = read-numbered old_form input 0 store_words

  -- it is read, and the new file is as long as was answered, and fits
  pub answered_old : {l : ℕ} → rewrite_answer input room ≡ answered l
      → (read_answer_as old_form input 0 store_words ≡ answered (record { n = states_in input; g = groups_in old_form input })) × (l ≡ length (new_file input)) × (l ≤ room)
  unfolding rewrite_grounds rewrite_answer
  answered_old e =
      let grounds = rewrite_grounds input room in
      let is = answered_value grounds _ e in
      let parts = refuse_clear reads short numbers (clear_refuse grounds (answered_clear grounds _ e)) in
      let fits = ltb-false room (length (new_file input)) (refuse_clear short [] refl parts.1).0.0 in
      (read_answer_lem old_form input 0 store_words (clear_refuse reads parts.0), is, omega arith)

  -- where the largest file fits, a refusal is the old form's
  pub refused_old : max_file ≤ room → {k : ℕ} → rewrite_answer input room ≡ refused k → read_answer_as old_form input 0 store_words ≡ refused k
  unfolding read_answer_as rewrite_grounds rewrite_answer
  refused_old roomy {k} e =
      ⊎_elim
      (λ (q : eqb (refuse reads) 0 ≡ true).
      let old = eqb-true (refuse reads) 0 q in
      let facts = taken old_form input 0 store_words old in
      let long = new_long input old (replicate store_words 0) (omega arith) in
      let fits : length (new_file input) ≤ room = omega (arith, long, file_length-most new_form (states_in input) (groups_in old_form input) facts.small facts.few) in
      let clear = (refuse_clear reads [] numbers (ap refuse (append-nil reads) ∙ old)).0 in
      absurd (answered_not_refused (sym (answer_clear (rewrite_grounds input room) (length (new_file input)) (clear_append reads short clear (le-ltb room (length (new_file input)) fits, tt))) ∙ e)))
      (λ (q : eqb (refuse reads) 0 ≡ false).
      let some = eqb-false (refuse reads) 0 q in
      let is : k ≡ refuse reads = refused-is (rewrite_grounds input room) _ e ∙ sym (refuse-append reads short refl some) in
      answer-refused reads _ is (λ z. some (sym is ∙ z)))
      (decided (eqb (refuse reads) 0))
