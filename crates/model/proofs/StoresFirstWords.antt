-- The calls read the first words of a store and no other.
--
--   same_word, same-part                    words and sets of two buffers that are alike in their first words
--   dialogue_words, table-words             the dialogue and the table of two such stores
--   malformed-same, grounds-same            ground 17, and the shared grounds, of both
--   same_dialogue, same_call                a call whose answer is made of the dialogue or of the table answers the same; same-buffer: and leaves the same
--   same_write                              the same of write
--   first-words                             specs/Promises
use Prim.Native.Nat.{ℕ, ◌+◌, ◌≤◌, ◌<◌}
use native.Mathlib.Omega.{arith}
use mathlib.Core.Path.{◌≡◌, refl, sym, ap, ap₂, ◌∙◌, fun_ext}
use mathlib.Core.Logic.{⊎_elim}
use mathlib.Core.Bool.{true, false, cond, not, ◌&&◌, ◌||◌}
use mathlib.Core.List.{List, [], ◌∷◌, ◌++◌}
use borrow.Author.Tests.{ltb-true, ltb-false, le-ltb}
use lib.Dec.{eqb, leb, ltb, lit≤}
use lib.ListN.{length, get_or, take, drop, take-append-drop}
use lib.Seq.{length-take-le, get_or-take}
use Rattle.model.specs.Sets.{WORDS, max_states, empty}
use Rattle.model.specs.Tables.{Table, Dialogue, table_from}
use Rattle.model.specs.Rounds.{run}
use Rattle.model.specs.Paths.{has_path, smallest_path}
use Rattle.basics.specs.Refusals.{Ground, refuse, answer, unless_refused}
use Rattle.model.specs.Stores.{max_groups, store_words, marked_at, resting_at, group_at, row_at, set_at, dialogue_of, table_of, beyond, non_zero, malformed, bad_states, shared_grounds}
use Rattle.model.specs.Blocks.{max_site}
use Rattle.model.specs.Contents.{new_form}
use Rattle.model.specs.Files.{file_of, file_length}
use Rattle.model.specs.Calls.{overwrite, Decision, decide_limits, decide_grounds, decision_of, decide_answer, decide_buffer, Shortest, path_ground, path_found, shortest_grounds, shortest_answer, shortest_buffer, output_ground, write_grounds, write_answer, write_buffer}
use Rattle.model.specs.Promises.{FirstWords}
use Rattle.basics.proofs.BoundLaws.{or_false, decided, lt_or_ge, any_cong, tabulate_cong}
use Rattle.basics.proofs.RefusalLaws.{numbered, unless_value, answer_cong}
use Rattle.model.proofs.ListsInParts.{part_front}
use Rattle.model.proofs.StoresAccepted.{accepted_store}
use Rattle.model.proofs.CallLaws.{write_over, write_behind, writable}

pub non_zero_cong : (xs ys : List ℕ) (from to : ℕ) → ((i : ℕ) → i < to → get_or xs i 0 ≡ get_or ys i 0) → non_zero xs from to ≡ non_zero ys from to
unfolding non_zero
non_zero_cong xs ys from to e = any_cong _ _ to (λ i h. ap (λ (x : ℕ). leb from i && not (eqb x 0)) (e i h))

pub states_le : (n g : ℕ) → bad_states n g ≡ false → n ≤ max_states
unfolding bad_states
states_le n g e = ltb-false max_states n (or_false (eqb n 0 && not (eqb g 0)) (ltb max_states n) e).1

-- two buffers that are alike in their first k words
module _ (k : ℕ) (xs ys : List ℕ) (long : k ≤ length xs) (long' : k ≤ length ys) (e : take k xs ≡ take k ys) where
  pub same_word : (i : ℕ) → i < k → get_or xs i 0 ≡ get_or ys i 0
  same_word i h = sym (get_or-take k xs i 0 h) ∙ ap (λ (zs : List ℕ). get_or zs i 0) e ∙ get_or-take k ys i 0 h

  front_part : (zs : List ℕ) (at : ℕ) → k ≤ length zs → at + WORDS ≤ k → set_at zs at ≡ set_at (take k zs) at
  unfolding set_at
  front_part zs at l h =
      ap (λ (ws : List ℕ). take WORDS (drop at ws)) (sym (take-append-drop k zs))
      ∙ part_front (take k zs) (drop k zs) at WORDS (omega (arith, length-take-le k zs l))

  pub same-part : (at : ℕ) → at + WORDS ≤ k → set_at xs at ≡ set_at ys at
  same-part at h = front_part xs at long h ∙ ap (λ (zs : List ℕ). set_at zs at) e ∙ sym (front_part ys at long' h)

module _ (store other : List ℕ) (long : store_words ≤ length store) (long' : store_words ≤ length other) (e : take store_words store ≡ take store_words other) where
  same-set_at : (at : ℕ) → at + WORDS ≤ store_words → set_at store at ≡ set_at other at
  same-set_at = same-part store_words store other long long' e

  pub dialogue_words : (n g : ℕ) → n ≤ max_states → g ≤ max_groups → dialogue_of store n g ≡ dialogue_of other n g
  unfolding dialogue_of
  dialogue_words n g small few = λ i.
      record {
        n = n;
        initial = same-set_at 0 (lit≤ tt) i;
        marked = same-set_at marked_at (lit≤ tt) i;
        resting = same-set_at resting_at (lit≤ tt) i;
        groups = tabulate_cong _ _ g (λ j h. same-set_at (group_at j) (omega arith)) i;
        row = fun_ext same_row i;
      }
    where
      same_row : (s : ℕ) → cond (ltb s n) (set_at store (row_at s)) empty ≡ cond (ltb s n) (set_at other (row_at s)) empty
      same_row s = ⊎_elim (λ q. rw q (same-set_at (row_at s) (omega (arith, ltb-true s n q)))) (λ q. rw q) (decided (ltb s n))

  pub table-words : (n g : ℕ) → n ≤ max_states → g ≤ max_groups → table_of store n g ≡ table_of other n g
  unfolding table_of
  table-words n g small few = ap table_from (dialogue_words n g small few)

  pub malformed-same : (n g : ℕ) → n ≤ max_states → g ≤ max_groups → malformed store n g ≡ malformed other n g
  unfolding malformed
  malformed-same n g small few =
      ap₂ ◌||◌
      (ap₂ ◌||◌
      (ap₂ ◌||◌
      (ap₂ ◌||◌
      (ap₂ ◌||◌
      (ap₂ ◌||◌ (ap (beyond n) (same-set_at 0 (lit≤ tt))) (ap (beyond n) (same-set_at marked_at (lit≤ tt))))
      (ap (beyond n) (same-set_at resting_at (lit≤ tt))))
      (any_cong _ _ g (λ j h. ap (beyond n) (same-set_at (group_at j) (omega arith)))))
      (any_cong _ _ n (λ s h. ap (beyond n) (same-set_at (row_at s) (omega arith)))))
      (zero_same (group_at g) (group_at max_groups) (lit≤ tt)))
      (zero_same (row_at n) store_words (lit≤ tt))
    where
      zero_same : (from to : ℕ) → to ≤ store_words → non_zero store from to ≡ non_zero other from to
      zero_same from to l = non_zero_cong store other from to (λ i h. same_word store_words store other long long' e i (omega arith))

  pub grounds-same : (n g : ℕ) (later : List Ground) → refuse (shared_grounds store n g ++ later) ≡ refuse (shared_grounds other n g ++ later)
  unfolding refuse
  grounds-same n g later =
      rw (le-ltb (length store) store_words long, le-ltb (length other) store_words long')
      (⊎_elim
      (λ (b : bad_states n g ≡ true). rw b)
      (λ (b : bad_states n g ≡ false).
      ⊎_elim
      (λ (c : ltb max_groups g ≡ true). rw (b, c))
      (λ (c : ltb max_groups g ≡ false). rw (b, c, malformed-same n g (states_le n g b) (ltb-false max_groups g c)))
      (decided (ltb max_groups g)))
      (decided (bad_states n g)))

  -- a call that is refused on the shared grounds and others of its own, and whose answer is made of the dialogue
  same_dialogue : {A : Type 0} (f : Dialogue → A) (n g : ℕ) (later : List Ground) → numbered later ≡ true
      → answer (shared_grounds store n g ++ later) (f (dialogue_of store n g)) ≡ answer (shared_grounds other n g ++ later) (f (dialogue_of other n g))
  same_dialogue f n g later m =
      answer_cong (shared_grounds store n g ++ later) (shared_grounds other n g ++ later) _ _ m m (grounds-same n g later)
      (λ z. let held = (accepted_store store n g later z).0 in ap f (dialogue_words n g held.small held.few))

  -- or of the table
  pub same_call : {A : Type 0} (f : Table → A) (n g : ℕ) (later : List Ground) → numbered later ≡ true
      → answer (shared_grounds store n g ++ later) (f (table_of store n g)) ≡ answer (shared_grounds other n g ++ later) (f (table_of other n g))
  unfolding table_of
  same_call f = same_dialogue (λ d. f (table_from d))

  -- and what is left in its buffer
  pub same-buffer : {A : Type 0} (f : Table → A) (left : Table → A → List ℕ) (buffer : List ℕ) (n g : ℕ) (later : List Ground) → numbered later ≡ true
      → unless_refused buffer (left (table_of store n g)) (answer (shared_grounds store n g ++ later) (f (table_of store n g)))
      ≡ unless_refused buffer (left (table_of other n g)) (answer (shared_grounds other n g ++ later) (f (table_of other n g)))
  same-buffer f left buffer n g later m =
      unless_value (shared_grounds store n g ++ later) buffer (left (table_of store n g)) (f (table_of store n g))
      ∙ ap (unless_refused buffer (λ xs. xs)) (same_call (λ t. left t (f t)) n g later m)
      ∙ sym (unless_value (shared_grounds other n g ++ later) buffer (left (table_of other n g)) (f (table_of other n g)))

  -- the same of write, which looks at the site behind the store's length
  same_write : {A : Type 0} (f : Dialogue → A) (n g site room : ℕ)
      → answer (write_grounds store n g site room) (f (dialogue_of store n g)) ≡ answer (write_grounds other n g site room) (f (dialogue_of other n g))
  unfolding write_grounds
  same_write f n g site room =
      answer_cong (write_grounds store n g site room) (write_grounds other n g site room) _ _ refl refl
      (⊎_elim
      (λ (h : max_site < site). write_over store n g site room long h ∙ sym (write_over other n g site room long' h))
      (λ (h : site ≤ max_site).
      write_behind store n g site room long h ∙ grounds-same n g (output_ground n g room ∷ []) ∙ sym (write_behind other n g site room long' h))
      (lt_or_ge max_site site))
      (λ z. let held = (writable store n g site room z).held in ap f (dialogue_words n g held.small held.few))

  pub first-words : FirstWords store other
  unfolding decide_answer decide_buffer decide_grounds shortest_answer shortest_buffer shortest_grounds write_answer write_buffer
  first-words =
      record {
        decide = λ n g allowance path.
            let decided : Table → Decision = λ t. decision_of t (run t allowance) in (
              same_call decided n g (decide_limits allowance (length path)) refl,
              same-buffer decided (λ t a. cond (eqb a.verdict 1) (overwrite (smallest_path t) path) path) _ n g (decide_limits allowance (length path)) refl,
            );
        shortest-path = λ n g path.
            let found : Table → Shortest = λ t. path_found t (has_path t) in (
              same_call found n g (path_ground (length path) ∷ []) refl,
              same-buffer found (λ t a. cond (eqb a.found 1) (overwrite (smallest_path t) path) path) path n g (path_ground (length path) ∷ []) refl,
            );
        write = λ n g site output. (
          same_write (λ d. file_length new_form n g) n g site (length output),
          unless_value (write_grounds store n g site (length output)) output _ (file_length new_form n g)
              ∙ ap (unless_refused output (λ xs. xs)) (same_write (λ d. overwrite (file_of new_form site d) output) n g site (length output))
              ∙ sym (unless_value (write_grounds other n g site (length output)) output _ (file_length new_form n g)),
        );
      }
