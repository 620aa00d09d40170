-- The store of an old file with its dead ends put to rest.
--
--   rested_by       what `rest_dead_ends` leaves, from its calls
--   dead_same       what is put to rest are the dead ends
--   rested-holds    so the store holds the rewritten dialogue
--   rested-held     which write accepts
--   new_file_lem        and the file of which is the new file
use Prim.Native.Nat.{ℕ, ◌+◌, ◌≤◌, ◌<◌}
use native.Mathlib.Omega.{arith}
use mathlib.Core.Path.{◌≡◌, sym, ap, ap₂, ◌∙◌}
use mathlib.Core.Logic.{◌⊎◌, inl, inr, ⊎_elim}
use mathlib.Core.List.{List}
use borrow.Author.Tests.{lt-ltb}
use lib.ListN.{length}
use Rattle.model.specs.Sets.{WORDS, Set, member, states, first_states, empty, subset}
use Rattle.model.specs.Tables.{Dialogue}
use Rattle.model.specs.Stores.{store_words, marked_at, resting_at, group_at, row_at, set_at, dialogue_of, layout}
use Rattle.model.specs.Contents.{old_form, new_form}
use Rattle.model.specs.Files.{file_of}
use Rattle.model.specs.Calls.{overwrite, states_in, groups_in}
use Rattle.basics.proofs.BoundLaws.{and_true, and_intro}
use Rattle.model.proofs.SetsMembers.{Proper, set_of_proper, in_bound, in_set_of, set_of_in, in_states, states_in_lem, in_first_states, first_states_in, same_set}
use Rattle.model.proofs.ListsInParts.{length-overwrite}
use Rattle.model.proofs.StoresTables.{Holds, Laid, length-layout, overwrite-holds}
use Rattle.model.proofs.StoresAccepted.{Store}
use Rattle.model.proofs.RoundTrips.{Taken, taken, laid}
use Rattle.core_rows.specs.Rows.{rows_of, row_in, meet_hold}
use Rattle.core_table.specs.Writing.{overwrite_from}
use Rattle.core_rows.proofs.RowsLent.{row_of, dead_is}
use Rattle.core_table.proofs.StoresPut.{put_long, put_own, put_apart}
use Rattle.theorems_rewriting.specs.Rewriting.{dead_ends, rewritten, OldFile, old_dialogue, new_file}
use Rattle.theorems_rewriting.proofs.Rewritten.{rewritten-held, dialogue_is}
use Rattle.call_rewrite.specs.RewriteAnswers.{rested_store}

pub rested_by : (store after : List ℕ) (n : ℕ) {R : List ℕ} {X Y Z : Set} → R ≡ rows_of store → X ≡ first_states n → Y ≡ empty
    → Z ≡ meet_hold R X Y → after ≡ overwrite_from resting_at Z store → after ≡ rested_store store n
unfolding rested_store
rested_by store after n {X = X} {Y = Y} r x y z put =
    put
    ∙ ap (λ (W : Set). overwrite_from resting_at W store)
    (z ∙ ap (λ (xs : List ℕ). meet_hold xs X Y) r ∙ ap₂ (meet_hold (rows_of store)) x y)

-- ---- an old file

module _ (input : List ℕ) (old : OldFile input) (lent : List ℕ) (fits : store_words ≤ length lent) where
  abbrev n : ℕ
  n = states_in input

  abbrev g : ℕ
  g = groups_in old_form input

  abbrev d : Dialogue
  d = old_dialogue input

  facts : Taken old_form input n g
  facts = taken old_form input 0 store_words old

  laid_old : Laid d
  unfolding old_dialogue
  laid_old = laid old_form input n g

  -- the store that read leaves
  abbrev store : List ℕ
  store = overwrite (layout d) lent

  store_long : store_words ≤ length store
  store_long = let size = length-layout d laid_old in omega (arith, length-overwrite (layout d) lent (omega arith))

  holds : Holds store d
  holds = overwrite-holds d laid_old lent

  row : (s : ℕ) → s < n → row_in (rows_of store) s ≡ d.row s
  unfolding old_dialogue
  row s l = row_of store s ∙ holds.row s (omega (arith, facts.small)) ∙ rw (lt-ltb s n l)

  abbrev resting : Set
  resting = meet_hold (rows_of store) (first_states n) empty

  dead_proper : Proper (dead_ends d)
  unfolding dead_ends states
  dead_proper = set_of_proper _

  dead_same : resting ≡ dead_ends d
  unfolding meet_hold dead_ends old_dialogue
  dead_same =
      same_set resting (dead_ends d) (set_of_proper _) dead_proper
      (λ s h.
      let both = and_true (member (first_states n) s) (subset (row_in (rows_of store) s) empty) (set_of_in _ h) in
      let l = first_states_in (record { is = both.0 }) in
      in_states n _ (in_bound h) l (sym (dead_is d.row s) ∙ ap (λ (X : Set). subset X empty) (sym (row s l)) ∙ both.1))
      (λ s h.
      let parts = states_in_lem n _ h in
      in_set_of _ (in_bound h)
      (and_intro (member (first_states n) s) (subset (row_in (rows_of store) s) empty) (in_first_states (in_bound h) parts.0).is
      (ap (λ (X : Set). subset X empty) (row s parts.0) ∙ dead_is d.row s ∙ parts.1)))

  resting-long : length resting ≡ WORDS
  unfolding meet_hold
  resting-long = (set_of_proper _).long

  abbrev after : List ℕ
  after = overwrite_from resting_at resting store

  inside : resting_at + length resting ≤ length store
  inside = omega (arith, resting-long, store_long)

  after-long : store_words ≤ length after
  after-long = omega (arith, put_long resting_at resting store inside, store_long)

  apart : (at : ℕ) → at + WORDS ≤ store_words → (at + WORDS ≤ resting_at) ⊎ (resting_at + WORDS ≤ at) → set_at after at ≡ set_at store at
  apart at h side =
      put_apart resting_at resting store inside at (omega (arith, store_long))
      (⊎_elim inl (λ b. inr (omega (arith, resting-long))) side)

  rested-holds : Holds after (rewritten d)
  unfolding rewritten set_at
  rested-holds =
      record {
        initial = apart 0 (omega arith) (inl (omega arith)) ∙ holds.initial;
        marked = apart marked_at (omega arith) (inl (omega arith)) ∙ holds.marked;
        resting = put_own resting_at resting store inside WORDS resting-long ∙ dead_same;
        group = λ j h. apart (group_at j) (omega arith) (inr (omega arith)) ∙ holds.group j h;
        row = λ s h. apart (row_at s) (omega arith) (inr (omega arith)) ∙ holds.row s h;
      }

  pub rested-held : Store (rested_store (overwrite (layout (old_dialogue input)) lent) (states_in input)) (states_in input) (groups_in old_form input)
  unfolding rested_store
  rested-held = rewritten-held input old after after-long rested-holds

  pub new_file_lem : file_of new_form 0 (dialogue_of (rested_store (overwrite (layout (old_dialogue input)) lent) (states_in input)) (states_in input) (groups_in old_form input)) ≡ new_file input
  unfolding rested_store new_file
  new_file_lem = ap (file_of new_form 0) (dialogue_is input old after after-long rested-holds)
