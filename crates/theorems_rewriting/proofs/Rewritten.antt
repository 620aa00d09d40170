-- The proof of specs/Rewriting.
--
--   dead_rests         the dead ends, and no other state, rest; forbidden-same: so that the forbidden states are the marked ones
--   no_hangs           where every dead end rests, the marked states are the forbidden ones: the table is the old one
--   rewritten-held     a store that holds the rewritten dialogue is accepted; dialogue_is: and that dialogue is the one it holds
--   storable           which a file can hold
--   read-back          so its file is read; same-decisions: and decided as the old table is
--   rewriting          specs/Rewriting
use Prim.Native.Nat.{ℕ, ◌+◌, ◌*◌, ◌≤◌, ◌<◌}
use native.Mathlib.Omega.{arith}
use mathlib.Core.Path.{◌≡◌, refl, sym, ap, ap₂, ◌∙◌, subst}
use mathlib.Core.Logic.{inl, ⊎_elim, ◌↔◌}
use mathlib.Core.Bool.{true, false, cond}
use mathlib.Core.List.{List, []}
use borrow.Author.Tests.{le-ltb}
use lib.Dec.{eqb}
use lib.ListN.{length}
use Rattle.model.specs.Sets.{max_states, Set, member, states, union, empty}
use Rattle.model.specs.Tables.{Table, Dialogue, hangs, table_from}
use Rattle.model.specs.Rounds.{run}
use Rattle.model.specs.Paths.{smallest_path}
use Rattle.basics.specs.Refusals.{refuse, Answered, answered, unless_refused}
use Rattle.model.specs.Stores.{store_words, dialogue_of, table_of, layout, beyond}
use Rattle.model.specs.Blocks.{contents_of}
use Rattle.model.specs.Contents.{old_form, new_form, heads, set_width, header_bytes, set_number}
use Rattle.model.specs.Files.{file_of}
use Rattle.model.specs.Calls.{overwrite, max_allowance, Decision, decide_grounds, decide_limits, decide_answer, decide_buffer, decision_of, states_in, groups_in, read_buffer}
use Rattle.model.specs.Resting.{Dead}
use Rattle.model.specs.RoundTrip.{WriteRead}
use Rattle.basics.proofs.BoundLaws.{clash, same_test, get_or-tabulate}
use Rattle.model.proofs.SetsMembers.{Proper, set_of_proper, In, in_bound, in_union, union_in, in_states, states_in_lem, same_set}
use Rattle.model.proofs.HangLaws.{dead_none, none_dead, hangs_in}
use Rattle.model.proofs.ListsInParts.{length-overwrite}
use Rattle.basics.proofs.RefusalLaws.{clear_refuse, answer-none}
use Rattle.model.proofs.SetsBytes.{set_in_proper}
use Rattle.model.proofs.ContentLaws.{dialogue_in-row, heads-each, sets-each}
use Rattle.model.proofs.StoresTables.{Holds, Laid, length-layout, overwrite-holds, holds-layout, Within, beyond_below, below_beyond, clean_malformed, holds_clean, holds_dialogue}
use Rattle.model.proofs.StoresAccepted.{Store, accepted_store, store_accepted}
use Rattle.model.proofs.RoundTrips.{Storable, Taken, taken, many-groups, laid, file-read, new_read, storable as form-storable}
use Rattle.theorems_rewriting.specs.Rewriting.{dead_ends, rewritten, old_table, OldFile, old_dialogue, new_file, OldFileDecisions, OldFileRewriting}

-- ---- the table

module _ (d : Dialogue) where
  dead_ends-within : Within d.n (dead_ends d)
  unfolding dead_ends states
  dead_ends-within = record { proper = set_of_proper _; below = λ s h. (states_in_lem d.n _ h).0 }

  -- a dead end rests, so it is no hang
  rests : {s : ℕ} → In (hangs d.n d.row (dead_ends d)) s → ⊥
  unfolding dead_ends
  rests h =
      let w = hangs_in d.n d.row (dead_ends d) h in
      let dead = w.1 in
      clash (in_states d.n _ (in_bound h) w.0 (search (dead, refl))).is w.2

  dead_rests : (s : ℕ) → s < max_states → (member (rewritten d).resting s ≡ true) ↔ ((s < d.n) × Dead d s)
  unfolding rewritten dead_ends
  dead_rests s l = (
    λ e. let w = states_in_lem d.n _ (record { is = e }) in (w.0, dead_none d.row s w.1),
    λ w. (in_states d.n _ l w.0 (none_dead d.row s w.1)).is,
  )

  forbidden-same : (s : ℕ) → member (table_from (rewritten d)).forbidden s ≡ member d.marked s
  unfolding table_from rewritten
  forbidden-same s =
      same_test _ (member d.marked s)
      (λ e. ⊎_elim (λ h. h.is) (λ h. absurd (rests h)) (union_in (record { is = e })))
      (λ e. (in_union {X = d.marked} (inl (record { is = e }))).is)

  no_hangs : Proper d.marked → table_from (rewritten d) ≡ old_table d
  unfolding table_from rewritten old_table union
  no_hangs proper =
      let same : union d.marked (hangs d.n d.row (dead_ends d)) ≡ d.marked =
      same_set _ d.marked (set_of_proper _) proper (λ s h. ⊎_elim (λ i. i) (λ i. absurd (rests i)) (union_in h)) (λ s h. in_union (inl h)) in
      λ i. record { n = d.n; initial = d.initial; forbidden = same i; groups = d.groups; row = d.row }

-- ---- an old file

module _ (input : List ℕ) (old : OldFile input) where
  abbrev n : ℕ
  n = states_in input

  abbrev g : ℕ
  g = groups_in old_form input

  abbrev now : Dialogue
  now = rewritten (old_dialogue input)

  facts : Taken old_form input n g
  facts = taken old_form input 0 store_words old

  many : length now.groups ≡ g
  unfolding rewritten old_dialogue
  many = many-groups old_form input n g

  laid_now : Laid now
  unfolding rewritten old_dialogue
  laid_now =
      let l = laid old_form input n g in
      record { initial = l.initial; marked = l.marked; resting = (dead_ends-within (old_dialogue input)).proper.long; group = l.group; row = l.row }

  -- each set of the contents has states of the table only
  set : (k : ℕ) → k < heads old_form + g + n → Within n (set_number (contents_of input) n k)
  unfolding set_number
  set k h = record { proper = set_in_proper (contents_of input) (set_width n) (header_bytes + set_width n * k); below = beyond_below n _ (facts.within k h) }

  dead : Within n (dead_ends (old_dialogue input))
  unfolding old_dialogue
  dead = dead_ends-within (old_dialogue input)

  storable : Storable new_form now g
  unfolding rewritten old_dialogue
  storable =
      record {
        many = many;
        small = facts.small;
        few = facts.few;
        within =
            sets-each new_form now many (λ k X. Within n X)
            (heads-each new_form now (λ k X. Within n X) (set 0 (omega arith)) (set 1 (omega arith)) (λ l. dead))
            (λ j l. subst (Within n) (sym (get_or-tabulate (λ i. set_number (contents_of input) n (heads old_form + i)) g j [] l)) (set (heads old_form + j) (omega arith)))
            (λ s l. subst (Within n) (sym (dialogue_in-row old_form (contents_of input) n g s l)) (set (heads old_form + g + s) (omega arith)));
      }

  -- a store that holds the rewritten dialogue
  module _ (store : List ℕ) (long : store_words ≤ length store) (holds : Holds store (rewritten (old_dialogue input))) where
    pub rewritten-held : Store store (states_in input) (groups_in old_form input)
    unfolding rewritten old_dialogue
    rewritten-held =
        let below : (X : Set) → Within n X → beyond n X ≡ false = λ X w. below_beyond n X w.below in
        record {
          long = long;
          draft = facts.draft;
          small = facts.small;
          few = facts.few;
          clean =
              clean_malformed store n g
              (holds_clean store now holds many facts.few facts.small (facts.within 0 (omega arith)) (facts.within 1 (omega arith)) (below _ dead)
              (λ j l. ap (beyond n) (get_or-tabulate (λ i. set_number (contents_of input) n (heads old_form + i)) g j empty l) ∙ facts.within (heads old_form + j) (omega arith))
              (λ s l. ap (beyond n) (dialogue_in-row old_form (contents_of input) n g s l) ∙ facts.within (heads old_form + g + s) (omega arith)));
        }

    pub dialogue_is : dialogue_of store (states_in input) (groups_in old_form input) ≡ rewritten (old_dialogue input)
    unfolding rewritten old_dialogue
    dialogue_is = holds_dialogue store now holds many facts.few facts.small (λ s l. rw (le-ltb s n l))

  module _ (store : List ℕ) (fits : store_words ≤ length store) where
    abbrev filled : List ℕ
    filled = overwrite (layout now) store

    holds : Holds filled now
    holds = overwrite-holds now laid_now store

    long : store_words ≤ length filled
    long = let size = length-layout now laid_now in omega (arith, length-overwrite (layout now) store (omega arith))

    held : Store filled n g
    held = rewritten-held filled long holds

    is : dialogue_of filled n g ≡ now
    is = dialogue_is filled long holds

    table_is : table_of filled n g ≡ old_table (old_dialogue input)
    unfolding table_of old_dialogue
    table_is = ap table_from is ∙ no_hangs (old_dialogue input) (set 1 (omega arith)).proper

    read_back : WriteRead filled n g 0 (new_file input) store
    unfolding new_file
    read_back =
        subst (λ (u : Dialogue). WriteRead filled n g 0 (file_of new_form 0 u) store) is
        (new_read filled n g 0 store held (omega arith) (subst (λ (u : Dialogue). Storable new_form u g) (sym is) storable) fits)

    buffer-is : read_buffer (new_file input) 0 store ≡ filled
    buffer-is = read_back.buffer ∙ ap (λ xs. overwrite xs store) (sym (holds-layout filled now holds))

    answers : (allowance room : ℕ) → allowance ≤ max_allowance → max_states ≤ room
        → decide_answer filled n g allowance room ≡ answered (decision_of (old_table (old_dialogue input)) (run (old_table (old_dialogue input)) allowance))
    unfolding decide_answer decide_grounds
    answers allowance room a h =
        let none : refuse (decide_grounds filled n g allowance room) ≡ 0 =
        store_accepted filled n g (decide_limits allowance room) held
        ∙ clear_refuse _ (le-ltb max_allowance allowance a, (le-ltb room max_states h, tt)) in
        answer-none (decide_grounds filled n g allowance room) _ refl none ∙ ap (λ (u : Table). answered (decision_of u (run u allowance))) table_is

    same-decisions : OldFileDecisions (old_table (old_dialogue input)) filled n g
    unfolding decide_buffer
    same-decisions =
        record {
          answers = answers;
          buffers = λ allowance path a h.
              ap₂ (λ (x : Answered Decision) (xs : List ℕ). unless_refused path (λ d. cond (eqb d.verdict 1) (overwrite xs path) path) x) (answers allowance (length path) a h) (ap smallest_path table_is);
        }

pub rewriting : OldFileRewriting
rewriting =
    record {
      old_files = λ store n g other words accepted bare fits.
          let held = (accepted_store store n g [] accepted).0 in
          let r = file-read old_form store n g 0 other held (omega arith) (form-storable old_form store n g words held) (λ l. bare) fits in
          (r.answer, r.buffer);
      resting = dead_rests;
      table = forbidden-same;
      accepted = λ input store old fits. (read_back input old store fits).answer;
      held = λ input store old fits. buffer-is input old store fits;
      decisions = λ input store old fits.
          subst (λ (xs : List ℕ). OldFileDecisions (old_table (old_dialogue input)) xs (states_in input) (groups_in old_form input)) (sym (buffer-is input old store fits))
          (same-decisions input old store fits);
    }
