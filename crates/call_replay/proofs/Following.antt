-- The loop of `follow`.
--
--   Following store log i at X       before entry i: all before it are followed, `at` is where the set begins that it may be in, X is what
--                                    they hold
--   following_start                  before the first entry
--   held_state                       an entry that the set has is a state
--   following_turn                   one entry more, its bit set in place
--   following_stop, following_end    the entry breaks the walk; none is left
use Prim.Native.Nat.{ℕ, ◌+◌, ◌*◌, ◌/◌, ◌%◌, ◌^◌, ◌≤◌, ◌<◌}
use native.Mathlib.Nat.{not-suc-le-zero, le_antisymm}
use native.Mathlib.Numerals.{add-one}
use native.Mathlib.Omega.{arith}
use mathlib.Core.Path.{◌≡◌, refl, sym, ap, ◌∙◌, subst}
use mathlib.Core.Logic.{⊎_elim}
use mathlib.Core.Bool.{Bool, true, false, not}
use mathlib.Core.List.{List}
use lib.Bits.{bit_or}
use lib.ListN.{get_or, set, replicate}
use Rattle.model.specs.Sets.{WORDS, max_states, Set, member, single, union}
use Rattle.model.specs.Tables.{Table}
use Rattle.model.specs.Stores.{store_words, row_at, set_at, table_of}
use Rattle.basics.proofs.BoundLaws.{below_suc, first-is, first-none}
use Rattle.model.proofs.SetsMembers.{Proper, set_of_proper, in_bound}
use Rattle.model.proofs.StoresTables.{row_is}
use Rattle.core_state_set.proofs.SetsWords.{with_bit_lem}
use Rattle.call_replay.specs.Logs.{entry_count, entry, may_hold, followed, seen}
use Rattle.call_replay.proofs.LogEntries.{breaks, seen_none, seen_more}

-- the table of all rows of a store
abbrev pub all_rows : List ℕ → Table
all_rows store = table_of store max_states 0

pub record Following (store log : List ℕ) (i at : ℕ) (X : Set) : Type 0 where
  pub fits : at + WORDS ≤ store_words
  pub next : set_at store at ≡ may_hold (all_rows store) log i
  pub held : (j : ℕ) → j < i → member (may_hold (all_rows store) log j) (entry log j) ≡ true
  pub seen-is : X ≡ seen log i

pub held_state : (X : Set) {s : ℕ} {b : Bool} → b ≡ member X s → b ≡ true → s < max_states
held_state X e t = in_bound {X = X} (record { is = sym e ∙ t })

module _ (store log : List ℕ) where
  pub following_start : Following store log 0 0 (replicate WORDS 0)
  unfolding may_hold table_of
  following_start = record { fits = omega arith; next = refl; held = λ j h. absurd (not-suc-le-zero h); seen-is = seen_none log }

  module _ {i at : ℕ} {X : Set} (so : Following store log i at X) where
    following_bit : {s : ℕ} → s < max_states → set X (s / 64) (bit_or (get_or X (s / 64) 0) (1 * 2 ^ (s % 64) % 2 ^ 64)) ≡ union X (single s)
    unfolding seen
    following_bit {s} h = with_bit_lem X s (subst Proper (sym so.seen-is) (set_of_proper _)) (omega arith)

    -- the set at `at` has the entry or not as the set that the entry may be in
    tested : {s : ℕ} → s ≡ entry log i → member (may_hold (all_rows store) log i) (entry log i) ≡ member (set_at store at) s
    tested e = ap (λ (Z : Set). member Z (entry log i)) (sym so.next) ∙ ap (member (set_at store at)) (sym e)

    pub following_turn : {s : ℕ} → s ≡ entry log i → member (set_at store at) s ≡ true
        → Following store log (i + 1) (row_at s) (set X (s / 64) (bit_or (get_or X (s / 64) 0) (1 * 2 ^ (s % 64) % 2 ^ 64)))
    unfolding may_hold
    following_turn {s} e m =
        let bound : s < max_states = in_bound {X = set_at store at} (record { is = m }) in
        rw (add-one i)
        (record {
          fits = omega arith;
          next = sym (row_is store max_states 0 s bound) ∙ ap (all_rows store).row e;
          held = λ j h. ⊎_elim (λ q. rw q (tested e ∙ m)) (λ l. so.held j l) (below_suc h);
          seen-is = following_bit bound ∙ ap (λ (Z : Set). union Z (single s)) so.seen-is ∙ ap (λ (r : ℕ). union (seen log i) (single r)) e ∙ seen_more log i;
        })

    pub following_stop : {s : ℕ} → i < entry_count log → s ≡ entry log i → member (set_at store at) s ≡ false → i ≡ followed (all_rows store) log
    unfolding followed
    following_stop {s} h e m =
        sym (first-is (breaks (all_rows store) log) (entry_count log) i h (ap not (tested e ∙ m)) (λ j l. ap not (so.held j l)))

    pub following_end : i ≤ entry_count log → entry_count log ≤ i
        → (entry_count log ≡ followed (all_rows store) log) × (X ≡ seen log (entry_count log))
    unfolding followed
    following_end h l = (
      sym (first-none (breaks (all_rows store) log) (entry_count log) (λ j k. ap not (so.held j (omega arith)))),
      so.seen-is ∙ ap (seen log) (le_antisymm h l),
    )
