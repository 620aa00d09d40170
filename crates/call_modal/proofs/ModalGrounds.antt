-- Laws of the call's grounds.
--
--   rows-beyond, rows_used                        `is_malformed`: ground 17 of the second buffer
--   impossible_start, -hit, -pass, -end            `any_impossible`: a loop that looks for a certain step that is not possible; impossible-is: by its step
--   ModalHeld                                     no ground before 21 holds
--   short-possible, refuse-shared, behind_shared  `accept_possible`: the grounds in their order
--   accepted                                      what a call that is answered knows; accepting: and back
use Prim.Native.Nat.{ℕ, ◌+◌, ◌*◌, ◌-◌, ◌≤◌, ◌<◌}
use native.Mathlib.Nat.{zero-add}
use native.Mathlib.Omega.{arith}
use mathlib.Core.Path.{◌≡◌, refl, sym, ap, ap₂, ◌∙◌}
use mathlib.Core.Logic.{◌↔◌}
use mathlib.Core.Bool.{Bool, true, false, cond, not, ◌||◌}
use mathlib.Core.List.{List, [], ◌∷◌, ◌++◌}
use borrow.Author.Tests.{lt-ltb, le-ltb, ltb-false, not-false}
use lib.Dec.{ltb}
use lib.ListN.{length}
use Rattle.basics.specs.Bounds.{any}
use Rattle.model.specs.Sets.{WORDS, max_states, Set, member, subset}
use Rattle.basics.specs.Refusals.{Ground, refuse}
use Rattle.model.specs.Stores.{max_groups, store_words, row_at, set_at, beyond, non_zero, malformed, bad_states, shared_grounds}
use Rattle.model.specs.Calls.{path_ground}
use Rattle.basics.proofs.BoundLaws.{or_false, or_none, or_right, not_true, is_false, clash, any_intro, any_find, any_start, any_turn, any-end, any_cong, all_not}
use Rattle.basics.proofs.RefusalLaws.{Clear, refuse-first, refuse_or, refuse-append, refuse-past, clear_refuse, refuse_clear}
use Rattle.model.proofs.SetsMembers.{subset_in}
use Rattle.model.proofs.StoresAccepted.{Store, accepted_store}
use Rattle.core_refusals.specs.declared.Refusal.{Refusal}
use Rattle.core_refusals.specs.Refusals.{number}
use Rattle.core_refusals.proofs.RefusalNumbers.{number_some}
use Rattle.core_rows.specs.Rows.{rows_of, row_in}
use Rattle.core_rows.proofs.RowsLent.{row_of}
use Rattle.call_modal.specs.Modal.{possible_words, malformed_rows, certain_impossible, modal_grounds}

-- ---- ground 17 of the second buffer

module _ (possible : List ℕ) (n : ℕ) where
  abbrev from_0 : Bool
  from_0 = any n (λ j. beyond n (set_at possible (0 + WORDS * j)))

  at_0 : from_0 ≡ any n (λ s. beyond n (set_at possible (WORDS * s)))
  at_0 = any_cong _ _ n (λ s h. ap (λ (i : ℕ). beyond n (set_at possible i)) (zero-add (WORDS * s)))

  pub rows-beyond : {b : Bool} → b ≡ from_0 → b ≡ true → b ≡ malformed_rows possible n
  unfolding malformed_rows
  rows-beyond e t = t ∙ rw (sym at_0 ∙ sym e ∙ t)

  pub rows_used : n ≤ max_states → {b c : Bool} → b ≡ from_0 → b ≡ false → c ≡ non_zero possible (WORDS * n) (WORDS * n + WORDS * (max_states - n))
      → c ≡ malformed_rows possible n
  unfolding malformed_rows
  rows_used h e t d =
      let end : WORDS * n + WORDS * (max_states - n) ≡ possible_words = omega arith in
      d ∙ ap (non_zero possible (WORDS * n)) end ∙ rw (sym at_0 ∙ sym e ∙ t)

-- ---- ground 28

module _ (store possible : List ℕ) where
  pub impossible_start : certain_impossible store 0 possible ≡ false
  unfolding certain_impossible
  impossible_start = any_start _

  module _ (s : ℕ) {R : List ℕ} {X Y : Set} {b : Bool} (r : R ≡ rows_of store) (x : X ≡ row_in R s) (y : Y ≡ row_in possible s) (e : b ≡ subset X Y) where
    told : b ≡ subset (set_at store (row_at s)) (set_at possible (WORDS * s))
    told = e ∙ ap₂ subset (x ∙ ap (λ (xs : List ℕ). row_in xs s) r ∙ row_of store s) y

    pub impossible_hit : (n : ℕ) → s < n → b ≡ false → certain_impossible store n possible ≡ true
    unfolding certain_impossible
    impossible_hit n h f = any_intro _ n s h (ap not (sym told ∙ f))

    pub impossible_pass : b ≡ true → certain_impossible store s possible ≡ false → certain_impossible store (s + 1) possible ≡ false
    unfolding certain_impossible
    impossible_pass t so = any_turn _ s so (ap not (sym told ∙ t))

  pub impossible-end : (s n : ℕ) → s ≤ n → n ≤ s → certain_impossible store s possible ≡ false → certain_impossible store n possible ≡ false
  unfolding certain_impossible
  impossible-end s n l h so = any-end _ s n l h so

  pub impossible-is : (n : ℕ)
      → (certain_impossible store n possible ≡ true)
      ↔ ((s : ℕ) × (u : ℕ) × (s < n) × (member (set_at store (row_at s)) u ≡ true) × (member (set_at possible (WORDS * s)) u ≡ false))
  unfolding certain_impossible subset
  impossible-is n = (
    λ e.
        let w = any_find _ n e in
        let u = all_not _ max_states (not_true _ w.2) in
        let both = or_false (not (member (set_at store (row_at w.0)) u.0)) _ u.2 in
        (w.0, u.0, w.1, not-false _ both.0, both.1),
    λ w.
        any_intro _ n w.0 w.2
        (ap not (is_false (subset (set_at store (row_at w.0)) (set_at possible (WORDS * w.0))) (λ e. clash (subset_in e w.1 (record { is = w.3 })).is w.4))),
  )

-- ---- the grounds in their order

pub record ModalHeld (store : List ℕ) (n g : ℕ) (possible : List ℕ) : Type 0 where
  pub held : Store store n g
  pub long : possible_words ≤ length possible
  pub clean : malformed_rows possible n ≡ false
  pub certain : certain_impossible store n possible ≡ false

module _ (store : List ℕ) (n g : ℕ) (possible : List ℕ) (room : ℕ) where
  -- the grounds behind those of the store
  abbrev pub late : List Ground
  late = (malformed_rows possible n, 17) ∷ (certain_impossible store n possible, 28) ∷ path_ground room ∷ []

  -- where the second buffer is long enough, those of the store come first
  apart : possible_words ≤ length possible → refuse (modal_grounds store n g possible room) ≡ refuse (shared_grounds store n g ++ late)
  unfolding modal_grounds refuse
  apart l =
      let short = ltb (length store) store_words in
      let rest : List Ground = (bad_states n g, 14) ∷ (ltb max_groups g, 15) ∷ (malformed store n g || malformed_rows possible n, 17) ∷ (certain_impossible store n possible, 28) ∷ path_ground room ∷ [] in
      refuse_or short (ltb (length possible) possible_words) 10 rest
      ∙ ap (λ (b : Bool). refuse ((short, 10) ∷ (b, 10) ∷ rest)) (le-ltb (length possible) possible_words l)
      ∙ ap (λ (k : ℕ). cond short 10 (cond (bad_states n g) 14 (cond (ltb max_groups g) 15 k)))
      (refuse_or (malformed store n g) (malformed_rows possible n) 17 ((certain_impossible store n possible, 28) ∷ path_ground room ∷ []))

  pub short-possible : length possible < possible_words → 10 ≡ refuse (modal_grounds store n g possible room)
  unfolding modal_grounds
  short-possible h = refuse-first 0 _ (or_right (ltb (length store) store_words) _ (lt-ltb (length possible) possible_words h))

  pub refuse-shared : possible_words ≤ length possible → (r : Refusal) → number r ≡ refuse (shared_grounds store n g)
      → number r ≡ refuse (modal_grounds store n g possible room)
  refuse-shared l r e = refuse-append (shared_grounds store n g) late e (number_some r) ∙ sym (apart l)

  pub behind_shared : possible_words ≤ length possible → {k : ℕ} → 0 ≡ refuse (shared_grounds store n g) → k ≡ refuse late
      → k ≡ refuse (modal_grounds store n g possible room)
  behind_shared l z e = refuse-past (shared_grounds store n g) late refl z refl e ∙ sym (apart l)

  pub accepting : Clear (shared_grounds store n g) → possible_words ≤ length possible → malformed_rows possible n ≡ false → certain_impossible store n possible ≡ false
      → max_states ≤ room → Clear (modal_grounds store n g possible room)
  unfolding modal_grounds
  accepting shared long clean certain roomy = (
    or_none (ltb (length store) store_words) _ shared.0 (le-ltb (length possible) possible_words long),
    (shared.1.0, (shared.1.1.0, (or_none (malformed store n g) _ shared.1.1.1.0 clean, (certain, (le-ltb room max_states roomy, tt))))),
  )

  pub accepted : refuse (modal_grounds store n g possible room) ≡ 0 → ModalHeld store n g possible × (max_states ≤ room)
  unfolding modal_grounds bad_states
  accepted e =
      let clear = (refuse_clear (modal_grounds store n g possible room) [] refl e).0 in
      let lengths = or_false (ltb (length store) store_words) (ltb (length possible) possible_words) clear.0 in
      let words = or_false (malformed store n g) (malformed_rows possible n) clear.1.1.1.0 in
      let shared : refuse (shared_grounds store n g) ≡ 0 = clear_refuse (shared_grounds store n g) (lengths.0, (clear.1.0, (clear.1.1.0, (words.0, tt)))) in (
        record {
          held = (accepted_store store n g [] shared).0;
          long = ltb-false (length possible) possible_words lengths.1;
          clean = words.1;
          certain = clear.1.1.1.1.0;
        },
        ltb-false room max_states clear.1.1.1.1.1.0,
      )
