-- The call `decide_modal`: its answer from the two release checks.
--
--   ready                                            the rows, with the forbidden states that the code has worked out, are a well_formed table
--   certain-rows                                     the certain rows, by the part of the store that is lent
--   refused-answer                                   where it is refused
--   safe-answer, unsafe-answer, depends-answer       where it is not
use Rattle.std.specs.Prelude.{Option, Some, None, Ok, Err}
use Prim.Native.Nat.{ℕ, ◌≤◌}
use mathlib.Core.Path.{◌≡◌, refl, sym, ap, ap₂, ◌∙◌, subst}
use mathlib.Core.Bool.{Bool, true, false, cond}
use mathlib.Core.List.{List, []}
use borrow.Author.Tests.{eq-eqb}
use lib.Dec.{eqb}
use lib.ListN.{length}
use Rattle.model.specs.Sets.{max_states, Set, empty, size}
use Rattle.model.specs.Tables.{Table}
use Rattle.model.specs.Paths.{shortest, has_path, smallest_path}
use Rattle.basics.specs.Refusals.{Ground, refuse, Answered, answered, unless_refused}
use Rattle.model.specs.Stores.{set_at, dialogue_of, table_of}
use Rattle.model.specs.Calls.{overwrite, Decision}
use Rattle.basics.proofs.RefusalLaws.{answer-none}
use Rattle.model.specs.WellFormed.{WellFormed}
use Rattle.core_refusals.specs.declared.Refusal.{Refusal}
use Rattle.core_refusals.specs.Refusals.{number}
use Rattle.core_refusals.proofs.RefusalNumbers.{answer_refused}
use Rattle.core_state_set.specs.declared.StateSet.{StateSet}
use Rattle.core_rows.specs.Rows.{rows_words, rows_of, rows_in, forbidden_by, table_on}
use Rattle.core_rows.proofs.RowsLent.{rows_of_lem}
use Rattle.call_paths.specs.Search.{HoldsTable}
use Rattle.call_paths.specs.PathAnswers.{found_in, path_written, steps_in}
use Rattle.call_paths.proofs.Groups.{found_in-groups, path_written-groups}
use Rattle.call_modal.specs.Modal.{certain_row, possible_row, table_with, modal_forbidden, modal_table, certain_table, possible_table, release_check, modal_grounds, ModalAnswer, modal_of, modal_answer, modal_written, modal_buffer}
use Rattle.call_modal.specs.declared.ModalVerdict.{ModalVerdict}
use Rattle.call_modal.specs.declared.ModalVerdict.TheVariants.{Safe, Unsafe, Depends}
use Rattle.call_modal.specs.ModalAnswers.{ChecksOut, ModalDecision, modal_answer_in, modal_decided_of, CalledModal}
use Rattle.call_modal.proofs.ModalGrounds.{ModalHeld, accepted}
use Rattle.call_modal.proofs.Choosing.{certain_inside, modal_formed, says-safe, says-unsafe}

-- what a choice of Some or None tells of its test
picked : (b : Bool) {X Y : Set} → Some X ≡ cond b (Some Y) None → (b ≡ true) × (X ≡ Y)
picked true e = (refl, cc)
picked false e = absurd (cc)

not_picked : (b : Bool) (Y : Set) → ◌≡◌ {A = Option Set} None (cond b (Some Y) None) → b ≡ false
not_picked true Y e = absurd (cc)
not_picked false Y e = refl

module _ (c p : Decision) where
  pub safe_of : eqb p.verdict 0 ≡ true → modal_of c p ≡ record { verdict = 0; invariant = p.invariant; size = p.size; steps = 0 }
  unfolding modal_of
  safe_of e = rw e

  pub unsafe_of : eqb p.verdict 0 ≡ false → eqb c.verdict 1 ≡ true
      → modal_of c p ≡ record { verdict = 1; invariant = empty; size = 0; steps = c.steps }
  unfolding modal_of
  unsafe_of e f = rw (e, f)

  pub depends_of : eqb p.verdict 0 ≡ false → eqb c.verdict 1 ≡ false
      → modal_of c p ≡ record { verdict = 3; invariant = c.invariant; size = c.size; steps = p.steps }
  unfolding modal_of
  depends_of e f = rw (e, f)

module _ (store : List ℕ) (n g : ℕ) (possible : List ℕ) (ok : ModalHeld store n g possible) where
  pub small_for : (row : ℕ → Set) → (modal_table store n g possible row).n ≤ max_states
  unfolding table_with
  small_for row = ok.held.small

  pub certain-formed : WellFormed (certain_table store n g possible)
  certain-formed = modal_formed store n g possible ok (certain_row store n) (certain_inside store n possible ok.certain)

  pub possible-formed : WellFormed (possible_table store n g possible)
  possible-formed = modal_formed store n g possible ok (possible_row possible n) (λ s x h. h)

  -- the rows that are lent, and the forbidden states that the code has worked out
  module _ {F : Set} (f : F ≡ modal_forbidden store n possible) (rows : List ℕ) {row : ℕ → Set} (e : rows_in rows n ≡ row) where
    same-table : table_with store n g F (rows_in rows n) ≡ modal_table store n g possible row
    same-table = ap₂ (table_with store n g) f e

    pub ready : rows_words ≤ length rows → WellFormed (modal_table store n g possible row) → HoldsTable rows n (set_at store 0) F
    unfolding table_on table_with dialogue_of
    ready l w =
        let v = subst WellFormed (sym same-table) w in
        record { long = l; small = ok.held.small; formed = record { initial = v.initial; forbidden = v.forbidden; rows = v.rows } }

    -- what a check told
    told : (r : Option StateSet) → ChecksOut (table_with store n g F (rows_in rows n)) r → ChecksOut (modal_table store n g possible row) r
    told r c = subst (λ (t : Table). ChecksOut t r) same-table c

    told-safe : {X : StateSet} → ChecksOut (table_with store n g F (rows_in rows n)) (Some X)
        → (eqb (release_check (modal_table store n g possible row)).verdict 0 ≡ true)
        × (X.words ≡ (release_check (modal_table store n g possible row)).invariant)
    told-safe {X} c = picked _ (told (Some X) c)

    told_none : ChecksOut (table_with store n g F (rows_in rows n)) None
        → eqb (release_check (modal_table store n g possible row)).verdict 0 ≡ false
    told_none c = not_picked _ _ (told None c)

    -- groups play no part in a path
    found_with : found_in (table_on n (set_at store 0) F [] rows) ≡ found_in (modal_table store n g possible row)
    unfolding table_on table_with dialogue_of
    found_with = found_in-groups n (set_at store 0) F (dialogue_of store n g).groups rows ∙ ap found_in same-table

    written_with : (path : List ℕ) → path_written (table_on n (set_at store 0) F [] rows) path ≡ path_written (modal_table store n g possible row) path
    unfolding table_on table_with dialogue_of
    written_with path =
        path_written-groups n (set_at store 0) F (dialogue_of store n g).groups rows path ∙ ap (λ (t : Table). path_written t path) same-table

    -- where there is one
    found : (path : List ℕ) → has_path (modal_table store n g possible row) ≡ true → {d : ℕ} {after : List ℕ}
        → d ≡ steps_in (found_in (table_on n (set_at store 0) F [] rows)) → after ≡ path_written (table_on n (set_at store 0) F [] rows) path
        → (d ≡ shortest (modal_table store n g possible row)) × (after ≡ overwrite (smallest_path (modal_table store n g possible row)) path)
    unfolding found_in path_written
    found path has d w = (d ∙ ap steps_in found_with ∙ rw has, w ∙ written_with path ∙ rw has)

-- the rows and the forbidden states as the code has them
pub possible-rows : (possible : List ℕ) (n : ℕ) → rows_in possible n ≡ possible_row possible n
unfolding rows_in
possible-rows possible n = refl

pub forbidden-is : (store : List ℕ) (n : ℕ) (possible : List ℕ) → forbidden_by store n possible ≡ modal_forbidden store n possible
unfolding modal_forbidden rows_in
forbidden-is store n possible = refl

pub certain-rows : (store : List ℕ) (n : ℕ) {R : List ℕ} → R ≡ rows_of store → rows_in R n ≡ certain_row store n
unfolding table_of
certain-rows store n r = ap (λ (xs : List ℕ). rows_in xs n) r ∙ rows_of_lem store n 0

module _ (store : List ℕ) (n g : ℕ) (possible path : List ℕ) where
  abbrev certain_t : Table
  certain_t = certain_table store n g possible

  abbrev possible_t : Table
  possible_t = possible_table store n g possible

  abbrev both_checks : ModalAnswer
  both_checks = modal_of (release_check certain_t) (release_check possible_t)

  abbrev grounds : List Ground
  grounds = modal_grounds store n g possible (length path)

  -- the verdict v, and what is left in the buffer
  abbrev Gives : ModalVerdict → List ℕ → Type 0
  Gives v after = CalledModal store n g possible path (Ok v) after

  abbrev left : Answered ModalAnswer → List ℕ
  left = unless_refused path (λ (a : ModalAnswer). modal_written certain_t possible_t a.verdict path)

  -- the buffer follows from the numbers
  gives : (r : ModalDecision) → modal_decided_of r ≡ modal_answer store n g possible (length path)
      → CalledModal store n g possible path r (left (modal_decided_of r))
  unfolding modal_buffer
  gives r q = (q, ap left q)

  pub refused-answer : (r : Refusal) → number r ≡ refuse grounds → CalledModal store n g possible path (Err r) path
  unfolding modal_answer
  refused-answer r e = gives (Err r) (answer_refused modal_answer_in grounds _ r e)

  module _ (z : 0 ≡ refuse grounds) where
    held : ModalHeld store n g possible
    held = (accepted store n g possible (length path) (sym z)).0

    decided-answer : {a : ModalAnswer} → both_checks ≡ a → answered a ≡ modal_answer store n g possible (length path)
    unfolding modal_answer modal_grounds
    decided-answer q = ap answered (sym q) ∙ sym (answer-none grounds _ refl (sym z))

    -- the forbidden states that the code has worked out
    module _ {F : Set} (f : F ≡ modal_forbidden store n possible) where
      pub safe-answer : {X : StateSet} {m : ℕ} → ChecksOut (table_with store n g F (rows_in possible n)) (Some X) → m ≡ size X.words
          → Gives (Safe X m) path
      unfolding modal_written
      safe-answer {X} {m} c h =
          let t = told-safe store n g possible held f possible (possible-rows possible n) c in
          let says = says-safe possible_t (possible-formed store n g possible held) (small_for store n g possible held (possible_row possible n)) t.0 in
          gives (Ok (Safe X m))
          (ap₂ (λ (k : ℕ) (Y : Set). answered (modal_answer_in (Safe (record { words = Y }) k))) (h ∙ ap size t.1 ∙ sym says.3) t.1
          ∙ decided-answer (safe_of (release_check certain_t) (release_check possible_t) t.0))

      -- where the possible steps are not safe
      module _ (c : ChecksOut (table_with store n g F (rows_in possible n)) None) {R : List ℕ} (r : R ≡ rows_of store) where
        not_safe : eqb (release_check possible_t).verdict 0 ≡ false
        not_safe = told_none store n g possible held f possible (possible-rows possible n) c

        pub unsafe-answer : {d : ℕ} {after : List ℕ} → ChecksOut (table_with store n g F (rows_in R n)) None
            → d ≡ steps_in (found_in (table_on n (set_at store 0) F [] R)) → after ≡ path_written (table_on n (set_at store 0) F [] R) path
            → Gives (Unsafe d) after
        unfolding modal_written
        unsafe-answer {d} v e w =
            let t = told_none store n g possible held f R (certain-rows store n r) v in
            let says = says-unsafe certain_t (certain-formed store n g possible held) (small_for store n g possible held (certain_row store n)) t in
            let at = found store n g possible held f R (certain-rows store n r) path says.1 e w in
            let all =
            gives (Ok (Unsafe d))
            (ap (λ (k : ℕ). answered (modal_answer_in (Unsafe k))) (at.0 ∙ sym says.2)
            ∙ decided-answer (unsafe_of (release_check certain_t) (release_check possible_t) not_safe (eq-eqb (release_check certain_t).verdict 1 says.0))) in
            (all.0, at.1 ∙ all.1)

        pub depends-answer : {X : StateSet} {d m : ℕ} {after : List ℕ} → ChecksOut (table_with store n g F (rows_in R n)) (Some X) → m ≡ size X.words
            → d ≡ steps_in (found_in (table_on n (set_at store 0) F [] possible)) → after ≡ path_written (table_on n (set_at store 0) F [] possible) path
            → Gives (Depends X m d) after
        unfolding modal_written
        depends-answer {X} {d} {m} v h e w =
            let t = told-safe store n g possible held f R (certain-rows store n r) v in
            let says = says-safe certain_t (certain-formed store n g possible held) (small_for store n g possible held (certain_row store n)) t.0 in
            let path-says = says-unsafe possible_t (possible-formed store n g possible held) (small_for store n g possible held (possible_row possible n)) not_safe in
            let at = found store n g possible held f possible (possible-rows possible n) path path-says.1 e w in
            let all =
            gives (Ok (Depends X m d))
            (ap₂ (λ (k : ℕ) (Y : Set). answered (modal_answer_in (Depends (record { words = Y }) k d))) (h ∙ ap size t.1 ∙ sym says.3) t.1
            ∙ ap (λ (k : ℕ). answered (modal_answer_in (Depends (record { words = (release_check certain_t).invariant }) (release_check certain_t).size k)))
            (at.0 ∙ sym path-says.2)
            ∙ decided-answer (depends_of (release_check certain_t) (release_check possible_t) not_safe (rw says.0))) in
            (all.0, at.1 ∙ all.1)
