-- The promises are kept: the laws of covers, rounds and paths, carried to the calls' own answers.
--
--   operations              post, hold and covers by their members
--   groups-within           the groups of an accepted table hold its states only
--   front                   the path at the front of a buffer, read back
--   buffer_for               the path buffer that belongs to an answer
--   outcome-*               a promise for each outcome of the rounds
--   path-answer             the call shortest path
--   promises, untouched     all of specs/Promises
--   sizes                   all of specs/Sizes
use Prim.Native.Nat.{ℕ, suc, ◌≤◌, ◌<◌}
use native.Mathlib.Omega.{arith}
use mathlib.Core.Path.{◌≡◌, refl, sym, ap, ◌∙◌, subst}
use mathlib.Core.Logic.{inl, inr}
use mathlib.Core.Bool.{Bool, true, false, cond}
use mathlib.Core.List.{List, Memᴰ}
use lib.Dec.{eqb}
use lib.ListN.{length, take}
use lib.Seq.{take_at}
use Rattle.basics.specs.Bounds.{tabulate}
use Rattle.model.specs.Sets.{Set, bit, member, number, set_of, single, union, first_states}
use Rattle.model.specs.Tables.{Table, cover_of, cover}
use Rattle.model.specs.Rounds.{Outcome, safe, unsafe, undecided, run, backward_number}
use Rattle.model.specs.Paths.{is_path, shortest, has_path, smallest_path}
use Rattle.basics.specs.Refusals.{answered, unless_refused}
use Rattle.model.specs.Stores.{group_at, set_at, table_of, beyond}
use Rattle.model.specs.Contents.{set_bytes}
use Rattle.model.specs.Calls.{overwrite, Decision, release, decide_grounds, decision_of, decide_answer, decide_buffer, Shortest, path_found, shortest_grounds, shortest_answer, shortest_buffer, read_grounds, read_answer_as, read_buffer_as, write_grounds, write_answer, write_buffer}
use Rattle.model.specs.Promises.{Operations, StopsFirst, IsSmallest, Carries, Demand2, Demand3, SameAnswer, PathAnswer, Promises, Untouched}
use Rattle.model.specs.Sizes.{Sizes}
use Rattle.basics.proofs.BoundLaws.{clash, in_tabulate}
use Rattle.basics.proofs.RefusalLaws.{clear_refuse, answered_clear, answered_value, refused-is}
use Rattle.model.proofs.SetsMembers.{In, in_bound, in_image, image_in, in_first_states, first_states_in, ◌⊆◌}
use Rattle.model.proofs.Fixpoints.{backward-is}
use Rattle.model.specs.WellFormed.{WellFormed}
use Rattle.model.proofs.CoverLaws.{in_post, post_in, in_hold, hold_in, hold-within, in_cover_of, cover_of_in, cover_of-within, cover-is, cover-add_in, cover-add_out}
use Rattle.model.proofs.RoundLaws.{round_first, round_next, round_is, listed-within, first_stop, count_of, count-backward, undecided-count, undecided-short, larger-run, safe-invariant, safe_no_path, eliminated-members, unsafe-long, unsafe-path}
use Rattle.model.proofs.PathLaws.{has_path_lem, path_of, smallest-is, length-smallest}
use Rattle.model.proofs.StoresTables.{beyond_below, malformed_clean}
use Rattle.model.proofs.StoresFirstWords.{table-words, first-words}
use Rattle.model.proofs.StoresAccepted.{Store, accepted_store, well_formed, Check, check_of_lem}

-- ---- the operations

operations : (n : ℕ) (row : ℕ → Set) (L : List Set) (X : Set) → Operations n row L X
unfolding cover
operations n row L X =
    record {
      post-members = λ u. (
        λ e. let w = post_in n row (fact e) in (w.0, w.1, w.2.is, w.3.is),
        λ w. (in_post n row w.1 (fact w.2) (fact w.3)).is,
      );
      hold-members = λ s b. (
        λ e. (first_states_in (hold-within n row X s (fact e)), λ u r. (hold_in n row (fact e) u (fact r)).is),
        λ w. (in_hold n row (in_first_states b w.0) (λ u r. fact (w.1 u r.is))).is,
      );
      cover_of-members = λ s u b. (
        λ e. (first_states_in (cover_of-within n L s u (fact e)), λ Z m z. (cover_of_in n L (fact e) Z m (fact z)).is),
        λ w. (in_cover_of n L (in_first_states b w.0) (λ Z m z. fact (w.1 Z m z.is))).is,
      );
      cover-members = λ u. (
        λ e. let w = image_in (cover_of n L) X n (fact e) in (w.0, w.1, w.2.is, w.3.is),
        λ w. (in_image (cover_of n L) X n w.1 (fact w.2) (fact w.3)).is,
      );
      add_in = λ Z s. cover-add_in n Z L s;
      add_out = λ Z s. cover-add_out n Z L s;
    }
  where
    fact : {Y : Set} {s : ℕ} → member Y s ≡ true → In Y s
    fact e = record { is = e }

-- ---- one answer

-- the path at the front of a buffer, read back
front : (t : Table) (path : List ℕ) → take (suc (shortest t)) (overwrite (smallest_path t) path) ≡ smallest_path t
unfolding overwrite
front t path = take_at (smallest_path t) _ (suc (shortest t)) (length-smallest t)

abbrev buffer_for : Table → Decision → List ℕ → List ℕ
buffer_for t a path = cond (eqb a.verdict 1) (overwrite (smallest_path t) path) path

module _ (t : Table) (allowance : ℕ) where
  outcome_stops : StopsFirst t allowance (decision_of t (run t allowance))
  unfolding decision_of
  outcome_stops =
      record {
        at_safe = λ i h before s. let q = (first_stop t allowance).at_safe i h before s in rw q (refl, refl, refl);
        at_unsafe = λ i h before s u. let q = (first_stop t allowance).at_unsafe i h before s u in rw q (refl, refl, refl);
        at_undecided = λ on. let q = (first_stop t allowance).at_undecided on in rw q (refl, refl, refl);
      }

  outcome_carries : WellFormed t → (path : List ℕ) (o : Outcome) → run t allowance ≡ o → Carries t allowance (decision_of t o) path (buffer_for t (decision_of t o) path)
  unfolding decision_of
  outcome_carries w path (safe i X) q =
      record { with_safe = λ e. (safe-invariant t allowance q, refl, refl, refl); with_unsafe = λ e. absurd (omega arith); with_undecided = λ e. absurd (omega arith) }
  outcome_carries w path (unsafe i) q =
      let found = unsafe-path t w allowance q in
      record {
        with_safe = λ e. absurd (omega arith);
        with_unsafe = λ e. (smallest-is w (has_path_lem w found.0 found.1), length-smallest t, refl, refl, refl);
        with_undecided = λ e. absurd (omega arith);
      }
  outcome_carries w path (undecided i) q =
      record {
        with_safe = λ e. absurd (omega arith);
        with_unsafe = λ e. absurd (omega arith);
        with_undecided = λ e. (refl, refl, refl, undecided-count t allowance q, refl);
      }

  outcome_2 : WellFormed t → t.n ≤ allowance → (path : List ℕ) (o : Outcome) → run t allowance ≡ o
      → Demand2 t (decision_of t o) (buffer_for t (decision_of t o) path)
  unfolding decision_of
  outcome_2 w h path (safe i X) q =
      record {
        decided = inl refl;
        unsafe-path = λ e. absurd (omega arith);
        path-unsafe = λ xs e. absurd (safe_no_path t allowance q xs e);
        smallest-path = λ e. absurd (omega arith);
        invariant = λ e. safe-invariant t allowance q;
      }
  outcome_2 w h path (unsafe i) q =
      let found = unsafe-path t w allowance q in
      record {
        decided = inr refl;
        unsafe-path = λ e. found;
        path-unsafe = λ xs e. refl;
        smallest-path = λ e. subst (IsSmallest t) (sym (front t path)) (smallest-is w (has_path_lem w found.0 found.1));
        invariant = λ e. absurd (omega arith);
      }
  outcome_2 w h path (undecided i) q = absurd (omega (arith, undecided-short t allowance q, (backward-is t).bounded))

  decision-count : (o : Outcome) → (decision_of t o).count ≡ count_of o
  unfolding decision_of
  decision-count (safe i X) = refl
  decision-count (unsafe i) = refl
  decision-count (undecided i) = refl

  outcome_3 : (o : Outcome) → run t allowance ≡ o → Demand3 t allowance (decision_of t o)
  unfolding decision_of
  outcome_3 o q =
      record {
        count-backward = subst (λ (k : ℕ). k ≤ backward_number t) (ap count_of q ∙ sym (decision-count o)) (count-backward t allowance);
        count-path = long o q;
        enough = short o q;
      }
    where
      long : (r : Outcome) → run t allowance ≡ r → (decision_of t r).verdict ≡ 1 → (xs : List ℕ) → is_path t xs ≡ true → (decision_of t r).count < length xs
      long (safe i X) p e = absurd (omega arith)
      long (unsafe i) p e = unsafe-long t allowance p
      long (undecided i) p e = absurd (omega arith)

      short : (r : Outcome) → run t allowance ≡ r → backward_number t ≤ allowance → (decision_of t r).verdict ≡ 2 → ⊥
      short (safe i X) p h e = omega arith
      short (unsafe i) p h e = omega arith
      short (undecided i) p h e = omega (arith, undecided-short t allowance p)

-- ---- two answers

-- the same outcome, in two buffers
outcome_same : (t : Table) (o : Outcome) (p q : List ℕ) → SameAnswer (decision_of t o) (decision_of t o) (buffer_for t (decision_of t o) p) (buffer_for t (decision_of t o) q)
unfolding decision_of
outcome_same t o p q =
    record { verdict = refl; count = refl; invariant = refl; size = refl; steps = refl; states = states o }
  where
    states : (r : Outcome) → (decision_of t r).verdict ≡ 1
        → take (suc (decision_of t r).steps) (buffer_for t (decision_of t r) p) ≡ take (suc (decision_of t r).steps) (buffer_for t (decision_of t r) q)
    states (safe i X) e = absurd (omega arith)
    states (unsafe i) e = front t p ∙ sym (front t q)
    states (undecided i) e = absurd (omega arith)

larger-answer : (t : Table) (a b : Decision) (x y : ℕ) (p q : List ℕ) → a ≡ decision_of t (run t x) → b ≡ decision_of t (run t y) → x ≤ y
    → (a.verdict ≡ 2 → ⊥) → SameAnswer a b (buffer_for t a p) (buffer_for t b q)
unfolding decision_of
larger-answer t a b x y p q ea eb h d =
    let same = larger-run t x y h (λ i e. d (ap (λ (c : Decision). c.verdict) (ea ∙ ap (decision_of t) e))) in
    subst (λ (c : Decision). SameAnswer a c (buffer_for t a p) (buffer_for t c q)) (sym (eb ∙ ap (decision_of t) same))
    (subst (λ (c : Decision). SameAnswer c (decision_of t (run t x)) (buffer_for t c p) (buffer_for t (decision_of t (run t x)) q)) (sym ea)
    (outcome_same t (run t x) p q))

-- and of one table, found in two stores
larger_stores : (t u : Table) → t ≡ u → (a b : Decision) (x y : ℕ) (p q : List ℕ) → a ≡ decision_of t (run t x) → b ≡ decision_of u (run u y) → x ≤ y
    → (a.verdict ≡ 2 → ⊥) → SameAnswer a b (buffer_for t a p) (buffer_for u b q)
larger_stores t u e a b x y p q ea eb h d =
    subst (λ (v : Table). SameAnswer a b (buffer_for t a p) (buffer_for v b q)) e
    (larger-answer t a b x y p q ea (eb ∙ ap (λ (v : Table). decision_of v (run v y)) (sym e)) h d)

-- ---- the call shortest path

path-found : (t : Table) → WellFormed t → (path : List ℕ) (b : Bool) → has_path t ≡ b
    → PathAnswer t (path_found t b) path (cond (eqb (path_found t b).found 1) (overwrite (smallest_path t) path) path)
path-found t w path true h =
    record {
      found_or_none = inr refl;
      found-path = (λ e. (smallest_path t, path_of t h), λ xs. refl);
      with_path = λ e. (smallest-is w h, length-smallest t, refl);
      without-path = λ e. absurd (omega arith);
    }
path-found t w path false h =
    record {
      found_or_none = inl refl;
      found-path = (λ e. absurd (omega arith), λ xs. absurd (clash (has_path_lem w xs.0 xs.1) h));
      with_path = λ e. absurd (omega arith);
      without-path = λ e. (refl, refl);
    }

path-answer : (store : List ℕ) (n g : ℕ) (path : List ℕ) (a : Shortest) → shortest_answer store n g (length path) ≡ answered a
    → PathAnswer (table_of store n g) a path (shortest_buffer store n g path)
unfolding shortest_answer shortest_buffer shortest_grounds
path-answer store n g path a e =
    let t = table_of store n g in
    let grounds = shortest_grounds store n g (length path) in
    let held = (accepted_store store n g _ (clear_refuse grounds (answered_clear grounds _ e))).0 in
    let left : Shortest → List ℕ = λ b. cond (eqb b.found 1) (overwrite (smallest_path t) path) path in
    subst (PathAnswer t a path) (sym (ap (unless_refused path left) e))
    (subst (λ (b : Shortest). PathAnswer t b path (left b)) (sym (answered_value grounds _ e)) (path-found t (well_formed store n g held) path (has_path t) refl))

-- ---- the promises

-- a check that is answered
module _ (store : List ℕ) (n g allowance : ℕ) (path : List ℕ) (a : Decision) (e : decide_answer store n g allowance (length path) ≡ answered a) where
  check : Check store n g allowance (length path) a
  check = check_of_lem store n g allowance (length path) e

  -- what holds of the rounds' decision holds of the answer
  of_answer : (P : Decision → Type 0) → P (decision_of (table_of store n g) (run (table_of store n g) allowance)) → P a
  of_answer P h = subst P (sym check.answer) h

  buffer-is : decide_buffer store n g allowance path ≡ buffer_for (table_of store n g) a path
  unfolding decide_buffer
  buffer-is = ap (unless_refused _ (λ (b : Decision). buffer_for (table_of store n g) b path)) e

groups-within : (store : List ℕ) (n g : ℕ) → Store store n g → (Z : Set) → Memᴰ Z (table_of store n g).groups → Z ⊆ first_states n
unfolding table_of
groups-within store n g held Z m s h =
    let w = in_tabulate (λ j. set_at store (group_at j)) g m in
    let inside = (malformed_clean store n g held.clean).group w.0 w.1 in
    in_first_states (in_bound h) (beyond_below n Z (ap (beyond n) w.2 ∙ inside) s h)

pub promises : Promises
unfolding decide_buffer table_of
promises =
    record {
      operations = operations;
      first_round_lem = round_first;
      next_round_lem = round_next;
      each_round = round_is;
      first_stop = first_stop;
      backward-number = backward-is;
      eliminated-members = eliminated-members;
      demand3 = λ t allowance. outcome_3 t allowance _ refl;
      answer = λ store n g allowance path a e. (check store n g allowance path a e).answer;
      stops = λ store n g allowance path a e.
          let t = table_of store n g in
          of_answer store n g allowance path a e (StopsFirst t allowance) (outcome_stops t allowance);
      covers = λ store n g allowance path a e i.
          let held = (check store n g allowance path a e).held in
          cover-is n _ held.small (listed-within (table_of store n g) (groups-within store n g held) i);
      carries = λ store n g allowance path a e.
          let t = table_of store n g in
          let held = (check store n g allowance path a e).held in
          subst (Carries t allowance a path) (sym (buffer-is store n g allowance path a e))
          (of_answer store n g allowance path a e (λ b. Carries t allowance b path (buffer_for t b path))
          (outcome_carries t allowance (well_formed store n g held) path _ refl));
      demand2 = λ store n g path a e.
          let t = table_of store n g in
          let held = (check store n g release path a e).held in
          subst (Demand2 t a) (sym (buffer-is store n g release path a e))
          (of_answer store n g release path a e (λ b. Demand2 t b (buffer_for t b path)) (outcome_2 t release (well_formed store n g held) held.small path _ refl));
      larger = λ store other n g allowance more p q a b ea eb same h d.
          let c = check store n g allowance p a ea in
          let c' = check other n g more q b eb in
          let tables = table-words store other c.held.long c'.held.long same n g c.held.small c.held.few in
          subst (λ (xs : List ℕ). SameAnswer a b xs (decide_buffer other n g more q)) (sym (buffer-is store n g allowance p a ea))
          (subst (SameAnswer a b (buffer_for (table_of store n g) a p)) (sym (buffer-is other n g more q b eb))
          (larger_stores (table_of store n g) (table_of other n g) tables a b allowance more p q c.answer c'.answer h d));
      first-words = first-words;
      shortest-path = path-answer;
    }

-- ---- what a refused call leaves

pub untouched : Untouched
unfolding decide_answer decide_buffer shortest_answer shortest_buffer read_answer_as read_buffer_as write_answer write_buffer
untouched =
    record {
      decide = λ store n g allowance path k e. (refused-is (decide_grounds store n g allowance (length path)) _ e, ap (unless_refused path _) e);
      shortest-path = λ store n g path k e. (refused-is (shortest_grounds store n g (length path)) _ e, ap (unless_refused path _) e);
      read = λ input site store k e. (refused-is (read_grounds input site (length store)) _ e, ap (unless_refused store _) e);
      write = λ store n g site output k e. (refused-is (write_grounds store n g site (length output)) _ e, ap (unless_refused output _) e);
    }

pub sizes : Sizes
unfolding member bit number set_of single union tabulate set_bytes
sizes =
    record {
      words_of_a_set = refl;
      words_of_states = refl;
      most-states = refl;
      most-groups = refl;
      words_of_a_store = refl;
      marked_at_lem = refl;
      resting_at_lem = refl;
      group_at_lem = λ j. refl;
      row_at_lem = λ s. refl;
      greatest_allowance = refl;
      release_allowance = refl;
      block = refl;
      content_at_lem = refl;
      content = refl;
      check_at_lem = refl;
      prime = refl;
      header = refl;
      heads_of_a_file = (refl, refl);
      added_to_g = (refl, refl);
      bytes_of_states = refl;
      just_enough = λ l blocks. (λ h. omega arith, λ h. omega arith);
      one_byte_more = (refl, refl);
      most-blocks = refl;
      longest-contents = refl;
      most-blocks_old = refl;
      largest-file = refl;
      most-read = refl;
    }
