-- The proof of specs/Accepting.
use Prim.Native.Nat.{ℕ, ◌%◌, ◌<◌}
use native.Mathlib.Nat.{le_of_eq}
use native.Mathlib.Omega.{arith}
use mathlib.Core.Path.{◌≡◌, refl, sym, ap, ◌∙◌, subst}
use mathlib.Core.List.{List, [], ◌∷◌, ◌++◌, append-nil}
use borrow.Author.Tests.{lt-ltb, le-ltb, lt-leb, eq-eqb}
use lib.Dec.{ltb, leb}
use lib.ListN.{length, drop}
use lib.Seq.{drop-length}
use Rattle.basics.specs.Bounds.{tabulate}
use Rattle.basics.specs.Refusals.{Ground, refused, unless_refused}
use Rattle.basics.proofs.BoundLaws.{or_none, length-tabulate}
use Rattle.basics.proofs.RefusalLaws.{refuse-first, Clear, refuse_clear, clear_append, answer-refused, answer_clear}
use Rattle.model.specs.Paths.{distance}
use Rattle.model.specs.Stores.{table_of, shared_grounds, AcceptedStore}
use Rattle.model.specs.Contents.{new_form}
use Rattle.model.specs.Calls.{overwrite, TableRead as ReadAnswer, states_in, groups_in}
use Rattle.model.proofs.StoresAccepted.{Store, accepted_store, store_accepted}
use Rattle.model.proofs.CallLaws.{readable, read_none, read-buffer}
use Rattle.model.proofs.RoundTrips.{taken, filled_held}
use Rattle.call_paths.specs.Within.{within_answer}
use Rattle.call_distances.specs.Distances.{distances_grounds, distances_answer, distances_buffer}
use Rattle.call_first_order.specs.OrderAnswers.{order_answer}
use Rattle.call_generate.proofs.LoadsKept.{accepts, loads}
use Rattle.call_replay.specs.Logs.{entry_bytes, max_log, log_grounds, replay_grounds, replay_answer}
use Rattle.call_edit_session.specs.Edits.{source, target, state_ground, edit_grounds, open_answer, edit_answer}
use Rattle.call_modal.specs.Modal.{modal_grounds, modal_answer}
use Rattle.call_modal.proofs.ModalGrounds.{accepting as modal-clear}
use Rattle.theorems_calls.specs.Accepting.{Accepting, EveryCall, ExactPlaces}

module _ (store : List ℕ) (n g : ℕ) (e : AcceptedStore store n g) where
  held : Store store n g
  held = (accepted_store store n g [] e).0

  shared : Clear (shared_grounds store n g)
  shared = (refuse_clear (shared_grounds store n g) [] refl e).0

  -- those that a call adds
  with_own : (own : List Ground) → Clear own → Clear (shared_grounds store n g ++ own)
  with_own own = clear_append (shared_grounds store n g) own shared

  accepting : Accepting store n g
  unfolding distances_answer distances_grounds within_answer order_answer replay_answer replay_grounds open_answer edit_answer edit_grounds modal_answer
  accepting =
      record {
        write-decide-shortest = accepts store n g held;
        distances = λ room h. answer_clear (distances_grounds store n g room) tt (with_own ((ltb room n, 23) ∷ []) (le-ltb room n h, tt));
        within = λ k. (_, answer_clear (shared_grounds store n g) _ shared);
        first_order = (_, answer_clear (shared_grounds store n g) _ shared);
        replay = λ log even short.
            let whole = eq-eqb (length log % entry_bytes) 0 even in (
              _,
              answer_clear (replay_grounds store n g (length log)) _ (with_own (log_grounds (length log)) (rw whole refl, (le-ltb max_log (length log) short, tt))),
            );
        opening = (_, answer_clear (shared_grounds store n g) _ shared);
        edit = λ X e a b.
            let both = or_none (leb n (source e)) (leb n (target e)) (lt-leb n (source e) a) (lt-leb n (target e) b) in
            (_, answer_clear (edit_grounds store n g (source e) (target e)) _ (with_own (state_ground n (source e) (target e) ∷ []) (both, tt)));
        decide_modal = λ possible room long fits certain roomy.
            (_, answer_clear (modal_grounds store n g possible room) _ (modal-clear store n g possible room shared long fits certain roomy));
      }

pub every_call : EveryCall
every_call =
    record {
      accepted = accepting;
      load = λ seed n f before r after called e. accepting after n 0 (loads.accepted seed n f before r after called e).held;
      file = λ input site before r after a called e.
          let none = read_none new_form input site (length before) (sym called.0 ∙ e) in
          let fits = (readable new_form input site (length before) none.0).0 in
          let held = filled_held new_form input before (states_in input) (groups_in new_form input) fits (taken new_form input site (length before) none.0) in
          subst (λ (b : ReadAnswer). Accepting after b.n b.g) (sym none.1)
          (subst (λ xs. Accepting xs (states_in input) (groups_in new_form input)) (sym (called.1 ∙ read-buffer new_form input site before none.0))
          (accepting _ (states_in input) (groups_in new_form input) (accepted-held held)));
    }
  where
    accepted-held : {xs : List ℕ} {n g : ℕ} → Store xs n g → AcceptedStore xs n g
    accepted-held {xs} {n} {g} s = store_accepted xs n g [] s ∙ sym (refuse-first 0 [] tt)

-- ---- distances, with as many places as states

module _ (store : List ℕ) (n g : ℕ) (before : List ℕ) (e : AcceptedStore store n g) where
  all-written : length before ≡ n → distances_buffer store n g before ≡ tabulate n (distance (table_of store n g))
  unfolding distances_buffer overwrite
  all-written long =
      let xs = tabulate n (distance (table_of store n g)) in
      ap (unless_refused before (λ (done : Unit {0}). overwrite xs before)) ((accepting store n g e).distances (length before) (le_of_eq (sym long)))
      ∙ ap (λ (k : ℕ). xs ++ drop k before) (length-tabulate (distance (table_of store n g)) n ∙ sym long)
      ∙ ap (λ ys. xs ++ ys) (drop-length before)
      ∙ append-nil xs

  one_fewer : length before < n → distances_answer store n g (length before) ≡ refused 23
  unfolding distances_answer distances_grounds
  one_fewer few =
      answer-refused (distances_grounds store n g (length before)) tt
      (sym (store_accepted store n g ((ltb (length before) n, 23) ∷ []) (held store n g e) ∙ sym (refuse-first 0 ((ltb (length before) n, 23) ∷ []) (lt-ltb (length before) n few))))
      (λ z. omega (arith, z))

pub exact_places : ExactPlaces
unfolding distances_buffer
exact_places =
    record {
      enough = λ store n g before r after e called long.
          (called.0 ∙ (accepting store n g e).distances (length before) (le_of_eq (sym long)), called.1 ∙ all-written store n g before e long);
      too_few = λ store n g before r after e called few.
          let no = one_fewer store n g before e few in
          (called.0 ∙ no, called.1 ∙ ap (unless_refused before _) no);
    }
