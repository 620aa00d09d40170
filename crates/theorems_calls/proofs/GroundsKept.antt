-- The proof of specs/Grounds.
use mathlib.Core.Path.{◌≡◌, refl, ap}
use mathlib.Core.Bool.{Bool, true, false, cond}
use mathlib.Core.List.{List, [], ◌∷◌}
use lib.ListN.{length}
use Rattle.basics.specs.Refusals.{Ground, refuse, answer}
use Rattle.model.specs.Stores.{malformed, bad_states, store_ground, shared_grounds}
use Rattle.model.specs.Blocks.{site_ground, block_grounds}
use Rattle.model.specs.Calls.{decide_grounds, decide_answer, shortest_grounds, shortest_answer, bad_length, bad_second, blocks_grounds, content_grounds, file_grounds, read_grounds_as, read_answer_as, write_grounds, write_answer}
use Rattle.model.proofs.StoresTables.{beyond_below, below_beyond, non_zero_zero, zero_non_zero}
use Rattle.call_paths.specs.Within.{within_answer}
use Rattle.call_distances.specs.Distances.{distances_grounds, distances_answer}
use Rattle.call_first_order.specs.OrderAnswers.{order_answer}
use Rattle.call_generate.specs.Load.{generate_grounds, generate_answer}
use Rattle.call_replay.specs.Logs.{replay_grounds, replay_answer}
use Rattle.call_edit_session.specs.Edits.{source, target, open_answer, edit_grounds, edit_answer}
use Rattle.call_modal.specs.Modal.{malformed_rows, modal_grounds, modal_answer}
use Rattle.call_release_windows.specs.Windows.{outside}
use Rattle.call_release_windows.specs.WindowAnswers.{grounds, next_open_answer}
use Rattle.call_check.specs.CheckAnswers.{check_grounds, check_answer}
use Rattle.call_rewrite.specs.RewriteAnswers.{rewrite_grounds, rewrite_answer}
use Rattle.shuntberry_fields.specs.Fields.{refusal_number}
use Rattle.theorems_calls.specs.Grounds.{Listed, Refuses, Grounds}

listed : Listed
unfolding bad_states malformed malformed_rows decide_grounds shortest_grounds distances_grounds replay_grounds edit_grounds modal_grounds generate_grounds write_grounds read_grounds_as file_grounds bad_length bad_second blocks_grounds block_grounds content_grounds rewrite_grounds grounds outside
listed =
    record {
      shared = λ store n g. refl;
      malformed_store = λ store n g. refl;
      malformed-possible = λ possible n. refl;
      set_beyond = λ n X. (λ e s h. beyond_below n X e s (record { is = h }), λ f. below_beyond n X (λ s h. f s h.is));
      non_zero_lem = λ words from to. (non_zero_zero words from to, zero_non_zero words from to);
      decide = λ store n g allowance room. refl;
      shortest-path = λ store n g room. refl;
      distances = λ store n g room. refl;
      replay = λ store n g bytes. refl;
      edit = λ store n g a b. refl;
      decide_modal = λ store n g possible room. refl;
      generate = λ n f room. refl;
      write = λ store n g site room. refl;
      read-draft = λ form site room. refl;
      read = λ form input site room e. ap (λ (b : Bool). store_ground room ∷ site_ground site ∷ cond b [] (file_grounds form input site)) e;
      blocks = λ input site. refl;
      rewrite = λ input room. refl;
      check = λ site room. refl;
      next_open = λ time windows days. refl;
      window = λ w. refl;
    }

-- an answer on some grounds
first_holds : {A : Type 0} (gs : List Ground) (a : A) → refusal_number (answer gs a) ≡ refuse gs
unfolding answer refuse
first_holds [] a = refl
first_holds ((true, k) ∷ later) a = refl
first_holds ((false, k) ∷ later) a = first_holds later a

refuses : Refuses
unfolding decide_answer shortest_answer distances_answer within_answer order_answer replay_answer open_answer edit_answer modal_answer generate_answer write_answer read_answer_as rewrite_answer check_answer next_open_answer
refuses =
    record {
      decide = λ store n g allowance room. first_holds (decide_grounds store n g allowance room) _;
      shortest-path = λ store n g room. first_holds (shortest_grounds store n g room) _;
      distances = λ store n g room. first_holds (distances_grounds store n g room) _;
      within = λ store n g k. first_holds (shared_grounds store n g) _;
      first_order = λ store n g. first_holds (shared_grounds store n g) _;
      replay = λ store n g log. first_holds (replay_grounds store n g (length log)) _;
      opening = λ store n g. first_holds (shared_grounds store n g) _;
      edit = λ store n g X e. first_holds (edit_grounds store n g (source e) (target e)) _;
      decide_modal = λ store n g possible room. first_holds (modal_grounds store n g possible room) _;
      generate = λ n f room. first_holds (generate_grounds n f room) _;
      write = λ store n g site room. first_holds (write_grounds store n g site room) _;
      read = λ form input site room. first_holds (read_grounds_as form input site room) _;
      rewrite = λ input room. first_holds (rewrite_grounds input room) _;
      check = λ input site room. first_holds (check_grounds site room) _;
      next_open = λ time windows days. first_holds (grounds time windows days) _;
    }

pub all-grounds : Grounds
all-grounds = record { listed = listed; refuses = refuses }
