-- The call `replay`: its refusals, and its answer.
--
--   accepted                               no ground holds, so the store holds a table, and the log is not too long
--   Walks, walks                           what an answer tells: no ground holds, and the answer is the walk
--   refused-answer, walk-answer            what the call answers where one holds, and where none does
use Rattle.std.specs.Prelude.{Ok, Err}
use Prim.Native.Nat.{ℕ, ◌≤◌, ◌<◌}
use native.Mathlib.Omega.{arith}
use mathlib.Core.Path.{◌≡◌, refl, sym, ap, ◌∙◌, subst₂}
use mathlib.Core.List.{List, []}
use borrow.Author.Tests.{ltb-false}
use lib.ListN.{length}
use Rattle.basics.specs.Refusals.{refuse, answered}
use Rattle.model.specs.Sets.{max_states, Set, size}
use Rattle.model.specs.Stores.{set_at, table_of}
use Rattle.model.specs.Promises.{IsLeast}
use Rattle.model.proofs.SetsMembers.{in_subset}
use Rattle.basics.proofs.RefusalLaws.{clear_refuse, refuse_clear, answered_clear, answered_value}
use Rattle.model.proofs.StoresAccepted.{Store, accepted_store, well_formed}
use Rattle.model.proofs.StoresTables.{row_is}
use Rattle.core_refusals.specs.declared.Refusal.{Refusal}
use Rattle.core_refusals.specs.Refusals.{number}
use Rattle.core_refusals.proofs.RefusalNumbers.{answer_refused, answer_given}
use Rattle.core_rows.specs.Rows.{rows_of}
use Rattle.core_reach.specs.Reached.{reach_by}
use Rattle.core_reach.proofs.ReachWalks.{reaching}
use Rattle.call_replay.specs.Logs.{max_log, followed, seen, percent_of, remainder_of, log_grounds, reachable_count, replay_grounds, Replay, walk_through, replay_answer}
use Rattle.call_replay.specs.ReplayAnswers.{CalledReplay}
use Rattle.call_replay.specs.declared.Walk.{Walk}
use Rattle.call_replay.proofs.LogEntries.{followed_cong}
use Rattle.call_replay.proofs.Following.{all_rows}

-- ---- refusals

pub accepted : (store : List ℕ) (n g bytes : ℕ) → 0 ≡ refuse (replay_grounds store n g bytes) → Store store n g × (bytes ≤ max_log)
unfolding replay_grounds
accepted store n g bytes z =
    let parts = accepted_store store n g (log_grounds bytes) (sym z) in
    (parts.0, ltb-false max_log bytes (refuse_clear (log_grounds bytes) [] refl parts.1).0.1.0)

-- ---- answers

abbrev counts : ℕ → ℕ → ℕ → Replay
counts k states reached =
    record { followed = k; seen = states; percent = percent_of states reached; remainder = remainder_of states reached }

pub record Walks (store : List ℕ) (n g : ℕ) (log : List ℕ) (a : Replay) : Type 0 where
  pub held : Store store n g
  pub short : length log ≤ max_log
  pub is : a ≡ walk_through (table_of store n g) log

pub walks : (store : List ℕ) (n g : ℕ) (log : List ℕ) {a : Replay} → replay_answer store n g log ≡ answered a → Walks store n g log a
unfolding replay_answer
walks store n g log e =
    let grounds = replay_grounds store n g (length log) in
    let parts = accepted store n g (length log) (sym (clear_refuse grounds (answered_clear grounds _ e))) in
    record { held = parts.0; short = parts.1; is = answered_value grounds _ e }

-- what the answer says, from what the struct says
abbrev said : Walk → Replay
said w = record { followed = w.followed; seen = w.seen; percent = w.percent; remainder = w.remainder }

module _ (store : List ℕ) (n g : ℕ) (log : List ℕ) where
  pub refused-answer : (r : Refusal) → number r ≡ refuse (replay_grounds store n g (length log)) → CalledReplay store n g log (Err r)
  unfolding replay_answer
  refused-answer r e = answer_refused said (replay_grounds store n g (length log)) _ r e

  -- m entries that hold the states of X, and Y for the states that can be reached
  pub walk-answer : 0 ≡ refuse (replay_grounds store n g (length log)) → {m s r p q : ℕ} {X Y rows initial : Set}
      → m ≡ followed (all_rows store) log → X ≡ seen log m → s ≡ size X
      → rows ≡ rows_of store → initial ≡ set_at store 0 → IsLeast (reach_by rows initial) Y → r ≡ size Y
      → p ≡ percent_of s r → q ≡ remainder_of s r
      → CalledReplay store n g log (Ok (record { followed = m; seen = s; percent = p; remainder = q }))
  unfolding replay_answer replay_grounds walk_through table_of
  walk-answer z {m} {s} {r} {p} {q} {X} {Y} em ex es es' ei ey er ep eq =
      let t = table_of store n g in
      let held = (accepted store n g (length log) z).0 in
      let ok = well_formed store n g held in
      let rows : (u : ℕ) → u < n → t.row u ≡ (all_rows store).row u =
      λ u h. row_is store n g u h ∙ sym (row_is store max_states 0 u (omega (arith, held.small))) in
      let walked : m ≡ followed t log = em ∙ sym (followed_cong t log ok (all_rows store) refl rows) in
      let states : s ≡ size (seen log (followed t log)) = es ∙ ap size (ex ∙ ap (seen log) walked) in
      let least = subst₂ (λ (R : List ℕ) (Z : Set). IsLeast (reach_by R Z) Y) es' ei ey in
      let reached : r ≡ reachable_count t = er ∙ ap size (reaching.reached-is store n g (set_at store 0) Y ok (in_subset ok.initial) least) in
      let counted : record { followed = m; seen = s; percent = p; remainder = q } ≡ counts m s r =
      λ i. record { followed = m; seen = s; percent = ep i; remainder = eq i } in
      let answer : counts m s r ≡ walk_through t log = λ i. counts (walked i) (states i) (reached i) in
      answer_given said (replay_grounds store n g (length log)) _ _ refl z (counted ∙ answer)
