-- The promises of replay (specs/ReplayPromises), by its contract.
--
--   invariant-closed             an invariant holds the initial states and each step out of it
--   walk                         WalkIs of an answer
--   none-forbidden               where the table has an invariant, no followed entry is forbidden
--   without-states               a draft
--   nothing-followed             an empty log
--   promises                     specs/ReplayPromises
use Prim.Native.Nat.{ℕ, ◌%◌, ◌≤◌, ◌<◌}
use native.Mathlib.Nat.{not-suc-le-zero}
use native.Mathlib.Omega.{arith}
use mathlib.Core.Path.{◌≡◌, refl, sym, ap, ◌∙◌, subst}
use mathlib.Core.Logic.{⊎_elim}
use mathlib.Core.Bool.{false, not}
use borrow.Author.Tests.{eq-eqb, ne_eqb, lt-ltb}
use mathlib.Core.List.{List, []}
use lib.ListN.{length}
use Rattle.basics.specs.Bounds.{tabulate}
use Rattle.basics.specs.Refusals.{answered}
use Rattle.basics.proofs.BoundLaws.{lt_or_ge}
use Rattle.basics.proofs.RefusalLaws.{refuse-first, refuse-past, answer-refused, refused-is}
use Rattle.model.specs.Sets.{member}
use Rattle.model.specs.Tables.{Table}
use Rattle.model.specs.Stores.{table_of}
use Rattle.model.specs.Promises.{IsInvariant}
use Rattle.model.proofs.StoresAccepted.{well_formed}
use Rattle.model.proofs.StoresFirstWords.{same_call}
use Rattle.call_decide.proofs.DecideDemandsKept.{demands}
use Rattle.call_replay.specs.Logs.{entry_bytes, max_log, entry, reachable_count, log_grounds, replay_grounds, Replay, walk_through, replay_answer}
use Rattle.call_replay.specs.ReplayPromises.{entries, WalkIs, ReplayPromises}
use Rattle.call_replay.proofs.LogEntries.{Closed, followed-closed}
use Rattle.call_replay.proofs.ReplayAnswered.{Walks, walks}
use Rattle.call_replay.proofs.LogWalks.{walk_is}

invariant-closed : {t : Table} {X : List ℕ} → IsInvariant t X → Closed t X
invariant-closed i =
    record {
      initial = λ s h. record { is = i.initial s h.is };
      steps = λ s u h r. record { is = i.closed s u h.is r.is };
    }

module _ (store : List ℕ) (n g : ℕ) (log : List ℕ) (w : Replay) (e : replay_answer store n g log ≡ answered w) where
  told : Walks store n g log w
  told = walks store n g log e

  walk : WalkIs (table_of store n g) log w
  walk = subst (WalkIs (table_of store n g) log) (sym told.is) (walk_is (table_of store n g) (well_formed store n g told.held) log)

  none-forbidden : {X : List ℕ} → IsInvariant (table_of store n g) X
      → (i : ℕ) → i < w.followed → member (table_of store n g).forbidden (entry log i) ≡ false
  unfolding walk_through
  none-forbidden invariant =
      subst (λ (a : Replay). (i : ℕ) → i < a.followed → member (table_of store n g).forbidden (entry log i) ≡ false) (sym told.is)
      (λ i h. invariant.not_forbidden (entry log i) (followed-closed log (invariant-closed invariant) i h).is)

without-states : (store : List ℕ) (log : List ℕ) (w : Replay) → replay_answer store 0 0 log ≡ answered w
    → w ≡ record { followed = 0; seen = 0; percent = 0; remainder = 0 }
unfolding table_of
without-states store log w e =
    let is = walk store 0 0 log w e in
    let none : reachable_count (table_of store 0 0) ≡ 0 = omega (arith, is.reachable-few) in
    let followed : w.followed ≡ 0 =
    ⊎_elim (λ some. absurd (not-suc-le-zero (is.followed.states 0 some))) (λ few. omega arith) (lt_or_ge 0 w.followed) in
    let seen : w.seen ≡ 0 = omega (arith, is.coverage.within) in
    λ i. record { followed = followed i; seen = seen i; percent = (is.coverage.none none).0 i; remainder = (is.coverage.none none).1 i }

nothing-followed : (store : List ℕ) (n g : ℕ) (w : Replay) → replay_answer store n g [] ≡ answered w → w.followed ≡ 0
unfolding entries tabulate
nothing-followed store n g w e =
    let few : w.followed ≤ 0 = (walk store n g [] w e).followed.within in
    omega arith

pub promises : ReplayPromises
unfolding replay_answer replay_grounds entry
promises =
    record {
      entry-is = λ log i. refl;
      walk = λ store n g log r w c e. walk store n g log w (sym c ∙ e);
      safe = λ store n g allowance before d after a log r w check e v c f.
          none-forbidden store n g log w (sym c ∙ f) ((demands.carries store n g allowance before d after a check e).with_safe v).0;
      draft = λ store log r w c e. without-states store log w (sym c ∙ e);
      empty_log = λ store n g r w c e. nothing-followed store n g w (sym c ∙ e);
      refusal = λ store n g log r k c e. refused-is (replay_grounds store n g (length log)) _ (sym c ∙ e);
      odd = λ store n g log r c e h.
          c ∙ answer-refused (replay_grounds store n g (length log)) _ (refuse-past _ _ refl (sym e) refl (refuse-first 0 _ (ap not (ne_eqb (length log % entry_bytes) 0 h)))) (λ z. omega arith);
      long = λ store n g log r c e h l.
          c ∙ answer-refused (replay_grounds store n g (length log)) _ (refuse-past _ _ refl (sym e) refl (refuse-first 1 _ (ap not (eq-eqb (length log % entry_bytes) 0 h), lt-ltb max_log (length log) l))) (λ z. omega arith);
      first-words = λ store other long long' same n g log.
          same_call store other long long' same (λ t. walk_through t log) n g (log_grounds (length log)) refl;
    }
