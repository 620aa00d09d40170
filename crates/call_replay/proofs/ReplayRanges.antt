-- How large the numbers of an answer can be: what lays them out in 32 bits asks for.
--
--   ReplayRange, replay_range
use Prim.Native.Nat.{ℕ, ◌*◌, ◌%◌, ◌≤◌, ◌<◌}
use native.Mathlib.Nat.{mod-lt}
use native.Mathlib.Omega.{arith}
use mathlib.Core.Path.{◌≡◌, sym, subst}
use mathlib.Core.List.{List}
use borrow.Author.Tests.{eqb-false}
use lib.Dec.{eqb}
use Rattle.basics.specs.Refusals.{answered}
use Rattle.model.specs.Sets.{max_states}
use Rattle.model.specs.Stores.{table_of}
use Rattle.basics.proofs.BoundLaws.{by_cond}
use Rattle.model.proofs.SetsCounted.{size-most}
use Rattle.model.proofs.StoresAccepted.{well_formed}
use Rattle.core_reach.specs.Reached.{reachable}
use Rattle.call_replay.specs.Logs.{max_log, followed, seen, remainder_of, reachable_count, Replay, walk_through, replay_answer}
use Rattle.call_replay.proofs.LogFronts.{entries-long}
use Rattle.call_replay.proofs.ReplayAnswered.{walks}
use Rattle.call_replay.proofs.LogWalks.{within, walk_is}

pub record ReplayRange (a : Replay) : Type 0 where
  pub followed : a.followed ≤ max_log
  pub seen : a.seen ≤ max_states
  pub percent : a.percent ≤ 100
  pub remainder : a.remainder ≤ max_states

remainder-small : (s r : ℕ) → r ≤ max_states → remainder_of s r ≤ max_states
unfolding remainder_of
remainder-small s r h =
    by_cond (λ (m : ℕ). m ≤ max_states) (eqb r 0) 0 (100 * s % r) (λ q. omega arith)
    (λ q.
    let some : 0 < r = omega (arith, eqb-false r 0 q) in
    omega (arith, mod-lt (100 * s) {m = r} some))

pub replay_range : (store : List ℕ) (n g : ℕ) (log : List ℕ) {a : Replay} → replay_answer store n g log ≡ answered a → ReplayRange a
unfolding walk_through
replay_range store n g log e =
    let t = table_of store n g in
    let told = walks store n g log e in
    let ok = well_formed store n g told.held in
    subst ReplayRange (sym told.is)
    (record {
      followed = omega (arith, within t ok log, entries-long log, told.short);
      seen = size-most (seen log (followed t log));
      percent = (walk_is t ok log).coverage.most;
      remainder = remainder-small _ (reachable_count t) (size-most (reachable t t.initial));
    })
