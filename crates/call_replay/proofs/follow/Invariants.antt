-- `follow`: each entry before entry i is followed, and `at` is where the set begins that entry i may be in.
use Prim.Native.Nat.{◌≤◌}
use Rattle.call_replay.specs.Logs.{entry_count}
use Rattle.call_replay.proofs.Following.{Following}
use Rattle.call_replay.proofs.follow.Given as goal

abbrev pub invariant-loop-i : goal.invariant-loop-i
invariant-loop-i l = (l.i ≤ entry_count l.log) × Following l.store.words.now l.log l.i l.at l.words
