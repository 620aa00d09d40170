-- `put_sums`: whatever the seed, the buffer begins with the numbers passed.
use Rattle.std.proofs.Common.{◌≡◌, ℕ, ◌≤◌, length, take}
use Rattle.call_generate.specs.Load.{long_lag, numbers}
use Rattle.call_generate.proofs.put_sums.Given as goal

abbrev pub invariant-loop-k : goal.invariant-loop-k
invariant-loop-k l =
    (long_lag ≤ l.k) × (l.k ≤ l.k-end) × (l.k-end ≤ length l.buffer) × (length l.buffer ≡ length l.initial.buffer)
    × ((seed : ℕ) → take l.made l.initial.buffer ≡ numbers seed l.made → take l.k l.buffer ≡ numbers seed l.k)
