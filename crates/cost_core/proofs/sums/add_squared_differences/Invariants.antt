-- The squares below k are added, and the numbers from k on are as they were.
use Rattle.std.proofs.Common.{◌≡◌, ◌≤◌, ℕ, ◌+◌, ◌*◌, ◌%◌, ◌^◌, ◌<◌, ◌-ℤ◌, pos, get_or, length}
use Rattle.cost_core.specs.Weighted.{square}
use Rattle.cost_core.proofs.sums.add_squared_differences.Given as goal

abbrev pub invariant-loop-k : goal.invariant-loop-k
invariant-loop-k l =
    record {
      added : (k : ℕ) → k < l.k → get_or l.row k 0 ≡ get_or l.initial.row k 0 + square (get_or l.sums ((k * 2 ^ l.shift + l.first) % length l.sums) (pos 0) -ℤ l.other);
      kept : (k : ℕ) → l.k ≤ k → get_or l.row k 0 ≡ get_or l.initial.row k 0;
    }
