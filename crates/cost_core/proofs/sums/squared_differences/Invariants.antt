-- The squares below i are written.
use Rattle.std.proofs.Common.{◌≡◌, ℕ, ◌<◌, ◌-ℤ◌, pos, get_or}
use Rattle.cost_core.specs.Weighted.{square}
use Rattle.cost_core.proofs.sums.squared_differences.Given as goal

abbrev pub invariant-loop-i : goal.invariant-loop-i
invariant-loop-i l = (k : ℕ) → k < l.i → get_or l.squares k 0 ≡ square (get_or l.sums k (pos 0) -ℤ l.other)
