-- No value so far is above the greatest bound.
use Rattle.std.proofs.Common.{ℕ, ◌<◌, ◌≤◌, ◌+◌, ◌*◌, ◌/◌, ◌^◌, get_or, length}
use Rattle.cert_core.proofs.rows.is_above.Given as goal

abbrev pub invariant-loop-i : goal.invariant-loop-i
invariant-loop-i l = (k : ℕ) → k < 8 * l.i → get_or l.row k 0 ≤ 2 ^ 63

abbrev pub invariant-loop-i-2 : goal.invariant-loop-i-2
invariant-loop-i-2 l = (k : ℕ) → k < 8 * (length l.row / 8) + l.i → get_or l.row k 0 ≤ 2 ^ 63
