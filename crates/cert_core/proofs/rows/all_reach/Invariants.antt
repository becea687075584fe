-- No end so far is below the stated cost.
use Rattle.std.proofs.Common.{ℕ, ◌<◌, ◌≤◌, ◌+◌, ◌*◌, ◌/◌, get_or, length}
use Rattle.cert_core.proofs.rows.all_reach.Given as goal

abbrev pub invariant-loop-i : goal.invariant-loop-i
invariant-loop-i l = (k : ℕ) → k < 8 * l.i → l.stated ≤ get_or l.last k 0 + get_or l.tails k 0

abbrev pub invariant-loop-i-2 : goal.invariant-loop-i-2
invariant-loop-i-2 l = (k : ℕ) → k < 8 * (length l.last / 8) + l.i → l.stated ≤ get_or l.last k 0 + get_or l.tails k 0
