-- The values below i are capped.
use Rattle.std.proofs.Common.{◌≡◌, ℕ, ◌<◌, min, get_or}
use Rattle.trellis_core.proofs.capping.cap_row.Given as goal

abbrev pub invariant-loop-i : goal.invariant-loop-i
invariant-loop-i l = (k : ℕ) → k < l.i → get_or l.capped k 0 ≡ min (get_or l.row k 0) l.cost
