use Rattle.std.proofs.Common.{◌≡◌, ℕ, ◌*◌, ◌<◌, get_or, pos}
use Rattle.fir_core.specs.Windows.{window_sum}
use Rattle.fir_core.proofs.tiles.sum_windows.Given as goal

abbrev pub invariant-loop-i : goal.invariant-loop-i
invariant-loop-i l = (k : ℕ) → k < l.i → get_or l.sums k (pos 0) ≡ window_sum l.tables l.bytes (k * l.step)
