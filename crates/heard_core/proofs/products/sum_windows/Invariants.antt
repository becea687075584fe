use Rattle.std.proofs.Common.{◌≡◌, ℕ, ◌*◌, ◌<◌, drop, get_or, length, pos, take}
use Rattle.heard_core.specs.Products.{AreSums, dot}
use Rattle.heard_core.proofs.products.sum_windows.Given as goal

abbrev pub invariant-loop-i : goal.invariant-loop-i
invariant-loop-i g l = AreSums g.row.N (λ w. dot (take (4 * l.i) l.taps) (drop (w * l.step) l.errors)) l.parts

abbrev pub invariant-loop-w : goal.invariant-loop-w
invariant-loop-w g l = record {
  long : length l.sums ≡ g.row.N;
  done : (v : ℕ) → v < l.w → get_or l.sums v (pos 0) ≡ dot l.taps (drop (v * l.step) l.errors);
}
