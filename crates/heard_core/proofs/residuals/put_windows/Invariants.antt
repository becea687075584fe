use Rattle.std.proofs.Common.{◌≡◌, ℕ, ◌+◌, ◌*◌, ◌<◌, ◌≤◌, drop, get_or, pos}
use Rattle.heard_core.specs.Products.{dot}
use Rattle.heard_core.proofs.residuals.put_windows.Given as goal

abbrev pub invariant-loop-w : goal.invariant-loop-w
invariant-loop-w g l = record {
  kept : (i : ℕ) → i < l.first → get_or l.sums i (pos 0) ≡ get_or l.fn.sums i (pos 0);
  put : (i : ℕ) → l.first ≤ i → i < l.first + l.w → get_or l.sums i (pos 0) ≡ dot l.taps (drop (i * l.step) l.errors);
}
