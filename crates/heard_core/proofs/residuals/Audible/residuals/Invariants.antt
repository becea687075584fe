use Rattle.std.proofs.Common.{◌≡◌, ℕ, ◌*◌, ◌<◌, drop, get_or, pos}
use Rattle.heard_core.specs.Products.{dot}
use Rattle.heard_core.proofs.residuals.Audible.residuals.Given as goal

abbrev pub invariant-loop-group : goal.invariant-loop-group
invariant-loop-group l = (k : ℕ) → k < 8 * l.group → get_or l.sums k (pos 0) ≡ dot l.taps (drop (k * l.step) l.errors)

abbrev pub invariant-loop-i : goal.invariant-loop-i
invariant-loop-i l = (k : ℕ) → k < l.i → get_or l.sums k (pos 0) ≡ dot l.taps (drop (k * l.step) l.errors)
