use Rattle.std.proofs.Common.{◌≡◌, ℕ, ◌+◌, ◌*◌, ◌<◌, slice_index}
use Rattle.dop_core.proofs.markers.is_marked.Given as goal

abbrev pub invariant-loop-c : goal.invariant-loop-c
invariant-loop-c l = (c : ℕ) → c < l.c → slice_index l.sound (3 * (l.frame * l.channels + c) + 2) ≡ l.marker
