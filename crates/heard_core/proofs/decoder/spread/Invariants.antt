use Rattle.std.proofs.Common.{◌≡◌, ℕ, ◌+◌, ◌*◌, ◌%◌, ◌<◌, get_or, length, pos}
use Rattle.heard_core.proofs.decoder.spread.Given as goal

abbrev pub invariant-loop-j : goal.invariant-loop-j
invariant-loop-j l = record {
  written : (k : ℕ) → k < l.j → get_or l.sound (8 * k + l.turn) (pos 0) ≡ get_or l.sums k (pos 0);
  others : (i : ℕ) → i < length l.sound → i % 8 < l.turn → get_or l.sound i (pos 0) ≡ get_or l.initial.sound i (pos 0);
}
