use Rattle.std.proofs.Common.{◌≡◌, ◌+◌, ◌*◌, ◌<◌, ℕ, length, slice_index}
use Rattle.dop_core.specs.Reading.{dop_byte}
use Rattle.dop_core.proofs.packing.pack.Given as goal

abbrev pub invariant-loop-c : goal.invariant-loop-c
invariant-loop-c l = record {
  room : length l.to ≡ 2 * (l.frames * l.channels);
  done : (p d : ℕ) → p < 2 * l.frames → d < l.c → slice_index l.to (p * l.channels + d) ≡ dop_byte l.channels l.piece d p;
}
