use Rattle.std.proofs.Common.{◌≡◌, ◌≢◌, ◌+◌, ◌*◌, ◌<◌, ℕ, length, slice_index}
use Rattle.dop_core.specs.Reading.{dop_byte}
use Rattle.dop_core.proofs.packing.pack_channel.Given as goal

abbrev pub invariant-loop-j : goal.invariant-loop-j
invariant-loop-j l = record {
  size : length l.to ≡ length l.fn.to;
  own : (p : ℕ) → p < 2 * l.j → slice_index l.to (p * l.channels + l.c) ≡ dop_byte l.channels l.piece l.c p;
  others : (p d : ℕ) → d < l.channels → d ≢ l.c → slice_index l.to (p * l.channels + d) ≡ slice_index l.fn.to (p * l.channels + d);
}
