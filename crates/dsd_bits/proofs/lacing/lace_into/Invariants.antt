use Rattle.std.proofs.Common.{◌≡◌, ℕ, ◌+◌, ◌*◌, ◌<◌, [], length, get_or, slice_index}
use Rattle.dsd_bits.specs.Packing.{packed}
use Rattle.dsd_bits.proofs.lacing.lace_into.Given as goal

abbrev pub invariant-loop-c : goal.invariant-loop-c
invariant-loop-c l = record {
  size : length l.to ≡ length l.fn.to;
  done : (frame c : ℕ) → frame < l.frames → c < l.c → slice_index l.to (frame * length l.channels + c) ≡ slice_index (packed (get_or l.channels c [])) (l.from + frame);
}
