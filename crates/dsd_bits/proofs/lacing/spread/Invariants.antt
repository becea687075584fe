use Rattle.std.proofs.Common.{◌≡◌, ◌≢◌, ℕ, ◌+◌, ◌*◌, ◌<◌, length, slice_index}
use Rattle.dsd_bits.proofs.lacing.spread.Given as goal

abbrev pub invariant-loop-frame : goal.invariant-loop-frame
invariant-loop-frame l = record {
  size : length l.to ≡ length l.fn.to;
  own : (j : ℕ) → j < l.frame → slice_index l.to (j * l.channels + l.channel) ≡ slice_index l.bytes j;
  others : (j d : ℕ) → d < l.channels → d ≢ l.channel → slice_index l.to (j * l.channels + d) ≡ slice_index l.fn.to (j * l.channels + d);
}
