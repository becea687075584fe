use Rattle.std.proofs.Common.{◌≡◌, ◌<◌, ◌≤◌, ℕ, length, slice_index}
use Rattle.dsd_bits.specs.Reversing.{reversed}
use Rattle.dsd_bits.proofs.reversing.reverse.Given as goal

abbrev pub invariant-loop-k : goal.invariant-loop-k
invariant-loop-k l = record {
  size : length l.bytes ≡ length l.fn.bytes;
  done : (i : ℕ) → i < l.k → slice_index l.bytes i ≡ reversed (slice_index l.fn.bytes i);
  left : (i : ℕ) → l.k ≤ i → slice_index l.bytes i ≡ slice_index l.fn.bytes i;
}
