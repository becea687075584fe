use Rattle.std.proofs.Common.{◌≡◌, ◌⊎◌, ℕ, ◌+◌, ◌*◌, ◌/◌, ◌%◌, ◌<◌, ◌≤◌, length, slice_index}
use Rattle.dsd_bits.proofs.planes.take_five_apart.Given as goal

abbrev pub invariant-loop-channel : goal.invariant-loop-channel
invariant-loop-channel l = record {
  size : length l.planes ≡ length l.fn.planes;
  written : (c k : ℕ) → c < l.channel → k < l.count → slice_index l.planes (4096 * c + k) ≡ slice_index l.frames (k * 5 + c);
  others : (place : ℕ) → (l.channel ≤ place / 4096) ⊎ (l.count ≤ place % 4096) → slice_index l.planes place ≡ slice_index l.fn.planes place;
}
