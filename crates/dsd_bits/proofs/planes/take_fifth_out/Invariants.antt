use Rattle.std.proofs.Common.{◌≡◌, ◌⊎◌, ℕ, ◌+◌, ◌*◌, ◌<◌, ◌≤◌, length, slice_index}
use Rattle.dsd_bits.proofs.planes.take_fifth_out.Given as goal

abbrev pub invariant-loop-k : goal.invariant-loop-k
invariant-loop-k l = record {
  size : length l.planes ≡ length l.fn.planes;
  written : (j : ℕ) → j < 16 * l.k → slice_index l.planes (4096 * l.channel + j) ≡ slice_index l.frames (j * 5 + l.channel);
  others : (place : ℕ) → (place < 4096 * l.channel) ⊎ (4096 * l.channel + 16 * l.k ≤ place) → slice_index l.planes place ≡ slice_index l.fn.planes place;
}

abbrev pub invariant-loop-k-2 : goal.invariant-loop-k-2
invariant-loop-k-2 l = record {
  size : length l.planes ≡ length l.fn.planes;
  written : (j : ℕ) → j < l.k → slice_index l.planes (4096 * l.channel + j) ≡ slice_index l.frames (j * 5 + l.channel);
  others : (place : ℕ) → (place < 4096 * l.channel) ⊎ (4096 * l.channel + l.k ≤ place) → slice_index l.planes place ≡ slice_index l.fn.planes place;
}
