use Rattle.std.proofs.Common.{◌≡◌, ◌⊎◌, ℕ, ◌+◌, ◌*◌, ◌/◌, ◌%◌, ◌<◌, ◌≤◌, length, slice_index}
use Rattle.dsd_bits.proofs.planes.take_apart.Given as goal

abbrev pub invariant-loop-k : goal.invariant-loop-k
invariant-loop-k g l = record {
  size : length l.planes ≡ length l.fn.planes;
  written : (c k : ℕ) → c < g.row.N → k < l.k → slice_index l.planes (4096 * c + k) ≡ slice_index l.frames (k * g.row.N + c);
  others : (place : ℕ) → (g.row.N ≤ place / 4096) ⊎ (l.k ≤ place % 4096) → slice_index l.planes place ≡ slice_index l.fn.planes place;
}

abbrev pub invariant-loop-c : goal.invariant-loop-c
invariant-loop-c g l = record {
  size : length l.planes ≡ length l.fn.planes;
  written : (c k : ℕ) → c < g.row.N → k < l.k → slice_index l.planes (4096 * c + k) ≡ slice_index l.frames (k * g.row.N + c);
  frame : (c : ℕ) → c < l.c → slice_index l.planes (4096 * c + l.k) ≡ slice_index l.frames (l.k * g.row.N + c);
  others : (place : ℕ) → (g.row.N ≤ place / 4096) ⊎ (l.k + 1 ≤ place % 4096) → slice_index l.planes place ≡ slice_index l.fn.planes place;
}
