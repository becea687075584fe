use Rattle.std.proofs.Common.{◌≡◌, ℕ, ◌+◌, ◌*◌, ◌<◌, ◌≤◌, length, slice_index}
use Rattle.dsd_bits.proofs.planes.put_together.Given as goal

abbrev pub invariant-loop-k : goal.invariant-loop-k
invariant-loop-k g l = record {
  size : length l.frames ≡ length l.fn.frames;
  written : (c k : ℕ) → c < g.row.N → k < l.k → slice_index l.frames (k * g.row.N + c) ≡ slice_index l.planes (4096 * c + k);
  others : (place : ℕ) → l.k * g.row.N ≤ place → slice_index l.frames place ≡ slice_index l.fn.frames place;
}

abbrev pub invariant-loop-c : goal.invariant-loop-c
invariant-loop-c g l = record {
  size : length l.frames ≡ length l.fn.frames;
  written : (c k : ℕ) → c < g.row.N → k < l.k → slice_index l.frames (k * g.row.N + c) ≡ slice_index l.planes (4096 * c + k);
  frame : (c : ℕ) → c < l.c → slice_index l.frames (l.k * g.row.N + c) ≡ slice_index l.planes (4096 * c + l.k);
  others : (place : ℕ) → l.k * g.row.N + l.c ≤ place → slice_index l.frames place ≡ slice_index l.fn.frames place;
}
