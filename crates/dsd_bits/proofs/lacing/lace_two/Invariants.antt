use Rattle.std.proofs.Common.{◌≡◌, ℕ, ◌+◌, ◌*◌, ◌<◌, length, slice_index}
use Rattle.dsd_bits.proofs.lacing.lace_two.Given as goal

abbrev pub invariant-loop-frame : goal.invariant-loop-frame
invariant-loop-frame l = record {
  size : length l.to ≡ length l.fn.to;
  left : (j : ℕ) → j < l.frame → slice_index l.to (2 * j) ≡ slice_index l.left j;
  right : (j : ℕ) → j < l.frame → slice_index l.to (2 * j + 1) ≡ slice_index l.right j;
}
