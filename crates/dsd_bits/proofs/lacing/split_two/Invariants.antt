use Rattle.std.proofs.Common.{◌≡◌, ℕ, ◌+◌, ◌*◌, ◌<◌, length, slice_index}
use Rattle.dsd_bits.proofs.lacing.split_two.Given as goal

abbrev pub invariant-loop-k : goal.invariant-loop-k
invariant-loop-k l = record {
  left_size : length l.left ≡ length l.fn.left;
  right_size : length l.right ≡ length l.fn.right;
  left : (j : ℕ) → j < 16 * l.k → slice_index l.left j ≡ slice_index l.bytes ((l.from + j) * 2 + 0);
  right : (j : ℕ) → j < 16 * l.k → slice_index l.right j ≡ slice_index l.bytes ((l.from + j) * 2 + 1);
}

abbrev pub invariant-loop-frame : goal.invariant-loop-frame
invariant-loop-frame l = record {
  left_size : length l.left ≡ length l.fn.left;
  right_size : length l.right ≡ length l.fn.right;
  left : (j : ℕ) → j < l.frame → slice_index l.left j ≡ slice_index l.bytes ((l.from + j) * 2 + 0);
  right : (j : ℕ) → j < l.frame → slice_index l.right j ≡ slice_index l.bytes ((l.from + j) * 2 + 1);
}
