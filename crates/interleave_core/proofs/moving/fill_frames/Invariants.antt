use Rattle.std.proofs.Common.{◌≡◌, ℕ, ◌+◌, ◌*◌, ◌/◌, ◌%◌, ◌<◌, length, slice_index}
use Rattle.interleave_core.proofs.moving.fill_frames.Given as goal

abbrev pub invariant-loop-group : goal.invariant-loop-group
invariant-loop-group l = record {
  size : length l.frames ≡ length l.fn.frames;
  done : (c j : ℕ) → c < l.stretch.channels → j < 4096 * l.group → j < l.number → slice_index l.frames (j * l.stretch.channels + c) ≡ slice_index l.bytes ((j / 4096 * l.stretch.channels + c) * 4096 + j % 4096);
}
