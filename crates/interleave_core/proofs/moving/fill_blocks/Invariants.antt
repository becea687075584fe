use Rattle.std.proofs.Common.{◌≡◌, ℕ, ◌+◌, ◌*◌, ◌<◌, ◌≤◌, length, slice_index}
use Rattle.interleave_core.proofs.moving.fill_blocks.Given as goal

abbrev pub invariant-loop-group : goal.invariant-loop-group
invariant-loop-group l = record {
  size : length l.blocks ≡ length l.fn.blocks;
  done : (g c w : ℕ) → g < l.group → c < l.stretch.channels → w < 4096 → slice_index l.blocks ((g * l.stretch.channels + c) * 4096 + w) ≡ slice_index l.bytes ((4096 * g + w) * l.stretch.channels + c);
  left : (place : ℕ) → 4096 * l.group * l.stretch.channels ≤ place → slice_index l.blocks place ≡ 0;
}
