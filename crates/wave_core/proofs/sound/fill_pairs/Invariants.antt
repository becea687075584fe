use Rattle.std.proofs.Common.{◌≡◌, ℕ, ◌+◌, ◌*◌, ◌/◌, ◌<◌, get_or, length, pos, slice_index}
use Rattle.wave_core.specs.Texts.{sample_bytes}
use Rattle.wave_core.proofs.sound.fill_pairs.Given as goal

abbrev pub invariant-loop-i : goal.invariant-loop-i
invariant-loop-i l = record {
  size : length l.to ≡ length l.fn.to;
  left : (j k : ℕ) → j < l.i → k < l.width / 8 → slice_index l.to (j * 2 * (l.width / 8) + k) ≡ slice_index (sample_bytes l.width (get_or l.left j (pos 0))) k;
  right : (j k : ℕ) → j < l.i → k < l.width / 8 → slice_index l.to ((j * 2 + 1) * (l.width / 8) + k) ≡ slice_index (sample_bytes l.width (get_or l.right j (pos 0))) k;
}
