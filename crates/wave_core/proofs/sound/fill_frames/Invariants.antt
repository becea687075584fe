use Rattle.std.proofs.Common.{◌≡◌, ℕ, ◌+◌, ◌*◌, ◌/◌, ◌<◌, get_or, pos, slice_index}
use Rattle.wave_core.specs.Texts.{sample_bytes}
use Rattle.wave_core.proofs.sound.fill_frames.Given as goal

abbrev pub invariant-loop-c : goal.invariant-loop-c
invariant-loop-c l = (i d k : ℕ) → i < l.frames → d < l.c → k < l.width / 8 → slice_index l.to ((i * l.channels + d) * (l.width / 8) + k) ≡ slice_index (sample_bytes l.width (get_or l.samples (d * l.frames + i) (pos 0))) k
