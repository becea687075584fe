use Rattle.std.proofs.Common.{◌≡◌, ◌≢◌, ℕ, ◌+◌, ◌*◌, ◌/◌, ◌<◌, get_or, pos, slice_index}
use Rattle.wave_core.specs.Texts.{sample_bytes}
use Rattle.wave_core.proofs.sound.spread.Given as goal

abbrev pub invariant-loop-i : goal.invariant-loop-i
invariant-loop-i l = record {
  own : (j k : ℕ) → j < l.i → k < l.width / 8 → slice_index l.to ((j * l.channels + l.c) * (l.width / 8) + k) ≡ slice_index (sample_bytes l.width (get_or l.samples j (pos 0))) k;
  others : (j d k : ℕ) → d < l.channels → d ≢ l.c → k < l.width / 8 → slice_index l.to ((j * l.channels + d) * (l.width / 8) + k) ≡ slice_index l.fn.to ((j * l.channels + d) * (l.width / 8) + k);
}
