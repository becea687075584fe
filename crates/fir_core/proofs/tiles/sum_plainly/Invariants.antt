use Rattle.std.proofs.Common.{◌≡◌, ℕ, ◌+◌, ◌*◌, ◌<◌, get_or, pos}
use Rattle.dsd_bits.specs.Packing.{unpacked}
use Rattle.fir_core.specs.Convolution.{conv}
use Rattle.fir_core.proofs.tiles.sum_plainly.Given as goal

abbrev pub invariant-loop-i : goal.invariant-loop-i
invariant-loop-i l = (k : ℕ) → k < l.i → get_or l.sums k (pos 0) ≡ conv l.source.taps.now.taps (unpacked l.source.bytes.now l.source.count) (k * l.factor + l.first)
