use Rattle.std.proofs.Common.{◌≡◌, ℕ, ◌+◌, ◌%◌, ◌<◌, get_or, length, pos}
use Rattle.fir_core.specs.Convolution.{conv}
use Rattle.heard_core.proofs.decoder.decode_tile.Given as goal

-- the bits of the turns before this one are done
abbrev pub invariant-loop-turn : goal.invariant-loop-turn
invariant-loop-turn l = (i : ℕ) → i < length l.sound → i % 8 < l.turn → get_or l.sound i (pos 0) ≡ conv l.source.taps.now l.source.bits.now (i + l.place)
