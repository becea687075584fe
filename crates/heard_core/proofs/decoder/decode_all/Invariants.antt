use Rattle.std.proofs.Common.{◌≡◌, ◌*◌, min, take}
use Rattle.heard_core.specs.Sounds.{decoded_from}
use Rattle.heard_core.proofs.decoder.decode_all.Given as goal

-- the tiles before this one are done
abbrev pub invariant-loop-tile : goal.invariant-loop-tile
invariant-loop-tile l = take (min (l.tile * 32768) l.number) l.sound ≡ decoded_from l.source.taps.now l.source.bits.now l.first (min (l.tile * 32768) l.number)
