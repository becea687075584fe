use Rattle.std.proofs.Common.{◌≡◌, take}
use Rattle.player_core.specs.Frames.{tile_of}
use Rattle.player_core.proofs.wave_file.fill_tile.Given as goal

abbrev pub invariant-loop-bits : goal.invariant-loop-bits
invariant-loop-bits l = l.tile.items ≡ tile_of l.taps (take l.bits-index l.channels) l.start l.number
