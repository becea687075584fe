use Rattle.std.proofs.Common.{◌≡◌, ◌*◌, ◌++◌, min}
use Rattle.std.specs.List.{flat_map}
use Rattle.wave_core.specs.Texts.{sample_bytes}
use Rattle.player_core.specs.Frames.{frames_below}
use Rattle.player_core.proofs.wave_file.push_tiles.Given as goal

abbrev pub invariant-loop-turn : goal.invariant-loop-turn
invariant-loop-turn l = l.out.items ≡ l.initial.out.items ++ flat_map (sample_bytes l.taps.width) (frames_below l.taps l.channels (min (l.turn * 4096) l.count))
