use Rattle.std.proofs.Common.{◌≡◌, ◌-◌, ◌*◌}
use Rattle.dop_core.specs.Reading.{broken_from}
use Rattle.dop_core.proofs.markers.broken_from.Given as goal

abbrev pub invariant-loop-frame : goal.invariant-loop-frame
invariant-loop-frame l = broken_from l.channels l.first l.sound (l.frame * l.channels) ((l.frames - l.frame) * l.channels) ≡ broken_from l.channels l.first l.sound 0 (l.frames * l.channels)
