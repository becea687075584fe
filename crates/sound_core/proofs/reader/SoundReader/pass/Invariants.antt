-- N bytes were passed so far.
use Rattle.std.proofs.Common.{◌≡◌, ◌-◌, ◌≤◌}
use Rattle.chunk_core.specs.Inlets.{inlet_failures, inlet_reads}
use Rattle.sound_core.specs.Readers.{IsReading, IsSame, Passes}
use Rattle.sound_core.proofs.reader.SoundReader.pass.Given as goal

abbrev pub invariant-loop-left : goal.invariant-loop-left
invariant-loop-left g l = Passes g.R.Read.remaining l.initial.self.inlet.now l.self.inlet.now (l.initial.wanted - l.left) l.initial.self.ahead.now.items l.self.ahead.now.items
    × (l.left ≤ l.initial.wanted) × IsReading l.self × IsSame l.initial.self l.self × (inlet_failures l.self.inlet.now ≡ inlet_failures l.initial.self.inlet.now)

abbrev pub decreases-loop-left : goal.decreases-loop-left
decreases-loop-left g l = l.initial.self.limit - inlet_reads l.self.inlet.now
