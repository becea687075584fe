-- What was read so far is buffered.
use Rattle.std.proofs.Common.{◌≡◌, ℕ, ◌-◌, List, ◌++◌}
use Rattle.chunk_core.specs.Inlets.{inlet_failures, inlet_reads}
use Rattle.sound_core.specs.Readers.{IsReading, IsSame}
use Rattle.sound_core.specs.Reads.{Reads}
use Rattle.sound_core.proofs.reader.SoundReader.read_all.Given as goal

abbrev pub invariant-loop-count : goal.invariant-loop-count
invariant-loop-count g l = (read : List ℕ) × Reads g.R.Read.remaining l.initial.self.inlet.now l.self.inlet.now read × (l.self.ahead.now.items ≡ l.initial.self.ahead.now.items ++ read)
    × IsReading l.self × IsSame l.initial.self l.self × (inlet_failures l.self.inlet.now ≡ inlet_failures l.initial.self.inlet.now)

abbrev pub decreases-loop-count : goal.decreases-loop-count
decreases-loop-count g l = l.initial.self.limit - inlet_reads l.self.inlet.now
