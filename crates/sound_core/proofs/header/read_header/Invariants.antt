-- What was read so far is buffered. It is no file that holds a recording, and has nothing of the sound.
use Rattle.std.proofs.Common.{◌≡◌, ◌-◌}
use Rattle.chunk_core.specs.Inlets.{inlet_failures, inlet_reads}
use Rattle.dsdiff_core.specs.Walks.{IsWalked}
use Rattle.sound_core.specs.Files.{IsBeforeSound, IsRefused}
use Rattle.sound_core.specs.Readers.{IsReading, IsSame}
use Rattle.sound_core.specs.Reads.{Reads}
use Rattle.sound_core.proofs.header.read_header.Given as goal

abbrev pub invariant-loop-count : goal.invariant-loop-count
invariant-loop-count g l = Reads g.R.Read.remaining l.initial.reader.inlet.now l.reader.inlet.now l.reader.ahead.now.items × IsRefused l.reader.ahead.now.items
    × IsReading l.reader × IsSame l.initial.reader l.reader × (inlet_failures l.reader.inlet.now ≡ inlet_failures l.initial.reader.inlet.now) × IsBeforeSound l.reader.ahead.now.items
    × IsWalked l.reader.ahead.now.items l.walked

abbrev pub decreases-loop-count : goal.decreases-loop-count
decreases-loop-count g l = l.initial.reader.limit - inlet_reads l.reader.inlet.now
