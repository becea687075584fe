-- What came so far of the sound was taken.
use Rattle.std.proofs.Common.{◌≡◌, ◌-◌}
use Rattle.chunk_core.specs.Inlets.{inlet_failures}
use Rattle.sound_core.specs.Readers.{IsReading, IsSame}
use Rattle.sound_core.specs.Sinks.{TakesSome}
use Rattle.sound_core.proofs.taking.take_sound.Given as goal

abbrev pub invariant-loop-done : goal.invariant-loop-done
invariant-loop-done g l = TakesSome g.R.Read.remaining g.S.SoundSink.has l.sound l.fn.reader.inlet.now l.reader.inlet.now l.fn.sink l.sink l.done l.fn.reader.ahead.now.items l.reader.ahead.now.items
    × IsReading l.reader × IsSame l.fn.reader l.reader × (inlet_failures l.reader.inlet.now ≡ inlet_failures l.fn.reader.inlet.now)

abbrev pub decreases-loop-done : goal.decreases-loop-done
decreases-loop-done g l = l.sound.count - l.done
