-- Chunks were passed so far, and the next one is buffered.
use Rattle.std.proofs.Common.{◌≡◌, ◌-◌, ℕ, List}
use Rattle.chunk_core.specs.Inlets.{inlet_failures}
use Rattle.sound_core.specs.Passing.{GoesOn, IsOn}
use Rattle.sound_core.specs.Readers.{IsReading, IsSame}
use Rattle.sound_core.proofs.passing.name_passed.Given as goal

abbrev pub invariant-loop-next : goal.invariant-loop-next
invariant-loop-next g l = IsReading l.reader × IsSame l.initial.reader l.reader × (inlet_failures l.reader.inlet.now ≡ inlet_failures l.initial.reader.inlet.now)
    × ((file : List ℕ) → IsOn l.initial.reader file l.initial.now → GoesOn g.R.Read.remaining l.initial.reader l.reader file l.now) × ((file : List ℕ) × IsOn l.reader file l.now)

abbrev pub decreases-loop-next : goal.decreases-loop-next
decreases-loop-next g l = 18446744073709551616 - l.now.end
