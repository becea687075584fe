-- The block begins with the buffered bytes and what was read so far.
use Rattle.std.proofs.Common.{◌≡◌, ℕ, ◌+◌, ◌-◌, ◌≤◌, List, ◌++◌, drop, length, take}
use Rattle.chunk_core.specs.Inlets.{inlet_failures}
use Rattle.sound_core.specs.Readers.{IsReading, IsSame}
use Rattle.sound_core.specs.Reads.{Reads}
use Rattle.sound_core.proofs.reader.SoundReader.fill.Given as goal

abbrev pub invariant-loop-filled : goal.invariant-loop-filled
invariant-loop-filled g l = (read : List ℕ) × Reads g.R.Read.remaining l.fn.self.inlet.now l.self.inlet.now read
    × (take l.filled l.self.block.now.items ≡ take l.size l.fn.self.ahead.now.items ++ read) × (l.filled ≡ length (take l.size l.fn.self.ahead.now.items) + length read) × (l.filled ≤ l.size)
    × (l.self.ahead.now.items ≡ drop l.size l.fn.self.ahead.now.items) × IsReading l.self × IsSame l.fn.self l.self × (inlet_failures l.self.inlet.now ≡ inlet_failures l.fn.self.inlet.now)

abbrev pub decreases-loop-filled : goal.decreases-loop-filled
decreases-loop-filled g l = l.size - l.filled
