-- What was read is at the start of the buffer, and no read failed yet.
use Rattle.std.proofs.Common.{◌≡◌, ◌+◌, ◌-◌, ◌≤◌, length, take}
use Rattle.std.specs.Io.KnownBytes.{Consumes}
use Rattle.std.specs.Io.Iter.{u64_saturate}
use Rattle.chunk_core.specs.Inlets.{inlet_reader, inlet_failures, inlet_given, inlet_reads, CountsReads}
use Rattle.chunk_core.proofs.inlet.Inlet.fill.Given as goal

abbrev pub invariant-loop-filled : goal.invariant-loop-filled
invariant-loop-filled g l = (l.filled ≤ length l.buffer) × Consumes (g.R.Read.remaining (inlet_reader l.initial.self)) (g.R.Read.remaining (inlet_reader l.self)) (take l.filled l.buffer)
    × (inlet_failures l.self ≡ inlet_failures l.initial.self) × (inlet_given l.self ≡ u64_saturate (inlet_given l.initial.self + l.filled))
    × CountsReads (inlet_reads l.initial.self) (inlet_reads l.self) l.filled 0

abbrev pub decreases-loop-filled : goal.decreases-loop-filled
decreases-loop-filled g l = length l.buffer - l.filled
