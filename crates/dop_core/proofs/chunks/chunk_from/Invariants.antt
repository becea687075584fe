use Rattle.std.proofs.Common.{◌+◌, ◌-◌, length}
use Rattle.dop_core.proofs.ChunkLaws.{IsWalking}
use Rattle.dop_core.proofs.chunks.chunk_from.Given as goal

abbrev pub invariant-loop-here : goal.invariant-loop-here
invariant-loop-here l = IsWalking l.id l.file l.at l.here

abbrev pub decreases-loop-here : goal.decreases-loop-here
decreases-loop-here l = length l.file + 1 - l.here
