-- No read failed.
use Rattle.std.proofs.Common.{◌≡◌}
use Rattle.chunk_core.specs.Inlets.{inlet_failures}
use Rattle.folder_core.proofs.ending.reads_to_end.Given as goal

abbrev pub invariant-loop-turn : goal.invariant-loop-turn
invariant-loop-turn g l = inlet_failures l.inlet ≡ 0
