use Rattle.fir_core.specs.Blocks.{sum_within}
use Rattle.fir_core.proofs.LaneSums.{AreLanes}
use Rattle.fir_core.proofs.row_sums.add_eight.Given as goal

-- the bytes so far are in the sums
abbrev pub invariant-loop-b : goal.invariant-loop-b
invariant-loop-b l = AreLanes (sum_within l.block l.b) l.j l.lanes
