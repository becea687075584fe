use Rattle.std.proofs.Common.{◌≡◌}
use Rattle.fir_core.specs.Blocks.{sum_within}
use Rattle.fir_core.proofs.row_sums.add_one.Given as goal

-- the bytes so far are in the sum
abbrev pub invariant-loop-b : goal.invariant-loop-b
invariant-loop-b l = l.all ≡ sum_within l.block l.b l.j
