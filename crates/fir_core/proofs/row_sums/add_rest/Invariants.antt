use Rattle.fir_core.specs.Blocks.{AreAdded}
use Rattle.fir_core.proofs.row_sums.add_rest.Given as goal

abbrev pub invariant-loop-j : goal.invariant-loop-j
invariant-loop-j l = AreAdded l.block l.j l.sums
