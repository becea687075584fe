use Rattle.std.proofs.Common.{◌+◌, ◌*◌}
use Rattle.fir_core.specs.Blocks.{AreAdded}
use Rattle.fir_core.proofs.row_sums.add_eights.Given as goal

abbrev pub invariant-loop-turn : goal.invariant-loop-turn
invariant-loop-turn l = AreAdded l.block (l.block.start + 8 * l.turn) l.sums
