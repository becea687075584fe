use Rattle.std.proofs.Common.{arith}
use Rattle.cost_core.specs.StateCosts.{trellis_of}
use Rattle.trellis_core.proofs.RowLaws.{row_is}
use Rattle.trellis_core.proofs.rows.write_first_row.Goals as goal

pub returns : goal.returns
returns c = row_is (trellis_of c.args.window.now) 0 c.loop-state.row (omega (arith, c.loop-state.auto.row, c.requires)) (λ q h. c.loop-state.invariant q (omega (arith, c.loop-state-test.false, c.requires)))
