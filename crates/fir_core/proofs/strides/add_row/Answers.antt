use Rattle.std.proofs.Common.{arith}
use Rattle.fir_core.proofs.StrideLaws.{near_added}
use Rattle.fir_core.proofs.strides.add_row.Goals as goal

pub returns-clause-sums : goal.returns-clause-sums
returns-clause-sums g c = λ f. near_added f g.row.N c.args.near.now c.loop-k.near c.args.row.now c.loop-k.invariant.long c.requires.long c.requires.small (λ k h. c.loop-k.invariant.done k (omega arith))
