use Rattle.std.proofs.Common.{◌-◌, arith}
use Rattle.fir_core.proofs.StrideLaws.{near_moved}
use Rattle.fir_core.proofs.strides.moved.Goals as goal

pub returns : goal.returns
returns g c = λ f. near_moved f g.row.N c.args.near c.loop-k.moved c.requires.some c.loop-k.invariant.long (λ k h. c.loop-k.invariant.done k (omega arith)) (c.loop-k.invariant.rest (g.row.N - 1) (omega arith) (omega arith))
