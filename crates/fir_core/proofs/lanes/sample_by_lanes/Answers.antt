use Rattle.std.proofs.Common.{ap, arith}
use Rattle.fir_core.proofs.TileLaws.{whole_step}
use Rattle.fir_core.proofs.lanes.sample_by_lanes.Goals as goal

pub sum_at_by_lanes-requires-clause-phase : goal.sum_at_by_lanes-requires-clause-phase
sum_at_by_lanes-requires-clause-phase c = omega (arith, whole_step c.args.j c.taps.inside.factor c.taps.invariant.limits.whole_bytes, ap (λ d. d.delay) c.taps.view_is)
