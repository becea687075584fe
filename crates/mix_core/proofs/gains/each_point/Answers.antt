use Rattle.std.proofs.lemmas.Result.{err_from_is_err_and}
use Rattle.project_core.proofs.Each.{values_go_on, values_end, values_done}
use Rattle.mix_core.specs.ReadingGains.{point_of}
use Rattle.mix_core.proofs.gains.each_point.Goals as goal

pub returns-in_err-point : goal.returns-in_err-point
returns-in_err-point c =
    let p = err_from_is_err_and c.from_residual.result c.from_residual.ensures.1 in
    rw (p.1, p.2) (values_end c.in_err-point.field-0.0 (λ _. point_of c.args.key c.args.clip) c.loop-value.points.items c.args.values.now c.loop-value.value-index c.value-item.result _ c.loop-value-test.true c.value-item.is c.in_err-point.ensures c.loop-value.invariant)

pub loop-value-preserved : goal.loop-value-preserved
loop-value-preserved c = rw c.in_ok-push.ensures.items (values_go_on (λ _. point_of c.args.key c.args.clip) c.loop-value.points.items c.args.values.now c.loop-value.value-index c.value-item.result _ _ c.loop-value-test.true c.value-item.is c.in_ok-point.ensures c.loop-value.invariant)

pub returns : goal.returns
returns c = values_done (λ _. point_of c.args.key c.args.clip) c.loop-value.points.items c.args.values.now c.loop-value.value-index _ c.loop-value-test.false c.loop-value.invariant
