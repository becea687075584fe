use Rattle.clip_core.proofs.SumLaws.{sum_fits, total_ended, total_more, total_started}
use Rattle.clip_core.proofs.taps.total.Goals as goal

pub loop-tap-init : goal.loop-tap-init
loop-tap-init c = total_started c.args.taps.now c.requires

pub overflow_add-sum : goal.overflow_add-sum
overflow_add-sum c = sum_fits c.args.taps.now c.loop-tap.tap-index _ _ c.loop-tap-test.true c.loop-tap.invariant c.from-sum.result c.from-sum.ensures

pub loop-tap-preserved : goal.loop-tap-preserved
loop-tap-preserved c = total_more c.args.taps.now c.loop-tap.tap-index _ _ c.loop-tap-test.true c.loop-tap.invariant c.from-sum.result c.from-sum.ensures

pub returns : goal.returns
returns c = total_ended c.args.taps.now c.loop-tap.tap-index _ c.loop-tap-test.false c.loop-tap.invariant
