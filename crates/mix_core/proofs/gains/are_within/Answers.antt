use Rattle.std.proofs.Common.{pos, arith, false, length, true}
use Rattle.mix_core.specs.ReadingGains.{rise_from}
use Rattle.mix_core.proofs.GainLaws.{counted, falls, rising_ended, rising_more}
use Rattle.mix_core.proofs.gains.are_within.Goals as goal

pub overflow_add-least : goal.overflow_add-least
overflow_add-least c =
    let point = c.requires c.loop-point.point-index (record { place = 0; gain = pos 0 }) c.loop-point-test.true in
    record { fits = omega (arith, point.place_fits) }

pub loop-point-preserved : goal.loop-point-preserved
loop-point-preserved c = rising_more c.args.points.now c.loop-point.least c.loop-point.point-index _ c.loop-point-test.true c.loop-point.invariant c.if-point-least.false

pub returns-then-point-least : goal.returns-then-point-least
returns-then-point-least c = counted (length c.args.points.now) false (rise_from 0 c.args.points.now) c.if-is_empty.ensures c.if-points-gt-MAX_POINTS.false (falls c.args.points.now c.loop-point.least c.loop-point.point-index _ c.loop-point-test.true c.loop-point.invariant c.if-point-least.true)

pub returns : goal.returns
returns c = counted (length c.args.points.now) true (rise_from 0 c.args.points.now) c.if-is_empty.ensures c.if-points-gt-MAX_POINTS.false (rising_ended c.args.points.now c.loop-point.least c.loop-point.point-index c.loop-point-test.false c.loop-point.invariant)
