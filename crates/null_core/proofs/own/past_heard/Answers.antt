use Rattle.std.proofs.Common.{arith, map, refl, subst, sym}
use Rattle.null_core.specs.Parts.{part_content}
use Rattle.null_core.proofs.OwnLaws.{PastSoFar, PastSoFar-heard, has_places, later_places, part_there, past_heard}
use Rattle.null_core.proofs.own.past_heard.Goals as goal
use Rattle.null_core.proofs.own.past_heard.Goals.{then-is_heard, else-is_heard}

pub is_heard-requires : goal.is_heard-requires
is_heard-requires c = omega (arith, c.requires.in_order, c.requires.fits)

pub past_other-past-requires : goal.past_other-past-requires
past_other-past-requires c =
    let part = part_content c.part-item.result in
    let low = c.args.low in
    let end = c.args.end in
    let there = part_there c.args.parts.now c.loop-part.part-index c.part-item.result c.loop-part-test.true c.part-item.is in
    let places = has_places (map part_content c.args.parts.now) c.args.bits.now low end c.requires.heard part c.loop-part.part-index end there (c.if-is_heard.ensures.0 refl) (omega (arith, c.requires.in_order)) (omega arith) c.requires.inside in
    later_places part c.args.bits.now low c.loop-part.past end c.loop-part.invariant.after c.loop-part.invariant.before places

pub loop-part-preserved : goal.loop-part-preserved
loop-part-preserved c =
    let parts = map part_content c.args.parts.now in
    let bits = c.args.bits.now in
    let past = c.loop-part.past in
    let there = part_there c.args.parts.now c.loop-part.part-index c.part-item.result c.loop-part-test.true c.part-item.is in
    let So_far = PastSoFar parts bits c.args.low c.args.end in
    elim c.if-is_heard.branch [
      | then-is_heard w ↦
          subst So_far (sym w.past-is) (PastSoFar-heard parts bits c.args.low c.args.end past w.past_other-past.result c.loop-part.part-index (part_content c.part-item.result) there c.loop-part.invariant (w.if-is_heard.ensures.0 refl) w.past_other-past.ensures)
      | else-is_heard w ↦ subst So_far (sym w.past-is) c.loop-part.invariant
    ]

pub returns : goal.returns
returns c = past_heard (map part_content c.args.parts.now) c.args.bits.now c.args.low c.args.end c.loop-part.past c.requires.heard c.loop-part.invariant
