use Rattle.std.proofs.Common.{◌+◌, arith, map, refl, subst, sym}
use Rattle.std.proofs.lemmas.Bool.{false≢true}
use Rattle.std.proofs.lemmas.List.{length-map}
use Rattle.null_core.specs.Parts.{part_content}
use Rattle.null_core.proofs.OwnLaws.{AlikeSoFar, AlikeSoFar-heard, AlikeSoFar-silent, alike_to, has_places, part_there}
use Rattle.null_core.proofs.own.alike_until.Goals as goal
use Rattle.null_core.proofs.own.alike_until.Goals.{then-is_heard, else-is_heard}

pub is_heard-requires : goal.is_heard-requires
is_heard-requires c = omega (arith, c.requires.in_order, c.requires.fits)

pub first_other-end-requires : goal.first_other-end-requires
first_other-end-requires c =
    let parts = map part_content c.args.parts.now in
    let there = part_there c.args.parts.now c.loop-part.part-index c.part-item.result c.loop-part-test.true c.part-item.is in
    has_places parts c.args.bits.now c.args.m c.args.until c.requires.heard (part_content c.part-item.result) c.loop-part.part-index c.loop-part.end there (c.if-is_heard.ensures.0 refl) c.loop-part.invariant.after c.loop-part.invariant.before c.requires.inside

pub loop-part-preserved : goal.loop-part-preserved
loop-part-preserved c =
    let parts = map part_content c.args.parts.now in
    let part = part_content c.part-item.result in
    let index = c.loop-part.part-index in
    let there = part_there c.args.parts.now index c.part-item.result c.loop-part-test.true c.part-item.is in
    let So_far = AlikeSoFar parts c.args.bits.now c.args.m c.args.until (index + 1) in
    elim c.if-is_heard.branch [
      | then-is_heard w ↦ subst So_far (sym w.end-is) (AlikeSoFar-heard parts c.args.bits.now c.args.m c.args.until index c.loop-part.end part there c.loop-part.invariant w.first_other-end.result (w.if-is_heard.ensures.0 refl) w.first_other-end.ensures)
      | else-is_heard w ↦ subst So_far (sym w.end-is) (AlikeSoFar-silent parts c.args.bits.now c.args.m c.args.until index c.loop-part.end part there c.loop-part.invariant (λ heard. false≢true (w.if-is_heard.ensures.1 heard)))
    ]

pub returns : goal.returns
returns c = alike_to (map part_content c.args.parts.now) c.args.bits.now c.args.m c.args.until c.requires.heard c.loop-part.part-index c.loop-part.end (omega (arith, c.loop-part-test.false, length-map c.args.parts.now part_content)) c.loop-part.invariant
