use Rattle.std.proofs.Common.{◌<◌, ◌∙◌, ◌++◌, [], arith, length, subst}
use Rattle.std.proofs.lemmas.List.{get_or_default}
use Rattle.judge_core.specs.Comparing.{FindsOff}
use Rattle.judge_core.proofs.AuditLaws.{stated_all, stated_next}
use Rattle.judge_core.proofs.auditor.note_firsts.Goals as goal

pub loop-c-preserved : goal.loop-c-preserved
loop-c-preserved c =
    let parts = c.args.parts.now in
    let k = c.loop-c.c in
    let there : k < length parts = omega (arith, c.loop-c-test.true, c.requires.number, c.requires.parts.number) in
    stated_next c.args.cut.now c.args.done parts c.args.firsts.now c.loop-c.firsts k c.first_off_so_far.result c.loop-c.invariant (omega (arith, c.loop-c-test.true, c.loop-c.auto.firsts))
    (λ before long states.
    subst (λ z. FindsOff c.args.cut.now k (before ++ z) c.first_off_so_far.result) (c.index-parts-c.is ∙ get_or_default parts k c.index-parts-c.result [] there) (c.first_off_so_far.ensures before long states))

pub returns : goal.returns
returns c = stated_all c.args.cut.now c.args.done c.args.parts.now c.args.firsts.now c.loop-c.firsts c.loop-c.c c.loop-c.invariant (omega (arith, c.loop-c-test.false, c.requires.number))
