use Rattle.std.proofs.Common.{◌≡◌, ◌∙◌, arith, sym}
use Rattle.clip_core.specs.Contents.{mix_content}
use Rattle.null_core.proofs.HoldingLaws.{serves_itself}
use Rattle.null_core.proofs.ranges.holder.Goals as goal

pub returns-then-serves : goal.returns-then-serves
returns-then-serves c = record { here = sym c.serves.ensures ∙ c.if-serves.true; before = c.loop-earlier.invariant }

pub returns : goal.returns
returns c =
    let end : c.loop-earlier.earlier ≡ c.args.clip = omega (arith, c.loop-earlier-test.false, c.loop-earlier.auto.earlier-end) in
    record { here = serves_itself (mix_content c.args.mix.now) c.args.clip; before = λ j lt. c.loop-earlier.invariant j (omega (arith, end, lt)) }
