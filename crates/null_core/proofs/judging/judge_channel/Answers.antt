use Rattle.std.proofs.Common.{length, subst}
use Rattle.dsd_bits.proofs.ExitLaws.{no_value}
use Rattle.null_core.specs.Judging.{JudgesSpan}
use Rattle.null_core.specs.Parts.{asked_content}
use Rattle.null_core.specs.Walks.{FindsSpan}
use Rattle.null_core.proofs.SpanLaws.{judged_all, judged_over}
use Rattle.null_core.proofs.judging.judge_channel.Goals as goal

pub judge_span-requires-clause-so_far : goal.judge_span-requires-clause-so_far
judge_span-requires-clause-so_far g c = judged_over (asked_content c.args.asked) c.args.bits.now c.loop-span.stretches.items c.loop-span.from c.in-Some.span.start c.loop-span.invariant.so_far c.in-Some.ensures.after c.in-Some.ensures.before

pub loop-span-preserved : goal.loop-span-preserved
loop-span-preserved g c = record {
  inside = c.in-Some.ensures.inside;
  so_far = subst (JudgesSpan (asked_content c.args.asked) c.args.bits.now c.in-Some.span.stop c.judge_span.new.stretches.items) c.in_default-loud.is c.in_ok-loud.ensures;
}

pub returns : goal.returns
returns g c =
    let a = asked_content c.args.asked in
    let bits = c.args.bits.now in
    judged_all a bits c.loop-span.stretches.items (judged_over a bits c.loop-span.stretches.items c.loop-span.from (length bits) c.loop-span.invariant.so_far c.loop-span.invariant.inside (subst (FindsSpan a bits c.loop-span.from) c.in_default.is c.next_span.ensures))

pub returns-in_err-loud : goal.returns-in_err-loud
returns-in_err-loud g c = no_value _ _ c.from_residual.result c.from_residual.ensures.1
