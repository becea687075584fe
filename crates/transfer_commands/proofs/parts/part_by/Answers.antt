use Rattle.std.proofs.Common.{◌∙◌, Err, ap, map, subst}
use Rattle.std.proofs.lemmas.Result.{err_from_is_err_and}
use Rattle.dsd_bits.specs.Contents.{mark_content}
use Rattle.transfer_core.specs.Spans.{AreFramesOf, FramesRefused, IsSpanOf, SpanRefused}
use Rattle.transfer_commands.proofs.ExcerptLaws.{err_says}
use Rattle.transfer_commands.proofs.FindingLaws.{lacking}
use Rattle.transfer_commands.proofs.SkippedLaws.{factor_said}
use Rattle.transfer_commands.proofs.parts.part_by.Goals as goal

pub returns-clause-factor : goal.returns-clause-factor
returns-clause-factor c = factor_said c.args.project.now c.rate-rate.result c.count.result c.in_ok-frames.frames c.in_ok-frames.ensures.found

pub returns-clause-found : goal.returns-clause-found
returns-clause-found c =
    let description = c.args.reported.now.description in
    let frames = c.in_ok-frames.frames in
    let rate = c.rate-rate.ensures.value in
    let start = c.in_ok-start.start in
    let stop = c.in_ok-start.stop in
    record {
      frames = frames;
      frames_are = subst (λ n. AreFramesOf c.args.project.now description.rate n frames) c.count.ensures.value (subst (λ n. AreFramesOf c.args.project.now n c.count.result frames) rate c.in_ok-frames.ensures.found);
      span_is = subst (λ ms. IsSpanOf frames description.rate ms c.args.span start stop) c.marks.ensures (subst (λ n. IsSpanOf frames n (map mark_content c.marks.result.now) c.args.span start stop) rate c.in_ok-start.ensures.found);
    }

pub returns-in_err-frames-clause-refused : goal.returns-in_err-frames-clause-refused
returns-in_err-frames-clause-refused c =
    let r = c.from_residual.result in
    let e = err_from_is_err_and r c.from_residual.ensures.1 in
    err_says r _ _ (e.1 ∙ ap Err e.2) (subst (λ n. FramesRefused c.args.project.now n c.in_err-frames.field-0.0) c.rate-rate.ensures.value c.in_err-frames.ensures.refused)

pub returns-in_err-start-clause-refused : goal.returns-in_err-start-clause-refused
returns-in_err-start-clause-refused c =
    let description = c.args.reported.now.description in
    let frames = c.in_ok-frames.frames in
    let rate = c.rate-rate.ensures.value in
    let fault = c.in_err-start.field-0.0 in
    let r = c.from_residual-in_err-start.result in
    let e = err_from_is_err_and r c.from_residual-in_err-start.ensures.1 in
    let are = subst (λ n. AreFramesOf c.args.project.now description.rate n frames) c.count.ensures.value (subst (λ n. AreFramesOf c.args.project.now n c.count.result frames) rate c.in_ok-frames.ensures.found) in
    let refused = subst (λ ms. SpanRefused frames description.rate ms c.args.span fault) c.marks.ensures (subst (λ n. SpanRefused frames n (map mark_content c.marks.result.now) c.args.span fault) rate c.in_err-start.ensures.refused) in
    err_says r _ _ (e.1 ∙ ap Err e.2) (lacking c.args.project.now c.args.span fault description.rate description.count description.marks frames are refused)
