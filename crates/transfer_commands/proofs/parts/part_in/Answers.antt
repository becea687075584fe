use Rattle.std.proofs.Common.{◌∙◌, Err, ap, refl}
use Rattle.std.proofs.lemmas.Result.{err_from_is_err_and}
use Rattle.transfer_commands.proofs.ExcerptLaws.{err_says}
use Rattle.transfer_commands.proofs.FindingLaws.{lacking_any, span_any}
use Rattle.transfer_commands.proofs.SkippedLaws.{factor_said}
use Rattle.transfer_commands.proofs.parts.part_in.Goals as goal

pub returns-clause-found : goal.returns-clause-found
returns-clause-found c = λ marks. record {
  frames = c.in_ok-frames.frames;
  frames_are = c.in_ok-frames.ensures.found;
  span_is = span_any c.in_ok-frames.frames c.args.sound.now.rate _ c.args.span c.in_ok-start.start c.in_ok-start.stop refl c.in_ok-start.ensures.found marks;
}

pub returns-clause-factor : goal.returns-clause-factor
returns-clause-factor c = factor_said c.args.project.now c.args.sound.now.rate c.args.sound.now.count c.in_ok-frames.frames c.in_ok-frames.ensures.found

pub returns-in_err-frames-clause-refused : goal.returns-in_err-frames-clause-refused
returns-in_err-frames-clause-refused c =
    let r = c.from_residual.result in
    let e = err_from_is_err_and r c.from_residual.ensures.1 in
    err_says r _ _ (e.1 ∙ ap Err e.2) c.in_err-frames.ensures.refused

pub returns-in_err-start-clause-refused : goal.returns-in_err-start-clause-refused
returns-in_err-start-clause-refused c =
    let r = c.from_residual-in_err-start.result in
    let e = err_from_is_err_and r c.from_residual-in_err-start.ensures.1 in
    err_says r _ _ (e.1 ∙ ap Err e.2) (lacking_any c.args.project.now c.args.sound.now c.args.span c.in_err-start.field-0.0 _ c.in_ok-frames.frames refl c.in_ok-frames.ensures.found c.in_err-start.ensures.refused)
