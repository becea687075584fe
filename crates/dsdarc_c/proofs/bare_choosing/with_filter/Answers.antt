use Rattle.std.proofs.Common.{Err, IfErr, ◌∙◌, ap, subst, sym}
use Rattle.std.proofs.lemmas.Result.{err_from_is_err_and}
use Rattle.dsdarc_c.specs.BareCalls.{RefusesFilter}
use Rattle.dsdarc_c.proofs.bare_choosing.with_filter.Goals as goal

pub returns-in_err-sound-clause-refused : goal.returns-in_err-sound-clause-refused
returns-in_err-sound-clause-refused c =
    let is = err_from_is_err_and c.from_residual.result c.from_residual.ensures.1 in
    let same = is.1 ∙ ap Err is.2 in
    subst (λ r. IfErr r (RefusesFilter c.args.p.now c.args.taps)) (sym same) (c.in_err-sound.ensures.refused.1 c.args.taps)
