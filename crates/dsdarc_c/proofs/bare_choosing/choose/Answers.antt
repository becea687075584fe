use Rattle.std.proofs.Common.{Err, IfErr, ◌∙◌, ap, subst, sym}
use Rattle.std.proofs.lemmas.Result.{err_from_is_err_and}
use Rattle.dsdarc_c.specs.BareCalls.{RefusesChoice}
use Rattle.dsdarc_c.proofs.bare_choosing.choose.Goals as goal

pub returns-in_err-sound-clause-refused : goal.returns-in_err-sound-clause-refused
returns-in_err-sound-clause-refused c =
    let is = err_from_is_err_and c.from_residual.result c.from_residual.ensures.1 in
    let same = is.1 ∙ ap Err is.2 in
    subst (λ r. IfErr r (RefusesChoice c.args.p.now c.args.layout)) (sym same) (c.in_err-sound.ensures.refused.0 c.args.layout)
