use Rattle.std.proofs.Common.{◌≡◌, [], Err, IfErr, ◌∙◌, ap, subst, sym}
use Rattle.std.proofs.lemmas.Result.{err_from_is_err_and}
use Rattle.dsdarc_c.specs.Bare.{bare_waiting}
use Rattle.dsdarc_c.specs.BareCalls.{RefusesBareSeek}
use Rattle.dsdarc_c.specs.BareWhole.{PlaysBits}
use Rattle.dsdarc_c.specs.declared.bare.BareStage.TheVariants as stages
use Rattle.dsdarc_c.proofs.BareLaws.{failed_bits}
use Rattle.dsdarc_c.proofs.BareTakingLaws.{either}
use Rattle.dsdarc_c.proofs.bare_choosing.seek_bits.Goals as goal

pub returns-in_err-sound-clause-refused : goal.returns-in_err-sound-clause-refused
returns-in_err-sound-clause-refused c =
    let is = err_from_is_err_and c.from_residual.result c.from_residual.ensures.1 in
    let same = is.1 ∙ ap Err is.2 in
    subst (λ r. IfErr r (RefusesBareSeek c.args.p.now c.args.frame)) (sym same) (c.in_err-sound.ensures.refused c.args.frame)

pub returns-clause-plays : goal.returns-clause-plays
returns-clause-plays c file start pulled plays =
    let p = c.args.p.now in
    let new = c.start_run.new.p in
    either (PlaysBits file c.args.frame [] new) (PlaysBits file start pulled new) ((new.stage ≡ stages.Failed) × (bare_waiting new ≡ [])) c.start_run.result
    (c.start_run.ensures.plays file (c.in_ok-sound.ensures.begins file start pulled plays)) c.start_run.ensures.failed (λ failed.
    failed_bits p new file start pulled c.requires plays c.start_run.ensures.layout failed.0 failed.1)
