use Rattle.std.proofs.Common.{◌<◌, arith, length, sym}
use Rattle.std.proofs.lemmas.List.{length-map}
use Rattle.std.proofs.lemmas.Result.{err_from_is_err_and}
use Rattle.cut_core.specs.Excerpts.{excerpts_content, excerpts_shape, excerpts_shapes}
use Rattle.cut_core.specs.Opening as specs
use Rattle.cut_core.proofs.Steps.{each_stops}
use Rattle.cut_core.proofs.fitting.are_alike.Goals as goal

pub returns-in_err-alike_at : goal.returns-in_err-alike_at
returns-in_err-alike_at c =
    let takes = c.args.takes.now in
    let shapes = excerpts_shapes takes in
    let there : c.loop-i.i < length shapes = omega (arith, length-map takes (λ h. excerpts_shape (excerpts_content h)), c.loop-i-test.true) in
    let p = err_from_is_err_and c.from_residual.result c.from_residual.ensures.1 in
    rw (p.1, p.2) (sym (each_stops (specs.alike_at shapes) (length shapes) c.loop-i.i c.in_err-alike_at.field-0.0 there c.loop-i.invariant.before (sym c.in_err-alike_at.ensures)))
