use Rattle.std.proofs.Common.{◌<◌, arith, length, sym}
use Rattle.std.proofs.lemmas.Result.{err_from_is_err_and}
use Rattle.splice_core.specs.Splices.{splice_content}
use Rattle.cut_core.specs.Excerpts.{excerpts_shapes}
use Rattle.cut_core.specs.Opening as specs
use Rattle.cut_core.proofs.Steps.{each_stops}
use Rattle.cut_core.proofs.fitting.are_inside.Goals as goal

pub returns-in_err-inside_at : goal.returns-in_err-inside_at
returns-in_err-inside_at c =
    let splice = splice_content c.args.splice.now in
    let there : c.loop-i.i < length splice.cues = omega (arith, c.loop-i-test.true, c.cue_number-i-end.ensures.value) in
    let p = err_from_is_err_and c.from_residual.result c.from_residual.ensures.1 in
    rw (p.1, p.2) (sym (each_stops (specs.inside_at splice (excerpts_shapes c.args.takes.now)) (length splice.cues) c.loop-i.i c.in_err-inside_at.field-0.0 there c.loop-i.invariant.before (sym c.in_err-inside_at.ensures)))
