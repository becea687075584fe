use Rattle.std.proofs.Common.{◌∙◌, ap, arith}
use Rattle.std.proofs.lemmas.List.{take_all}
use Rattle.std.proofs.lemmas.Result.{err_from_is_err_and}
use Rattle.dsd_bits.specs.Stretches.{stretches_of}
use Rattle.dsd_bits.proofs.stretches.stretches_of.Goals as goal

pub returns-in_err-stretch_of : goal.returns-in_err-stretch_of
returns-in_err-stretch_of c = let e = err_from_is_err_and c.from_residual.result c.from_residual.ensures.1 in rw e.1 tt

pub returns-in_err-push : goal.returns-in_err-push
returns-in_err-push c = let e = err_from_is_err_and c.from_residual-in_err-push.result c.from_residual-in_err-push.ensures.1 in rw e.1 tt

pub returns : goal.returns
returns c = c.loop-k.invariant ∙ ap (stretches_of c.args.channels.now) (take_all c.loop-k.k c.args.ranges.now (omega (arith, c.loop-k-test.false)))
