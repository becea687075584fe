use Rattle.std.proofs.Common.{arith}
use Rattle.std.proofs.lemmas.Result.{err_from_is_err_and}
use Rattle.null_core.proofs.FillLaws.{longer_all, longer_none}
use Rattle.null_core.proofs.filler.push_all.Goals as goal

pub loop-c-init : goal.loop-c-init
loop-c-init c = longer_none c.args.bits.now c.args.channels.now

pub returns : goal.returns
returns c = longer_all c.args.bits.now c.args.channels.now c.loop-c.channels c.loop-c.c c.loop-c.invariant (omega (arith, c.loop-c-test.false))

pub returns-in_err-push : goal.returns-in_err-push
returns-in_err-push c = let e = err_from_is_err_and c.from_residual.result c.from_residual.ensures.1 in rw e.1 tt
