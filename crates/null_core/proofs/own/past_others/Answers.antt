use Rattle.std.proofs.Common.{arith, map}
use Rattle.null_core.specs.Parts.{part_content}
use Rattle.null_core.proofs.OwnLaws.{past_none}
use Rattle.null_core.proofs.own.past_others.Goals as goal

pub alone_at-alone-requires : goal.alone_at-alone-requires
alone_at-alone-requires c = omega (arith, c.requires.in_order, c.requires.fits)

pub past_heard-requires-clause-heard : goal.past_heard-requires-clause-heard
past_heard-requires-clause-heard c = λ k from to. c.alone_at-alone.ensures.heard c.in-Some.field-0 c.in-Some.is k from (omega (arith, to, c.min-end.ensures))

pub returns-in-None : goal.returns-in-None
returns-in-None c =
    past_none (map part_content c.args.parts.now) c.args.bits.now c.args.low c.min-end.result c.args.high c.alone_at-alone.result c.alone_at-alone.ensures (omega (arith, c.min-end.ensures)) (omega (arith, c.min-end.ensures)) (omega (arith, c.min-end.ensures, c.requires.in_order, c.alone_at-alone.ensures.some)) c.in-None.is
